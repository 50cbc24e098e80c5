-- Laws of the handler over settings as bytes: one for each return.
use Prim.Native.Nat.{ℕ, ◌*◌, ◌/◌, ◌%◌, ◌≤◌}
use mathlib.Core.Path.{◌≡◌, refl, sym, ap, ◌∙◌}
use mathlib.Core.List.{List}
use mathlib.Core.Bool.{Bool, true, false, not}
use lib.ListN.{length}
use lib.Dec.{eqb, leb}
use native.Mathlib.Omega.{arith}
use borrow.Author.Tests.{eq-eqb, ne_eqb, eqb-true, leb-true, not-true, not-false}
use Rattle.basics.specs.Put.{put}
use Rattle.basics.proofs.Put.{put-nil, put_whole}
use Rattle.basics.proofs.Truth.{both_true}
use Rattle.word_bytes.specs.Bytes.{words_in, bytes_of}
use Rattle.word_bytes.proofs.WordBytes.{length-words_in, length-bytes_of}
use Rattle.refusal.specs.declared.Refusal.TheVariants as R
use Rattle.boxes.specs.Box.{Box, state_of}
use Rattle.boxes.specs.declared.Call.{Call}
use Rattle.response.specs.Answer.{Performs}
use Rattle.response.specs.declared.Kind.TheVariants.{Refused}
use Rattle.response.specs.declared.Answer.{Answer}
use Rattle.handler.specs.Call.{outcome}
use Rattle.handler.specs.Bytes.{Stored, stored_of, in_words, as_stored, words_outcome, are_words, bytes_outcome}

-- the words read into a room of their size
pub words-read : (stored : Stored) (room ws : List ℕ) → length room ≡ length stored.settings / 4 → ws ≡ put room (words_in stored.settings) → ws ≡ words_in stored.settings
words-read stored room ws l e = e ∙ put_whole room (words_in stored.settings) (omega (arith, l, length-words_in stored.settings))

-- the words handled, and written back
pub words-perform : (box : Box) (stored : Stored) (call : Call) (datagram ws new after P Q : List ℕ) (r : Answer) → ws ≡ words_in stored.settings
    → Performs (outcome box (state_of ws) call datagram (length P)) P Q (state_of new) r → length stored.settings ≤ length new * 4
    → after ≡ put stored.settings (bytes_of new) → Performs (words_outcome box stored call datagram (length P)) P Q (stored_of after) r
unfolding words_outcome
words-perform box stored call datagram ws new after P Q r w d k a =
    let d2 : Performs (outcome box (in_words stored) call datagram (length P)) P Q (state_of new) r = rw w at d in
    record {
      response = d2.response;
      state-is = ap stored_of (a ∙ put_whole stored.settings (bytes_of new) (omega (arith, k, length-bytes_of new))) ∙ ap as_stored d2.state-is;
    }

module _ (box : Box) (stored : Stored) (call : Call) (datagram P : List ℕ) (r : Answer) (b : Bool) (e : b ≡ are_words stored.settings) where
  pub bytes-broken : not b ≡ true → r ≡ record { kind = Refused R.Box; next = call.position; place = 0; written = 0 } → Performs (bytes_outcome box stored call datagram (length P)) P P stored r
  unfolding bytes_outcome
  bytes-broken n q = rw (← e, not-true b n) (record { response = record { result = q; page = sym (put-nil P) }; state-is = refl })

  pub bytes-in : (Q : List ℕ) (after : Stored) → not b ≡ false → Performs (words_outcome box stored call datagram (length P)) P Q after r
      → Performs (bytes_outcome box stored call datagram (length P)) P Q after r
  unfolding bytes_outcome
  bytes-in Q after n a = rw (← e, not-false b n) a

pub ruleset bytes_laws = (bytes-broken, bytes-in)

-- whole words
pub words-odd : (settings : List ℕ) → (length settings % 4 ≡ 0 → ⊥) → false ≡ are_words settings
unfolding are_words
words-odd settings n = sym (rw (ne_eqb _ _ n))

pub words-whole : (settings : List ℕ) → length settings % 4 ≡ 0 → leb (length settings) 8192 ≡ are_words settings
unfolding are_words
words-whole settings e = sym (rw (eq-eqb _ _ e))

pub words-mean : (settings : List ℕ) (b : Bool) → b ≡ are_words settings → not b ≡ false → (length settings % 4 ≡ 0) × (length settings ≤ 8192)
unfolding are_words
words-mean settings b e n =
    let both = both_true (eqb (length settings % 4) 0) (leb (length settings) 8192) (sym e ∙ not-false b n) in
    (eqb-true _ _ both.0, leb-true _ _ both.1)
