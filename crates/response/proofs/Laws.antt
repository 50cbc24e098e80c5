-- Laws of the answers that write.
use Prim.Native.Nat.{ℕ, ◌/◌, ◌%◌, ◌≤◌}
use mathlib.Core.Path.{◌≡◌, subst, refl, sym, ap}
use mathlib.Core.List.{List, []}
use mathlib.Core.Bool.{Bool, true, false, cond}
use lib.ListN.{length}
use lib.Dec.{eqb}
use native.Mathlib.Omega.{arith}
use borrow.Author.Tests.{eq-eqb, ne_eqb}
use Rattle.basics.proofs.Put.{put-nil}
use Rattle.netlink_headers.specs.declared.headers.MessageHeader.{MessageHeader}
use Rattle.page.specs.Page.{Wrote}
use Rattle.netlink_error.specs.Error.{detail_bytes, error_message}
use Rattle.netlink_error.proofs.Laws.{length-error}
use Rattle.netlink_error.specs.declared.Detail.TheVariants.{Nothing}
use Rattle.refusal.specs.Refusal.{row_of, errno_of, detail_of}
use Rattle.refusal.specs.declared.Refusal.{Refusal}
use Rattle.refusal.specs.declared.Row.{Row}
use Rattle.response.specs.Answer.{response_of, error_response, ack_bytes, ack_length, Responds}
use Rattle.response.specs.declared.Kind.{Kind}
use Rattle.response.specs.declared.Kind.TheVariants.{Refused}

-- the response whose bytes were written
pub wrote-responds : (k : Kind) (next : ℕ) (bs P Q : List ℕ) (w : ℕ) → Wrote bs P Q w → Responds (response_of k next bs) P Q (record { kind = k; next = next; place = 0; written = w })
wrote-responds k next bs P Q w h = record { result = ap (λ (n : ℕ). record { kind = k; next = next; place = 0; written = n }) h.count; page = h.page }

pub refuse-responds : (m : List ℕ) (next : ℕ) (why : Refusal) (P Q : List ℕ) (row : Row) (w : ℕ) → row ≡ row_of why
    → Wrote (error_message m row.errno row.detail) P Q w → Responds (error_response m next why) P Q (record { kind = Refused why; next = next; place = 0; written = w })
refuse-responds m next why P Q row w e h =
    wrote-responds (Refused why) next (error_message m (errno_of why) (detail_of why)) P Q w
    (subst (λ (x : Row). Wrote (error_message m x.errno x.detail) P Q w) e h)

module _ (m : List ℕ) (h : MessageHeader) (P : List ℕ) where
  pub ack-asked : (Q : List ℕ) (r : ℕ) → h.flags / 4 % 2 ≡ 1 → Wrote (error_message m 0 Nothing) P Q r → Wrote (ack_bytes m h) P Q r
  unfolding ack_bytes
  ack-asked Q r e w = rw (eq-eqb (h.flags / 4 % 2) 1 e) w

  pub ack-none : (h.flags / 4 % 2 ≡ 1 → ⊥) → Wrote (ack_bytes m h) P P 0
  unfolding ack_bytes
  ack-none n = rw (ne_eqb (h.flags / 4 % 2) 1 n) (record { count = refl; page = sym (put-nil P) })

pub ruleset ack-laws = (ack-asked, ack-none)

-- how long it is
module _ (h : MessageHeader) where
  pub ack-whole : h.flags / 4 % 2 ≡ 1 → 36 ≡ ack_length h
  unfolding ack_length
  ack-whole e = sym (rw (eq-eqb (h.flags / 4 % 2) 1 e))

  pub ack-no-bytes : (h.flags / 4 % 2 ≡ 1 → ⊥) → 0 ≡ ack_length h
  unfolding ack_length
  ack-no-bytes n = sym (rw (ne_eqb (h.flags / 4 % 2) 1 n))

  pub ack-most : ack_length h ≤ 36
  unfolding ack_length
  ack-most = go (eqb (h.flags / 4 % 2) 1)
    where
      go : (t : Bool) → cond t 36 0 ≤ 36
      go true = omega arith
      go false = omega arith

  pub ack-whole-or-none : (ack_length h ≡ 0 → ⊥) → ack_length h ≡ 36
  unfolding ack_length
  ack-whole-or-none n = go (eqb (h.flags / 4 % 2) 1) refl
    where
      go : (t : Bool) → eqb (h.flags / 4 % 2) 1 ≡ t → ack_length h ≡ 36
      go true e = rw e
      go false e = absurd (n (rw e))

  pub length-ack : (m : List ℕ) → 16 ≤ length m → length (ack_bytes m h) ≡ ack_length h
  unfolding ack_bytes ack_length detail_bytes
  length-ack m long = go (eqb (h.flags / 4 % 2) 1)
    where
      go : (t : Bool) → length (cond t (error_message m 0 Nothing) []) ≡ cond t 36 0
      go true = length-error m long 0 Nothing
      go false = refl

pub ruleset ack-length-laws = (ack-whole, ack-no-bytes)
