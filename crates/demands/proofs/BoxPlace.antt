-- Where a part of the box is at fault, as `box_fault` tells it, by the rules as document 01 has them (`demands` BoxFault).
--     roll-longest    in a roll: where its longest right beginning ends
--     list-longest    so in a name list
--     place_other     in settings of another length: at the smaller of both lengths
--     place-exact     in settings of the right length: where the first word at fault begins
--     right-long      the right length is 4 bytes for each word of all ports' sets
use Prim.Native.Nat.{ℕ, zero, suc, ◌-◌, ◌*◌, ◌≤◌, ◌<◌, min}
use mathlib.Core.Path.{◌≡◌, refl, sym, ap, ◌∙◌}
use mathlib.Core.List.{List, ◌++◌}
use mathlib.Core.Bool.{Bool, true, false}
use lib.ListN.{length, take, drop, replicate}
use lib.Seq.{length-take-le, take-take}
use native.Mathlib.Omega.{arith}
use Rattle.basics.specs.Put.{put}
use Rattle.basics.proofs.Truth.{clash}
use Rattle.word_bytes.specs.Bytes.{words_in}
use Rattle.word_bytes.proofs.WordBytes.{length-words_in}
use Rattle.names.specs.Rule.{names_right}
use Rattle.roll_rule.specs.Rule.{roll_right}
use Rattle.layout.specs.declared.Sizes.{Sizes}
use Rattle.layout.specs.Layout.{port_words, total_words}
use Rattle.boxes.specs.Settings.{settings_right}
use Rattle.box_fault.specs.Longest.{right_up_to}
use Rattle.box_fault.specs.Settings.{right_length, with_zeros, right_with_zeros}
use Rattle.box_fault.proofs.longest.Laws.{up-to-inside, up-to-right, up-to-most}
use Rattle.demands.specs.BoxRules.{NameList, PortRoll}
use Rattle.demands.specs.BoxFault.{Exactly, LongestRight, all_words, zeros_behind, RightBeginning, SettingsPlace}
use Rattle.demands.proofs.BoxNames.{list-exactly}
use Rattle.demands.proofs.BoxRoll.{roll-exactly}
use Rattle.demands.proofs.BoxRules.{settings-exactly}
use Rattle.demands.proofs.BoxBeginnings.{roll-beginning, list-beginning, settings-beginning, first_word}

-- the longest beginning that the code finds, where its test is the rule
module _ (right : List ℕ → Bool) (Rule : List ℕ → Type 0) (exactly : (s : List ℕ) → Exactly (right s ≡ true) (Rule s)) (item : ℕ)
    (some : (k : ℕ) → 1 ≤ k → 1 ≤ k * item) (cut : (s : List ℕ) → Rule s → (k : ℕ) → 1 ≤ k → k * item ≤ length s → Rule (take (k * item) s))
    (s : List ℕ) where
  abbrev end : ℕ
  end = right_up_to right s

  is_right : 0 < end → Rule (take end s)
  is_right l = (exactly (take end s)).0 (up-to-right right s l)

  longest-right : LongestRight Rule item s end
  longest-right =
      record {
        inside = up-to-inside right s;
        right = is_right;
        longer = λ n l u r. up-to-most right s n l u ((exactly (take n s)).1 r);
        shorter = λ k l u. let positive = some k l in
            let long = length-take-le end s (up-to-inside right s) in
            rw (take-take (k * item) end s u) at (cut (take end s) (is_right (omega arith)) k l (omega arith));
      }

-- settings
drop-zeros : (m n : ℕ) → ◌≡◌ {A = List ℕ} (drop m (replicate n 0)) (replicate (n - m) 0)
drop-zeros zero n = let q : n - 0 ≡ n = omega arith in rw q
drop-zeros (suc m) zero = let q : 0 - suc m ≡ 0 = omega arith in rw q
drop-zeros (suc m) (suc n) = let q : suc n - suc m ≡ n - m = omega arith in rw q (drop-zeros m n)

module _ (ports : ℕ) (sizes : Sizes) where
  abbrev all : ℕ
  all = all_words ports sizes.debug sizes.flags

  abbrev Begins : List ℕ → Type 0
  Begins words = RightBeginning ports sizes.debug sizes.flags words

  zeros-are : (words : List ℕ) → with_zeros ports sizes words ≡ zeros_behind all words
  unfolding with_zeros zeros_behind put total_words port_words
  zeros-are words = ap (λ (l : List ℕ). words ++ l) (drop-zeros (length words) all)

  begins-exactly : (words : List ℕ) → Exactly (right_with_zeros ports sizes words ≡ true) (Begins words)
  unfolding right_with_zeros
  begins-exactly words = rw (zeros-are words) (settings-exactly (zeros_behind all words) ports sizes)

  pub right-long : right_length ports sizes ≡ all * 4
  unfolding total_words port_words
  right-long = refl

  module _ (settings : List ℕ) where
    pub place_other : (length settings ≡ right_length ports sizes → ⊥)
        → SettingsPlace ports sizes.debug sizes.flags settings (min (length settings) (right_length ports sizes))
    place_other n =
        let l = right-long in
        record { inside = omega arith; other = λ z. ap (min (length settings)) l; exact = λ e. absurd (n (e ∙ sym l)) }

    pub place-exact : length settings ≡ right_length ports sizes → settings_right (words_in settings) ports sizes ≡ false
        → SettingsPlace ports sizes.debug sizes.flags settings (right_up_to (right_with_zeros ports sizes) (words_in settings) * 4)
    place-exact e h =
        let exact : length settings ≡ all * 4 = e ∙ right-long in
        let words : length (words_in settings) ≡ all = omega (arith, length-words_in settings) in
        let longest = longest-right (right_with_zeros ports sizes) Begins begins-exactly 1 (λ k l. omega arith)
        (λ s r k l u. settings-beginning ports sizes.debug sizes.flags s r (k * 1) u) (words_in settings) in
        let inside = longest.inside in
        record {
          inside = omega arith;
          other = λ n. absurd (n exact);
          exact = λ z. (
            right_up_to (right_with_zeros ports sizes) (words_in settings),
            refl,
            first_word ports sizes.debug sizes.flags (words_in settings) words (λ r. clash ((settings-exactly (words_in settings) ports sizes).1 r) h) _ longest,
          );
        }

pub list-longest : (s : List ℕ) → LongestRight NameList 32 s (right_up_to names_right s)
list-longest s = longest-right names_right NameList list-exactly 32 (λ k l. omega arith) list-beginning s

pub roll-longest : (roll : List ℕ) → LongestRight PortRoll 21 roll (right_up_to roll_right roll)
roll-longest roll = longest-right roll_right PortRoll roll-exactly 21 (λ k l. omega arith) roll-beginning roll
