-- Laws of the policy: one for each return of its functions, and for each turn of the search for a NUL.
use Prim.Native.Nat.{ℕ, zero, suc, ◌+◌, ◌≤◌, ◌<◌}
use mathlib.Core.Path.{◌≡◌, refl, sym, ap, ◌∙◌}
use mathlib.Core.List.{List, ◌∷◌}
use mathlib.Core.Bool.{Bool, true, false, ◌||◌}
use lib.ListN.{length, get_or, drop, drop_of_length-le, get_or-eq_default}
use lib.Seq.{drop-cons}
use lib.Dec.{eqb, leb}
use native.Mathlib.Numerals.{add-one}
use native.Mathlib.Omega.{arith}
use borrow.Author.Tests.{eq-eqb, ne_eqb, eqb-false}
use Rattle.basics.specs.Scan.{any}
use Rattle.basics.proofs.Scan.{any-not}
use Rattle.netlink.specs.Policy.{rule_of, nul_at, is_name_payload, plain, nested, judged}
use Rattle.netlink.specs.NulSearch.{NulFrom, is_nul}
use Rattle.netlink.specs.declared.policy.Rule.{Rule}
use Rattle.netlink.specs.declared.policy.Rule.TheVariants.{Unlisted, Nest, Number, Flag, Name, Bytes}
use Rattle.netlink.specs.declared.policy.Fault.TheVariants.{Unknown, Payload}
use Rattle.netlink.specs.declared.policy.Verdict.{Verdict}
use Rattle.netlink.specs.declared.policy.Verdict.TheVariants.{Right, Wrong}

pub rule-past : (p : List Rule) (k : ℕ) → length p ≡ 8 → 8 ≤ k → Unlisted ≡ rule_of p k
unfolding rule_of
rule-past p k e h = sym (get_or-eq_default p Unlisted (omega arith))

pub rule-in : (p : List Rule) (k : ℕ) → get_or p k Unlisted ≡ rule_of p k
unfolding rule_of
rule-in p k = refl

pub ruleset rule-laws = (rule-past, rule-in)

-- the search for a NUL has passed every byte before i
pub nul-start : (s : List ℕ) → NulFrom s 0
nul-start s = omega arith

module _ (s : List ℕ) (i : ℕ) (inv : NulFrom s i) where
  pub nul-end : length s ≤ i → i ≡ nul_at s
  unfolding nul_at
  nul-end h = omega (arith, rw (drop_of_length-le s h) at inv)

  pub nul-here : i < length s → get_or s i 0 ≡ 0 → i ≡ nul_at s
  unfolding nul_at
  nul-here h e = omega (arith, rw (drop-cons s i 0 h, e) at inv)

  pub nul-more : i < length s → (get_or s i 0 ≡ 0 → ⊥) → NulFrom s (i + 1)
  unfolding nul_at
  nul-more h n = rw (inv, drop-cons s i 0 h, add-one i) (go (get_or s i 0) n)
    where
      go : (b : ℕ) → (b ≡ 0 → ⊥) → i + nul_at (b ∷ drop (suc i) s) ≡ suc i + nul_at (drop (suc i) s)
      go zero n = absurd (n refl)
      go (suc b) n = omega arith

-- so many bytes more, none of which is NUL
nul-run : (s : List ℕ) (i n : ℕ) → NulFrom s i → i + n ≤ length s → ((j : ℕ) → j < n → is_nul s i j ≡ false) → NulFrom s (i + n)
unfolding is_nul
nul-run s i zero inv h f = let k : i + 0 ≡ i = omega arith in rw k inv
nul-run s i (suc n) inv h f =
    let k : i + suc n ≡ i + n + 1 = omega arith in
    rw k (nul-more s (i + n) (nul-run s i n inv (omega arith) (λ j l. f j (omega arith))) (omega arith) (eqb-false _ _ (f n (omega arith))))

pub nul-none : (s : List ℕ) (i n : ℕ) (b : Bool) → NulFrom s i → i + n ≤ length s → b ≡ any n (is_nul s i) → b ≡ false → NulFrom s (i + n)
nul-none s i n b inv h eb z = nul-run s i n inv h (λ j l. any-not (is_nul s i) n j (sym eb ∙ z) l)

pub ruleset nul-laws = (nul-start, nul-end, nul-here, nul-more)

-- whether one of the bytes before j is NUL
module _ (s : List ℕ) (at : ℕ) where
  pub some-start : false ≡ any 0 (is_nul s at)
  unfolding any
  some-start = refl

  pub some_more : (j : ℕ) (b : Bool) → b ≡ any j (is_nul s at) → b || eqb (get_or s (at + j) 0) 0 ≡ any (j + 1) (is_nul s at)
  unfolding any is_nul
  some_more j b e = rw (add-one j, e)

  pub some-done : (j n : ℕ) (b : Bool) → b ≡ any j (is_nul s at) → j ≤ n → n ≤ j → b ≡ any n (is_nul s at)
  some-done j n b e l u = let k : j ≡ n = omega arith in rw k at e

module _ (max : ℕ) (s : List ℕ) (n : ℕ) (e : n ≡ nul_at s) where
  pub name-open : length s ≤ n → false ≡ is_name_payload max s
  unfolding is_name_payload
  name-open h = simp (ne_eqb (nul_at s + 1) (length s) (λ q. omega arith))

  pub name-else : (n + 1 ≡ length s → ⊥) → false ≡ is_name_payload max s
  unfolding is_name_payload
  name-else h = simp (ne_eqb (nul_at s + 1) (length s) (λ q. h (ap (λ (k : ℕ). k + 1) e ∙ q)))

  pub name-ends : n + 1 ≡ length s → leb (length s) max ≡ is_name_payload max s
  unfolding is_name_payload
  name-ends h = simp (eq-eqb (nul_at s + 1) (length s) (ap (λ (k : ℕ). k + 1) (sym e) ∙ h))

pub ruleset name-laws = (name-open, name-else, name-ends)

module _ (bits : ℕ) (fits : Bool) where
  pub plain-bits : (bits ≡ 0 → ⊥) → Wrong Payload ≡ plain bits fits
  unfolding plain
  plain-bits h = simp (ne_eqb bits 0 h)

  pub plain-right : bits ≡ 0 → fits ≡ true → Right ≡ plain bits fits
  unfolding plain
  plain-right h e = simp (eq-eqb bits 0 h, e)

  pub plain-wrong : bits ≡ 0 → fits ≡ false → Wrong Payload ≡ plain bits fits
  unfolding plain
  plain-wrong h e = simp (eq-eqb bits 0 h, e)

pub ruleset plain-laws = (plain-bits, plain-right, plain-wrong)

pub nested-right : (bits : ℕ) → bits ≡ 2 → Right ≡ nested bits
unfolding nested
nested-right bits h = simp (eq-eqb bits 2 h)

pub nested-wrong : (bits : ℕ) → (bits ≡ 2 → ⊥) → Wrong Payload ≡ nested bits
unfolding nested
nested-wrong bits h = simp (ne_eqb bits 2 h)

pub ruleset nested-laws = (nested-right, nested-wrong)

module _ (r : Rule) (bits : ℕ) (payload : List ℕ) where
  pub judge-unlisted : r ≡ Unlisted → Wrong Unknown ≡ judged r bits payload
  unfolding judged
  judge-unlisted q = rw q

  module _ (v : Verdict) where
    pub judge-nest : r ≡ Nest → v ≡ nested bits → v ≡ judged r bits payload
    unfolding judged
    judge-nest q e = rw q e

    pub judge-number : r ≡ Number → v ≡ plain bits (eqb (length payload) 4) → v ≡ judged r bits payload
    unfolding judged
    judge-number q e = rw q e

    pub judge-flag : r ≡ Flag → v ≡ plain bits (eqb (length payload) 0) → v ≡ judged r bits payload
    unfolding judged
    judge-flag q e = rw q e

    pub judge-name : (max : ℕ) (t : Bool) → r ≡ Name max → t ≡ is_name_payload max payload → v ≡ plain bits t → v ≡ judged r bits payload
    unfolding judged
    judge-name max t q f e = rw (q, ← f) e

    pub judge-bytes : r ≡ Bytes → v ≡ plain bits true → v ≡ judged r bits payload
    unfolding judged
    judge-bytes q e = rw q e

pub ruleset judge-laws = (judge-unlisted, judge-nest, judge-number, judge-flag, judge-name, judge-bytes)
