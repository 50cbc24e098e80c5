-- Laws of places: how they are computed, and that a set lies inside the settings.
use Prim.Native.Nat.{ℕ, ◌+◌, ◌-◌, ◌*◌, ◌≤◌, ◌<◌}
use mathlib.Core.Path.{◌≡◌, refl, sym, ap, ◌∙◌}
use mathlib.Core.List.{List}
use mathlib.Core.Bool.{Bool, true}
use native.Mathlib.Nat.{mul-le-mul, mul-le-mul_right, add-mul}
use native.Mathlib.Omega.{arith}
use lib.ListN.{length, take, drop, length-drop}
use lib.Seq.{length-take-le}
use Rattle.basics.proofs.Truth.{both_true}
use Rattle.bits.specs.Set.{words_for}
use Rattle.layout.specs.declared.Set.{Set}
use Rattle.layout.specs.declared.Set.TheVariants.{Debug, Flags}
use Rattle.layout.specs.declared.Sizes.{Sizes}
use Rattle.layout.specs.Layout.{Names, names_of, list_of, size_of, of_lists, of_sizes, widths_of, every_set, port_words, first_of, total_words, set_place, set_at}
use Rattle.layout.specs.AtMost.{AtMost}

-- the set's own
module _ (set : Set) (debug flags : List ℕ) where
  pub list-debug : set ≡ Debug → debug ≡ list_of (names_of debug flags) set
  unfolding list_of
  list-debug e = sym (rw e)

  pub list-flags : set ≡ Flags → flags ≡ list_of (names_of debug flags) set
  unfolding list_of
  list-flags e = sym (rw e)

pub ruleset list-laws = (list-debug, list-flags)

module _ (set : Set) (sizes : Sizes) where
  pub size-debug : set ≡ Debug → sizes.debug ≡ size_of sizes set
  unfolding size_of
  size-debug e = sym (rw e)

  pub size-flags : set ≡ Flags → sizes.flags ≡ size_of sizes set
  unfolding size_of
  size-flags e = sym (rw e)

  pub first-debug : set ≡ Debug → 0 ≡ first_of sizes set
  unfolding first_of
  first-debug e = sym (rw e)

  pub first-flags : set ≡ Flags → sizes.debug ≡ first_of sizes set
  unfolding first_of
  first-flags e = sym (rw e)

pub ruleset size-laws = (size-debug, size-flags)

pub ruleset first-laws = (first-debug, first-flags)

pub widths-are : (sizes : Sizes) (debug flags : ℕ) → debug ≡ words_for sizes.debug → flags ≡ words_for sizes.flags
    → record { debug = debug; flags = flags } ≡ widths_of sizes
widths-are sizes debug flags ed ef = rw (ed, ef)

pub lists_of : (f : List ℕ → ℕ) (names : Names) (set : Set) → size_of (of_lists f names) set ≡ f (list_of names set)
unfolding size_of list_of
lists_of f names Debug = refl
lists_of f names Flags = refl

pub sizes-of : (f : ℕ → ℕ) (sizes : Sizes) (set : Set) → size_of (of_sizes f sizes) set ≡ f (size_of sizes set)
unfolding size_of
sizes-of f sizes Debug = refl
sizes-of f sizes Flags = refl

pub every-each : (f : Set → Bool) → every_set f ≡ true → (set : Set) → f set ≡ true
unfolding every_set
every-each f h Debug = (both_true (f Debug) (f Flags) h).0
every-each f h Flags = (both_true (f Debug) (f Flags) h).1

pub each-every : (f : Set → Bool) → ((set : Set) → f set ≡ true) → every_set f ≡ true
unfolding every_set
each-every f h = rw (h Debug, h Flags)

pub widths-few : (sizes width : Sizes) → width ≡ widths_of sizes → AtMost 512 sizes → AtMost 16 width
widths-few sizes width e few = rw e (omega arith)

pub size_few : (most : ℕ) (sizes : Sizes) (set : Set) → AtMost most sizes → size_of sizes set ≤ most
unfolding size_of
size_few most sizes Debug few = few.debug
size_few most sizes Flags few = few.flags

-- the words of some ports
pub port-few : (width : Sizes) → AtMost 16 width → port_words width ≤ 32
unfolding port_words
port-few width few = omega arith

pub words-room : (ports n : ℕ) (width : Sizes) → ports ≤ 64 → AtMost 16 width → n ≡ port_words width → ports * n ≤ 2048
words-room ports n width h few e = rw e (mul-le-mul h (port-few width few))

pub words-few : (ports : ℕ) (width : Sizes) → ports ≤ 64 → AtMost 16 width → total_words ports width ≤ 2048
unfolding total_words
words-few ports width h few = words-room ports (port_words width) width h few refl

pub first-few : (width : Sizes) (set : Set) → AtMost 16 width → first_of width set ≤ 16
unfolding first_of
first-few width Debug few = omega arith
first-few width Flags few = few.debug

pub words-is : (ports : ℕ) (width : Sizes) (n r : ℕ) → n ≡ port_words width → r ≡ ports * n → r ≡ total_words ports width
unfolding total_words
words-is ports width n r en er = rw (er, en)

-- a port's words end where those of the ports after it start
pub port-step : (n p q : ℕ) → p < q → p * n + n ≤ q * n
port-step n p q h =
    let a : (p + 1) * n ≤ q * n = mul-le-mul_right n (omega arith) in
    let b = add-mul p 1 n in
    omega arith

-- a set lies in its port's words
pub in-port : (width : Sizes) (set : Set) → first_of width set + size_of width set ≤ port_words width
unfolding first_of size_of port_words
in-port width Debug = omega arith
in-port width Flags = omega arith

-- inside: the words of a set lie in those of all ports
module _ (ports : ℕ) (width : Sizes) (position : ℕ) (set : Set) (h : position < ports) where
  pub place_inside : set_place ports width position set + size_of width set ≤ total_words ports width
  unfolding set_place total_words
  place_inside = omega (arith, port-step (port_words width) position ports h, in-port width set)

  module _ (settings : List ℕ) (e : length settings ≡ total_words ports width) where
    pub set-length : length (set_at settings ports width position set) ≡ size_of width set
    unfolding set_at
    set-length =
        length-take-le (size_of width set) (drop (set_place ports width position set) settings)
        (rw (length-drop (set_place ports width position set) settings) (let i = place_inside in omega arith))

pub place_is : (ports : ℕ) (width : Sizes) (position : ℕ) (set : Set) (first before r : ℕ) → first ≡ first_of width set → before ≡ total_words position width → r ≡ before + first
    → r ≡ set_place ports width position set
unfolding set_place total_words
place_is ports width position set first before r ef eb er = rw (er, ef, eb)

-- the part from a set's first word to its end is that set
pub set_is : (settings : List ℕ) (ports : ℕ) (width : Sizes) (position : ℕ) (set : Set) (at w end : ℕ) → at ≡ set_place ports width position set → w ≡ size_of width set
    → end ≡ at + w → take (end - at) (drop at settings) ≡ set_at settings ports width position set
unfolding set_at
set_is settings ports width position set at w end ea ew ee =
    let k : end - at ≡ w = omega arith in
    ap (λ (n : ℕ). take n (drop at settings)) (k ∙ ew) ∙ ap (λ (n : ℕ). take (size_of width set) (drop n settings)) ea
