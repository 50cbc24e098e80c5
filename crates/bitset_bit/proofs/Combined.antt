-- What INDEX and NAME say, each on its own, where they come to a number: both this number, or one of them this number and the other is absent.
use Rattle.std.specs.Prelude.{Some, None, Ok, Err}
use Prim.Native.Nat.{ℕ}
use mathlib.Core.Path.{◌≡◌, refl, sym, ap, ◌∙◌}
use mathlib.Core.Bool.{Bool, true, false, cond}
use lib.Dec.{eqb}
use native.Mathlib.Omega.{arith}
use borrow.Author.Tests.{eqb-true}
use Rattle.refusal.specs.declared.Refusal.TheVariants.{TwoBits}
use Rattle.bitset_bit.specs.Bit.{Identity, combined}

pub data Said (number : ℕ) (index name : Identity) : Type 0 where
  both_say : index ≡ Ok (Some number) → name ≡ Ok (Some number) → Said number index name
  index-says : index ≡ Ok (Some number) → name ≡ Ok None → Said number index name
  name-says : index ≡ Ok None → name ≡ Ok (Some number) → Said number index name

pub combined-said : (at number : ℕ) (index name : Identity) → combined at index name ≡ Ok (Some number) → Said number index name
combined-said at number (Err why) name e = absurd (let z : ◌≡◌ {A = ℕ} 0 1 = cc in omega arith)
combined-said at number (Ok index) (Err why) e = absurd (let z : ◌≡◌ {A = ℕ} 0 1 = cc in omega arith)
combined-said at number (Ok (Some i)) (Ok (Some k)) e = go (eqb i k) refl e
  where
    go : (t : Bool) → eqb i k ≡ t → cond t (Ok (Some i)) (Err (TwoBits at)) ≡ Ok (Some number) → Said number (Ok (Some i)) (Ok (Some k))
    go true q e =
        let n : i ≡ number = cc in
        both_say (ap (λ x. Ok (Some x)) n) (ap (λ x. Ok (Some x)) (sym (eqb-true i k q) ∙ n))
    go false q e = absurd (let z : ◌≡◌ {A = ℕ} 0 1 = cc in omega arith)
combined-said at number (Ok (Some i)) (Ok None) e = index-says e refl
combined-said at number (Ok None) (Ok name) e = name-says refl e
