-- The law of the search for a name without its NUL.
use Rattle.std.specs.Prelude.{Some, Ok, Err}
use Rattle.std.proofs.lemmas.Option.{none-some}
use Prim.Native.Nat.{ℕ, ◌<◌}
use mathlib.Core.Path.{◌≡◌, refl, ap, ◌∙◌}
use mathlib.Core.Bool.{Bool, true, false, cond}
use mathlib.Core.List.{List}
use native.Mathlib.Omega.{arith}
use Rattle.names.specs.Rule.{names_right}
use Rattle.names.specs.Search.{not_sought, lookup}
use Rattle.names.specs.declared.Lookup.{Lookup}
use Rattle.names.proofs.Rules.{right-means}
use Rattle.names.proofs.Search.{lookup-found}
use Rattle.refusal.specs.declared.Refusal.TheVariants.{Box}
use Rattle.bit_name.specs.Find.{bare, searched}

-- a bit that is found has a number of 32 bits
pub searched-bit : (names name : List ℕ) (l : Lookup) (k : ℕ) → searched names name ≡ Ok l → l.bit ≡ Some k → k < 512
unfolding searched
searched-bit names name l k e h = go (names_right names) refl (bare name) e
  where
    go : (t : Bool) → names_right names ≡ t → (b : Bool) → cond t (Ok (cond b (lookup names name) not_sought)) (Err Box) ≡ Ok l → k < 512
    go true right true q =
        let is : lookup names name ≡ l = cc in
        let few = (right-means names right).few in
        let inside = (lookup-found names name k (ap (λ (x : Lookup). x.bit) is ∙ h)).0 in
        omega arith
    go true right false q = let is : not_sought ≡ l = cc in absurd (none-some k (ap (λ (x : Lookup). x.bit) is ∙ h))
    go false wrong b q = absurd (let z : ◌≡◌ {A = ℕ} 0 1 = cc in omega arith)
