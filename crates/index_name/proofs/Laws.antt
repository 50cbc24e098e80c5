-- Laws of the nest of an index and a name: how long it is, and one for each return of its writers.
use Prim.Native.Nat.{ℕ, zero, suc, ◌+◌, ◌-◌, ◌%◌, ◌≤◌}
use mathlib.Core.Path.{◌≡◌, refl, sym, ap, ◌∙◌}
use mathlib.Core.Bool.{Bool, true, false, cond}
use mathlib.Core.List.{List, [], ◌∷◌, append-nil}
use lib.Dec.{eqb}
use lib.ListN.{length, take, drop, get_or, length-append}
use native.Mathlib.Omega.{arith}
use borrow.Author.Tests.{ne_eqb}
use borrow.Rule.Slice.PartMut.{put_mid}
use Rattle.basics.specs.Numbers.{le32}
use Rattle.basics.specs.Put.{put}
use Rattle.basics.proofs.Put.{then-rest}
use Rattle.page.specs.Page.{Wrote}
use Rattle.netlink_headers.specs.Lengths.{round_up4}
use Rattle.netlink.specs.Policy.{nul_at}
use Rattle.netlink_write.specs.Headers.{attribute_header_bytes}
use Rattle.netlink_write.specs.Attributes.{attr, name_bytes}
use Rattle.netlink_write.proofs.attributes.Laws.{length-attr, length-nest, length-name_bytes, nest-wrote}
use Rattle.index_name.specs.IndexName.{name_if_any, index_and_name, index_nest}

-- how long they are: whole words
length-name-if-any : (name : List ℕ) → (length (name_if_any name) % 4 ≡ 0) × (length (name_if_any name) ≤ round_up4 (nul_at name + 5))
unfolding name_if_any
length-name-if-any name = go (eqb (nul_at name) 0)
  where
    go : (t : Bool) → (length (cond t [] (attr 2 (name_bytes name))) % 4 ≡ 0) × (length (cond t [] (attr 2 (name_bytes name))) ≤ round_up4 (nul_at name + 5))
    go true = (refl, omega arith)
    go false = let l = length-attr 2 (name_bytes name) in let p = length-name_bytes name in (omega arith, omega arith)

module _ (index : ℕ) (name : List ℕ) where
  pub index-name-whole : length (index_and_name index name) % 4 ≡ 0
  unfolding index_and_name
  index-name-whole =
      let n = length-name-if-any name in
      omega (arith, length-append (attr 1 (le32 index)) (name_if_any name), length-attr 1 (le32 index))

  pub index-name-most : length (index_and_name index name) ≤ round_up4 (nul_at name + 5) + 8
  unfolding index_and_name
  index-name-most =
      let n = length-name-if-any name in
      omega (arith, length-append (attr 1 (le32 index)) (name_if_any name), length-attr 1 (le32 index))

  pub length-index-nest : (kind : ℕ) → length (index_nest kind index name) ≡ length (index_and_name index name) + 4
  unfolding index_nest
  length-index-nest kind = length-nest kind (index_and_name index name)

  -- so what was written can be closed as a nest
  pub index-name-close : (P Q : List ℕ) (n : ℕ) → Wrote (index_and_name index name) P Q n → n % 4 ≡ 0
  index-name-close P Q n w = ap (λ (k : ℕ). k % 4) w.count ∙ index-name-whole

-- whether there is a name, by its first byte
pub name-empty : (s : List ℕ) → length s ≡ 0 → true ≡ eqb (nul_at s) 0
unfolding nul_at
name-empty [] e = refl
name-empty (b ∷ s) e = absurd (omega arith)

pub name-first : (s : List ℕ) → eqb (get_or s 0 0) 0 ≡ eqb (nul_at s) 0
unfolding nul_at
name-first [] = refl
name-first (zero ∷ s) = refl
name-first (suc b ∷ s) = ne_eqb (suc b) 0 (λ q. omega arith) ∙ sym (ne_eqb (suc (nul_at s)) 0 (λ q. omega arith))

-- without a name and with one
module _ (name : List ℕ) (index : ℕ) (b : Bool) (e : b ≡ eqb (nul_at name) 0) where
  pub index-alone : (P Q : List ℕ) (k : ℕ) → b ≡ true → k ≡ 8 → Wrote (attr 1 (le32 index)) P Q k → Wrote (index_and_name index name) P Q 8
  unfolding index_and_name name_if_any
  index-alone P Q k t ek w = rw (← e, t, append-nil (attr 1 (le32 index)), ← ek) w

  pub index-then-name : (P A B : List ℕ) (k m : ℕ) → b ≡ false → length name + 16 ≤ length P → k ≡ 8 → Wrote (attr 1 (le32 index)) P A k
      → Wrote (attr 2 (name_bytes name)) (take (length A - 8) (drop 8 A)) B m → Wrote (index_and_name index name) P (put_mid 8 (length A - 8) A B) (m + 8)
  unfolding index_and_name name_if_any
  index-then-name P A B k m f room ek a w =
      let one = attr 1 (le32 index) in
      let two = attr 2 (name_bytes name) in
      rw (← e, f)
      (record {
        count = omega (arith, a.count, w.count, length-append one two);
        page = then-rest P one two 8 (sym a.count ∙ ek) (omega (arith, a.count)) a.page w.page;
      })

-- the nest of the two
pub index-nest-wrote : (P ys zs name : List ℕ) (kind index n r : ℕ) → length name + 20 ≤ length P → Wrote (index_and_name index name) (take (length P - 4) (drop 4 P)) ys n
    → r ≡ n + 4 → zs ≡ put (put_mid 4 (length P - 4) P ys) (attribute_header_bytes (n + 4) (kind + 32768)) → Wrote (index_nest kind index name) P zs r
unfolding index_nest
index-nest-wrote P ys zs name kind index n r room w er q = nest-wrote P ys zs (index_and_name index name) kind n r (omega arith) w er q
