-- Laws of attributes and nests: their lengths, and one for the return of each writer.
use Prim.Native.Nat.{ℕ, zero, suc, ◌+◌, ◌-◌, ◌%◌, ◌≤◌}
use mathlib.Core.Path.{◌≡◌, refl, sym, ap, ◌∙◌}
use mathlib.Core.List.{List, [], ◌∷◌, ◌++◌, append_assoc, append-nil}
use native.Mathlib.Omega.{arith}
use borrow.Rule.Slice.PartMut.{put_mid}
use lib.ListN.{length, take, drop, replicate, length-append, length-replicate}
use lib.Seq.{length-take-le, take_all}
use Rattle.basics.specs.Numbers.{le32}
use Rattle.netlink_headers.specs.Lengths.{round_up4}
use Rattle.netlink.specs.Policy.{nul_at}
use Rattle.basics.specs.Put.{put}
use Rattle.page.specs.Page.{Wrote}
use Rattle.netlink_write.specs.Headers.{attribute_header_bytes}
use Rattle.netlink_write.specs.Attributes.{padding, attr, nest, name_bytes}
use Rattle.netlink_write.specs.PaddedName.{padded_name}
use Rattle.page.proofs.Page.{then-front, then-sized}
use Rattle.netlink_write.proofs.headers.Laws.{length-attribute-header}

-- an attribute is as long as the step to the next
pub length-attr : (kind : ℕ) (payload : List ℕ) → length (attr kind payload) ≡ round_up4 (length payload + 4)
unfolding attr padding
length-attr kind payload = simp (length-append, length-attribute-header, length-replicate) (omega arith)

pub length-nest : (kind : ℕ) (contents : List ℕ) → length (nest kind contents) ≡ length contents + 4
unfolding nest
length-nest kind contents = simp (length-append, length-attribute-header) (omega arith)

-- a payload of whole words has no padding
pub attr-whole : (kind : ℕ) (payload : List ℕ) → length payload % 4 ≡ 0 → attr kind payload ≡ attribute_header_bytes (length payload + 4) kind ++ payload
unfolding attr padding
attr-whole kind payload z =
    let e : round_up4 (length payload + 4) - (length payload + 4) ≡ 0 = omega arith in
    ap (λ (k : ℕ). attribute_header_bytes (length payload + 4) kind ++ (payload ++ replicate k 0)) e
    ∙ ap (λ (l : List ℕ). attribute_header_bytes (length payload + 4) kind ++ l) (append-nil payload)

-- a payload of n bytes, a multiple of 4, past the header's four bytes, then close_attribute
pub attribute-wrote : (P ys zs bs : List ℕ) (kind n r : ℕ) → 4 ≤ length P → n ≡ length bs → n % 4 ≡ 0
    → ys ≡ put (take (length P - 4) (drop 4 P)) bs → r ≡ n + 4
    → zs ≡ put (put_mid 4 (length P - 4) P ys) (attribute_header_bytes (n + 4) kind) → Wrote (attr kind bs) P zs r
attribute-wrote P ys zs bs kind n r room e z p er q =
    let h : ℕ → List ℕ = λ k. attribute_header_bytes (k + 4) kind in
    record {
      count = omega (arith, length-attr kind bs);
      page = then-sized P h bs 4 n (length-attribute-header _ _) room e p q ∙ ap (put P) (sym (attr-whole kind bs (omega arith)));
    }

pub number-wrote : (P ys zs : List ℕ) (kind x r : ℕ) → 8 ≤ length P → ys ≡ put (take (length P - 4) (drop 4 P)) (le32 x) → r ≡ 8
    → zs ≡ put (put_mid 4 (length P - 4) P ys) (attribute_header_bytes 8 kind) → Wrote (attr kind (le32 x)) P zs r
number-wrote P ys zs kind x r room p er q = attribute-wrote P ys zs (le32 x) kind 4 r (omega arith) refl refl p er q

-- contents of n bytes past the nest's own four bytes, then close_nest
pub nest-wrote : (P ys zs cs : List ℕ) (kind n r : ℕ) → 4 ≤ length P → Wrote cs (take (length P - 4) (drop 4 P)) ys n → r ≡ n + 4
    → zs ≡ put (put_mid 4 (length P - 4) P ys) (attribute_header_bytes (n + 4) (kind + 32768)) → Wrote (nest kind cs) P zs r
unfolding nest
nest-wrote P ys zs cs kind n r room w er q =
    let h : ℕ → List ℕ = λ k. attribute_header_bytes (k + 4) (kind + 32768) in
    record {
      count = omega (arith, w.count, length-append (h (length cs)) cs, length-attribute-header (length cs + 4) (kind + 32768));
      page = then-sized P h cs 4 n (length-attribute-header _ _) room w.count w.page q;
    }

-- a flag is its header
pub flag-wrote : (P Q : List ℕ) (kind r : ℕ) → r ≡ 4 → Q ≡ put P (attribute_header_bytes 4 kind) → Wrote (attr kind []) P Q r
flag-wrote P Q kind r e q =
    record {
      count = e ∙ sym (length-attr kind []);
      page = q ∙ ap (put P) (sym (attr-whole kind [] refl ∙ append-nil (attribute_header_bytes 4 kind)));
    }

-- a payload past the header's four bytes, and zeros up to the step, then the header
pub padded-wrote : (P B C payload : List ℕ) (kind next : ℕ) → 4 ≤ length P → next ≡ round_up4 (length payload + 4)
    → B ≡ put (take (length P - 4) (drop 4 P)) (payload ++ replicate (next - 4 - length payload) 0)
    → C ≡ put (put_mid 4 (length P - 4) P B) (attribute_header_bytes (length payload + 4) kind) → Wrote (attr kind payload) P C next
unfolding attr padding
padded-wrote P B C payload kind next room en b c =
    let stated = length payload + 4 in
    let pad : next - 4 - length payload ≡ round_up4 stated - stated = omega arith in
    record {
      count = en ∙ sym (length-attr kind payload);
      page = then-front P (attribute_header_bytes stated kind) (payload ++ replicate (round_up4 stated - stated) 0) 4 (length-attribute-header stated kind) room
          (rw pad at b) c;
    }

pub payload-wrote : (P B C payload : List ℕ) (kind next : ℕ) → length payload + 7 ≤ length P → next ≡ round_up4 (length payload + 4)
    → B ≡ put (take (length P - 4) (drop 4 P)) (take (length payload) payload ++ replicate (next - 4 - length payload) 0)
    → C ≡ put (put_mid 4 (length P - 4) P B) (attribute_header_bytes (length payload + 4) kind) → Wrote (attr kind payload) P C next
payload-wrote P B C payload kind next room en b c =
    padded-wrote P B C payload kind next (omega arith) en (rw (take_all (length payload) payload (omega arith)) at b) c

pub nul-le : (s : List ℕ) → nul_at s ≤ length s
unfolding nul_at
nul-le [] = omega arith
nul-le (zero ∷ s) = omega arith
nul-le (suc b ∷ s) = omega (arith, nul-le s)

-- the bytes of a name before its first NUL
pub length-name : (name : List ℕ) (n : ℕ) → n ≡ nul_at name → length (take n name) ≡ n
length-name name n e = length-take-le n name (omega (arith, nul-le name))

pub length-name_bytes : (name : List ℕ) → length (name_bytes name) ≡ nul_at name + 1
unfolding name_bytes
length-name_bytes name = omega (arith, length-append (take (nul_at name) name) (0 ∷ []), length-name name (nul_at name) refl)

-- a name, its NUL and the padding
name-padded : (name : List ℕ) (z : ℕ) → 4 - nul_at name % 4 ≡ suc z → padded_name name ≡ name_bytes name ++ replicate z 0
unfolding padded_name name_bytes
name-padded name z e =
    ap (λ (k : ℕ). take (nul_at name) name ++ replicate k 0) e ∙ sym (append_assoc (take (nul_at name) name) (0 ∷ []) (replicate z 0))

pub name-wrote : (P B C name : List ℕ) (kind n next : ℕ) → length name + 8 ≤ length P → n ≡ nul_at name → next ≡ round_up4 (n + 5)
    → B ≡ put (take (length P - 4) (drop 4 P)) (padded_name name) → C ≡ put (put_mid 4 (length P - 4) P B) (attribute_header_bytes (n + 5) kind)
    → Wrote (attr kind (name_bytes name)) P C next
name-wrote P B C name kind n next room e en b c =
    let long = length-name_bytes name in
    let z = next - 4 - length (name_bytes name) in
    let stated : n + 5 ≡ length (name_bytes name) + 4 = omega arith in
    let pad : 4 - nul_at name % 4 ≡ suc z = omega arith in
    padded-wrote P B C (name_bytes name) kind next (omega arith) (omega arith) (rw (name-padded name z pad) at b) (rw stated at c)
