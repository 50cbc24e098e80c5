-- Laws of a name that is written in no more room than it takes.
use Prim.Native.Nat.{ℕ, suc, ◌+◌, ◌-◌, ◌^◌, ◌≤◌}
use mathlib.Core.Path.{◌≡◌, sym, ap, ◌∙◌}
use mathlib.Core.List.{List, [], ◌∷◌, ◌++◌, append_assoc}
use native.Mathlib.Omega.{arith}
use borrow.Author.Rules.{Fits-under}
use borrow.Rule.Slice.PartMut.{put_mid}
use lib.Dec.{T, leb}
use lib.ListN.{length, take, drop, replicate}
use mir.Syntax.{Width}
use mir.Val.{Fits, bits}
use Rattle.basics.specs.Put.{put}
use Rattle.basics.proofs.Put.{length_rest}
use Rattle.netlink_headers.specs.Lengths.{round_up4}
use Rattle.netlink.specs.Policy.{nul_at}
use Rattle.page.specs.Page.{Wrote}
use Rattle.netlink_write.specs.Headers.{attribute_header_bytes}
use Rattle.netlink_write.specs.Attributes.{attr, name_bytes}
use Rattle.netlink_write.proofs.attributes.Laws.{length-attr, padded-wrote, nul-le, length-name_bytes}

-- the name's attribute is as long as the step past its bytes, its NUL and its header
pub length-name-attr : (kind : ℕ) (name : List ℕ) → length (attr kind (name_bytes name)) ≡ round_up4 (nul_at name + 5)
length-name-attr kind name =
    let long = length-name_bytes name in
    let stated : length (name_bytes name) + 4 ≡ nul_at name + 5 = omega arith in
    length-attr kind (name_bytes name) ∙ ap round_up4 stated

-- the bytes before the NUL
module _ (name : List ℕ) (n : ℕ) (e : n ≡ nul_at name) where
  pub exact-inside : n ≤ length name
  exact-inside = omega (arith, nul-le name)

  -- with the header's four bytes and the NUL
  pub exact-stated : (w : Width) → length name ≤ 256 → T (leb 262 (2 ^ bits w)) → Fits w (n + 5)
  exact-stated w h t = Fits-under w (n + 5) 262 (omega (arith, nul-le name)) t

  -- the zeros behind them: the NUL, then the padding
  exact-filled : (next : ℕ) → next ≡ round_up4 (n + 5)
      → take n name ++ replicate (next - 4 - n) 0 ≡ name_bytes name ++ replicate (next - 4 - length (name_bytes name)) 0
  unfolding name_bytes
  exact-filled next en =
      let long = length-name_bytes name in
      let k = next - 4 - length (name_bytes name) in
      let pad : next - 4 - n ≡ suc k = omega arith in
      ap (λ (j : ℕ). take n name ++ replicate j 0) pad
      ∙ sym (append_assoc (take n name) (0 ∷ []) (replicate k 0))
      ∙ ap (λ (j : ℕ). (take j name ++ (0 ∷ [])) ++ replicate k 0) e

  -- the room is at least the header's, and no less than the step
  module _ (P : List ℕ) (kind : ℕ) (room : length (attr kind (name_bytes name)) ≤ length P) where
    pub exact-header : 4 ≤ length P
    exact-header = omega (arith, length-name-attr kind name)

    pub exact-rest : (next : ℕ) → next ≡ round_up4 (n + 5) → next - 4 ≤ length (take (length P - 4) (drop 4 P))
    exact-rest next en = omega (arith, length-name-attr kind name, length_rest 4 P)

    -- the bytes and zeros up to the step, past the header's four bytes, then the header
    pub exact-wrote : (B C : List ℕ) (next : ℕ) → next ≡ round_up4 (n + 5)
        → B ≡ put (take (length P - 4) (drop 4 P)) (take n name ++ replicate (next - 4 - n) 0)
        → C ≡ put (put_mid 4 (length P - 4) P B) (attribute_header_bytes (n + 5) kind) → Wrote (attr kind (name_bytes name)) P C next
    exact-wrote B C next en b c =
        let long = length-name_bytes name in
        let stated : n + 5 ≡ length (name_bytes name) + 4 = omega arith in
        padded-wrote P B C (name_bytes name) kind next exact-header (omega arith) (rw (exact-filled next en) at b) (rw stated at c)

pub ruleset exact_laws = (exact-inside, exact-stated, exact-header, exact-rest, exact-wrote)
