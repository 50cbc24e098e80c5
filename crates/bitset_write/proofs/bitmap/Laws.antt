-- The law of writing words as an attribute.
use Prim.Native.Nat.{ℕ, ◌+◌, ◌*◌, ◌-◌, ◌≤◌}
use mathlib.Core.Path.{◌≡◌}
use mathlib.Core.List.{List}
use lib.ListN.{length, take, drop}
use native.Mathlib.Omega.{arith}
use borrow.Rule.Slice.PartMut.{put_mid}
use Rattle.basics.specs.Put.{put}
use Rattle.word_bytes.specs.Bytes.{bytes_of}
use Rattle.word_bytes.proofs.WordBytes.{length-bytes_of}
use Rattle.page.specs.Page.{Wrote}
use Rattle.netlink_write.specs.Headers.{attribute_header_bytes}
use Rattle.netlink_write.specs.Attributes.{attr}
use Rattle.netlink_write.proofs.attributes.Laws.{attribute-wrote}

pub bitmap-wrote : (P ys zs ws : List ℕ) (kind n r : ℕ) → 68 ≤ length P → n ≡ length ws * 4
    → ys ≡ put (take (length P - 4) (drop 4 P)) (bytes_of ws) → r ≡ n + 4
    → zs ≡ put (put_mid 4 (length P - 4) P ys) (attribute_header_bytes (n + 4) kind) → Wrote (attr kind (bytes_of ws)) P zs r
bitmap-wrote P ys zs ws kind n r room en a er b =
    let l = length-bytes_of ws in
    attribute-wrote P ys zs (bytes_of ws) kind n r (omega arith) (omega arith) (omega arith) a er b
