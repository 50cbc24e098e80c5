use lib.ListN.{length-take, length-drop}
use Rattle.netlink_error.proofs.Laws.{start-put}
use native.Mathlib.Omega.{arith}
use Rattle.netlink_error.proofs.put_start.Goals as goal

pub slice_bounds-put_bytes-end-2 : goal.slice_bounds-put_bytes-end-2
slice_bounds-put_bytes-end-2 c = simp length-take (omega arith)

pub put_bytes-requires : goal.put_bytes-requires
put_bytes-requires c = simp (length-take, length-drop) (omega arith)

pub returns : goal.returns
returns c =
    let start = c in
    start-put _ _ _ _ _ _ _ _ _ _ _ start.requires.0 start.requires.1 c.u32_at.ensures c.u32_at-2.ensures c.negative.ensures c.put_message_header.ensures c.put_u32.ensures c.put_bytes.ensures
