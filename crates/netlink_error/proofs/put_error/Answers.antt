use native.Mathlib.Omega.{arith}
use Rattle.netlink_error.proofs.Laws.{error-wrote}
use Rattle.netlink_error.proofs.put_error.Goals as goal

pub returns : goal.returns
returns c =
    let start = c in
    let detail = c.put_detail-n.ensures in record { wrote = error-wrote _ _ _ _ _ _ _ _ start.requires.0 start.requires.1 c.flags_of.ensures detail.wrote c.put_start.ensures; upper_bound = omega (arith, detail.upper_bound) }
