use native.Mathlib.Omega.{arith}
use Rattle.netlink_error.proofs.Laws.{detail-none, detail-offset, detail-top, detail-in}
use borrow.Author.Rules.{rules}
use Rattle.netlink_error.proofs.put_detail.Goals as goal

pub returns-in-Nothing : goal.returns-in-Nothing
returns-in-Nothing c = search (rules, detail-none)

pub returns-in-Offset : goal.returns-in-Offset
returns-in-Offset c =
    let w = c.put_low_number.ensures in record { wrote = detail-offset _ _ _ _ _ c.in-Offset.is w.wrote; upper_bound = omega (arith, w.value) }

pub returns-in-MissTop : goal.returns-in-MissTop
returns-in-MissTop c =
    let w = c.put_low_number-in-MissTop.ensures in record { wrote = detail-top _ _ _ _ _ c.in-MissTop.is w.wrote; upper_bound = omega (arith, w.value) }

pub returns-in-MissIn : goal.returns-in-MissIn
returns-in-MissIn c =
    let one = c.put_low_number-in-MissIn.ensures in
    let two = c.put_low_number-n.ensures in record { wrote = detail-in _ _ _ _ _ _ _ _ c.in-MissIn.is c.requires one.value one.wrote two.wrote; upper_bound = omega (arith, two.value) }
