use native.Mathlib.Omega.{arith}
use Rattle.netlink_headers.proofs.lengths.Laws.{step-bytes}
use Rattle.netlink_write.proofs.attributes.Laws.{name-wrote, nul-le}
use borrow.Author.Rules.{rules}
use Rattle.netlink_write.proofs.attributes.put_name.Goals as goal

pub overflow_add-stated : goal.overflow_add-stated
overflow_add-stated c = omega (arith, c.put_padded_name-n.ensures.value, nul-le c.args.name.now)

pub overflow_cast-stated : goal.overflow_cast-stated
overflow_cast-stated c = omega (arith, c.put_padded_name-n.ensures.value, nul-le c.args.name.now)

pub overflow_cast-stated-2 : goal.overflow_cast-stated-2
overflow_cast-stated-2 c = omega (arith, c.put_padded_name-n.ensures.value, nul-le c.args.name.now)

pub returns : goal.returns
returns c = record { wrote = search (rules, name-wrote, step-bytes); upper_bound = omega (arith, c.put_padded_name-n.ensures.value, nul-le c.args.name.now) }
