use native.Mathlib.Omega.{arith}
use lib.Count.{leading_le}
use Rattle.entries.proofs.NameLength.{bytes-in}
use Rattle.entries.proofs.length.bytes_in.Goals as goal

pub overflow_sub-result : goal.overflow_sub-result
overflow_sub-result c = omega (arith, leading_le 64 c.args.x)

pub returns : goal.returns
returns c = bytes-in c.args.x c.ranges.x.fits
