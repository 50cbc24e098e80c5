use native.Mathlib.Omega.{arith}
use Rattle.netlink_write.specs.PaddedName.{padded_word}
use Rattle.netlink_write.proofs.attributes.Laws.{nul-le}
use Rattle.netlink_write.proofs.padded_name.put_few.Goals as goal

pub put_filled-requires : goal.put_filled-requires
put_filled-requires c = let b = nul-le c.args.rest.now in (omega arith, omega arith, omega arith)

pub returns : goal.returns
unfolding padded_word
returns c =
    let start = c in
    let n = c.nul_at-k.ensures in record { value = (n, omega (arith, n, nul-le start.args.rest.now, start.requires.0)); page_after = c.put_filled.ensures }
