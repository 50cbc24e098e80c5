-- The words below j have no bit at or past n; those below word n / 32 cannot have one.
use Rattle.bits.proofs.Cut.{Clear}
use Rattle.bits.proofs.set.none_from.Given as goal

-- The words below j have no bit at or past n; those below word n / 32 cannot have one.
abbrev pub invariant-loop-j : goal.invariant-loop-j
invariant-loop-j l = Clear l.words l.n l.j
