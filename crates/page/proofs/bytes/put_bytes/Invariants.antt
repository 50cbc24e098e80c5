-- The bytes below i are copied.
use Prim.Native.Nat.{◌≤◌}
use mathlib.Core.Path.{◌≡◌}
use lib.ListN.{length, take}
use Rattle.basics.specs.Put.{put}
use Rattle.page.proofs.bytes.put_bytes.Given as goal

-- The bytes below i are copied.
abbrev pub invariant-loop-i : goal.invariant-loop-i
invariant-loop-i l = (l.i ≤ length l.bytes) × (l.page ≡ put l.initial.page (take l.i l.bytes)) × (length l.page ≡ length l.initial.page)
