-- The row of a refusal that is known; no number is 0.
use Prim.Native.Nat.{◌<◌}
use mathlib.Core.Path.{◌≡◌, sym, ap, ◌∙◌}
use native.Mathlib.Omega.{arith}
use Rattle.refusal.specs.Refusal.{row_of, number_of}
use Rattle.refusal.specs.declared.Refusal.{Refusal}
use Rattle.refusal.specs.declared.Refusal.TheVariants.{Box, Page, Datagram, Length, Family, Short, Command, Dump, Permission, Broken, Unlisted, Payload, MissingTop, MissingIn, NoPort, HeaderFlag, UnknownPort, OtherName, Mixed, ShortBitmap, PastLength, UnknownBit, NoBit, TwoBits, NotOffered, LongReply}
use Rattle.refusal.specs.declared.Row.{Row}

pub row-of : (r s : Refusal) (x : Row) → r ≡ s → x ≡ row_of s → x ≡ row_of r
row-of r s x e q = q ∙ ap row_of (sym e)

pub number-above : (why : Refusal) → 0 < number_of why
number-above Box = omega arith
number-above Page = omega arith
number-above Datagram = omega arith
number-above Length = omega arith
number-above Family = omega arith
number-above Short = omega arith
number-above Command = omega arith
number-above Dump = omega arith
number-above Permission = omega arith
number-above (Broken at) = omega arith
number-above (Unlisted at) = omega arith
number-above (Payload at) = omega arith
number-above (MissingTop kind) = omega arith
number-above (MissingIn kind nest) = omega arith
number-above (NoPort at) = omega arith
number-above (HeaderFlag at) = omega arith
number-above (UnknownPort at) = omega arith
number-above (OtherName at) = omega arith
number-above (Mixed at) = omega arith
number-above (ShortBitmap at) = omega arith
number-above (PastLength at) = omega arith
number-above (UnknownBit at) = omega arith
number-above (NoBit at) = omega arith
number-above (TwoBits at) = omega arith
number-above (NotOffered at) = omega arith
number-above LongReply = omega arith
