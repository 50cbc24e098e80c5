-- Document 01, "What a call says back": the table of refusals. A place is an offset from the start of the request.
use Rattle.std.specs.Prelude.{ℕ, List}
use Rattle.netlink.specs.declared.policy.Fault.{Fault}
use Rattle.netlink.specs.declared.policy.Fault.TheVariants as F
use Rattle.netlink.specs.declared.walk.Slot.{Slot}
use Rattle.netlink.specs.declared.walk.Stop.{Stop}
use Rattle.netlink.specs.declared.walk.Stop.TheVariants as S
use Rattle.netlink.specs.declared.walk.Walked.{Walked}
use Rattle.netlink_error.specs.declared.Detail.{Detail}
use Rattle.netlink_error.specs.declared.Detail.TheVariants.{Nothing, Offset, MissTop, MissIn}
use Rattle.refusal.specs.declared.Refusal.{Refusal}
use Rattle.refusal.specs.declared.Row.{Row}
use Rattle.refusal.specs.declared.Refusal.TheVariants.{Box, Page, Datagram, Length, Family, Short, Command, Dump, Permission, Broken, Unlisted, Payload, MissingTop, MissingIn, NoPort, HeaderFlag, UnknownPort, OtherName, Mixed, ShortBitmap, PastLength, UnknownBit, NoBit, TwoBits, NotOffered, LongReply}

-- a row of the table
abbrev row : ℕ → ℕ → Detail → Row
row number errno detail = record { number = number; errno = errno; detail = detail }

-- the table: number, errno (1 to 4 have none and write nothing), and detail: OFFS, or MISS_TYPE and, unless the top level lacks the attribute,
-- MISS_NEST
abbrev pub row_of : Refusal → Row
row_of Box = row 1 0 Nothing
row_of Page = row 2 0 Nothing
row_of Datagram = row 3 0 Nothing
row_of Length = row 4 0 Nothing
row_of Family = row 5 2 Nothing
row_of Short = row 6 22 Nothing
row_of Command = row 7 95 Nothing
row_of Dump = row 8 95 Nothing
row_of Permission = row 9 1 Nothing
row_of (Broken at) = row 10 22 (Offset at)
row_of (Unlisted at) = row 11 22 (Offset at)
row_of (Payload at) = row 12 22 (Offset at)
row_of (MissingTop kind) = row 13 22 (MissTop kind)
row_of (MissingIn kind nest) = row 13 22 (MissIn kind nest)
row_of (NoPort at) = row 14 22 (Offset at)
row_of (HeaderFlag at) = row 15 95 (Offset at)
row_of (UnknownPort at) = row 16 19 (Offset at)
row_of (OtherName at) = row 17 19 (Offset at)
row_of (Mixed at) = row 18 22 (Offset at)
row_of (ShortBitmap at) = row 19 22 (Offset at)
row_of (PastLength at) = row 20 95 (Offset at)
row_of (UnknownBit at) = row 21 95 (Offset at)
row_of (NoBit at) = row 22 22 (Offset at)
row_of (TwoBits at) = row 23 22 (Offset at)
row_of (NotOffered at) = row 24 95 (Offset at)
row_of LongReply = row 25 90 Nothing

-- the number
abbrev pub number_of : Refusal → ℕ
number_of r = (row_of r).number

-- the errno
abbrev pub errno_of : Refusal → ℕ
errno_of r = (row_of r).errno

-- the detail
abbrev pub detail_of : Refusal → Detail
detail_of r = (row_of r).detail

-- 10, 11 and 12 as a walk tells them
abbrev pub of_fault : Fault → ℕ → Refusal
of_fault F.Length at = Broken at
of_fault F.Unknown at = Unlisted at
of_fault F.Payload at = Payload at

-- the refusal of a walk's fault, or what comes after a parent that is right as a whole
abbrev pub on_stop : {A : Type 0} → Stop → (Refusal → A) → A → A
on_stop S.Whole f rest = rest
on_stop (S.At fault at) f rest = f (of_fault fault at)

-- the refusal of a walk's fault, or what the slots of a parent that is right as a whole come to
abbrev pub on_walk : {A : Type 0} → Walked → (Refusal → A) → (List Slot → A) → A
on_walk w f rest = on_stop w.stop f (rest w.slots)
