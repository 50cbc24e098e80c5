-- The tables of document 01 and of requests C-11 to C-13 said a second time, number by number: refusals, commands, kinds.
use Rattle.std.specs.Prelude.{ℕ, ◌≡◌, Bool, true, false, Some, None}
use Rattle.netlink_error.specs.declared.Detail.{Detail}
use Rattle.netlink_error.specs.declared.Detail.TheVariants.{Nothing, Offset, MissTop, MissIn}
use Rattle.refusal.specs.Refusal.{number_of, errno_of, detail_of}
use Rattle.refusal.specs.declared.Refusal.{Refusal}
use Rattle.refusal.specs.declared.Refusal.TheVariants.{Box, Page, Datagram, Length, Family, Short, Command, Dump, Permission, Broken, Unlisted, Payload, MissingTop, MissingIn, NoPort, HeaderFlag, UnknownPort, OtherName, Mixed, ShortBitmap, PastLength, UnknownBit, NoBit, TwoBits, NotOffered, LongReply}
use Rattle.layout.specs.declared.Set.{Set}
use Rattle.layout.specs.declared.Set.TheVariants.{Debug, Flags}
use Rattle.admission.specs.Commands.{command_of}
use Rattle.response.specs.Answer.{kind_number, refusal_number}
use Rattle.response.specs.declared.Kind.TheVariants.{End, Skipped, Done, Refused}
use Rattle.admission.specs.declared.commands.Listed.TheVariants as C

-- a row: the number, the errno and the detail of a refusal
abbrev pub RowIs : Refusal → ℕ → ℕ → Detail → Type 0
RowIs why number errno detail = (number_of why ≡ number) × (errno_of why ≡ errno) × (detail_of why ≡ detail)

-- the table of refusals in its order; 1 to 4 have no errno, and a place is told where it is
pub record RefusalTable (at kind : ℕ) : Type 0 where
  pub one : RowIs Box 1 0 Nothing
  pub two : RowIs Page 2 0 Nothing
  pub three : RowIs Datagram 3 0 Nothing
  pub four : RowIs Length 4 0 Nothing
  pub five : RowIs Family 5 2 Nothing
  pub six : RowIs Short 6 22 Nothing
  pub seven : RowIs Command 7 95 Nothing
  pub eight : RowIs Dump 8 95 Nothing
  pub nine : RowIs Permission 9 1 Nothing
  pub ten : RowIs (Broken at) 10 22 (Offset at)
  pub eleven : RowIs (Unlisted at) 11 22 (Offset at)
  pub twelve : RowIs (Payload at) 12 22 (Offset at)
  pub thirteen : RowIs (MissingTop kind) 13 22 (MissTop kind)
  pub thirteen-nest : RowIs (MissingIn kind at) 13 22 (MissIn kind at)
  pub fourteen : RowIs (NoPort at) 14 22 (Offset at)
  pub fifteen : RowIs (HeaderFlag at) 15 95 (Offset at)
  pub sixteen : RowIs (UnknownPort at) 16 19 (Offset at)
  pub seventeen : RowIs (OtherName at) 17 19 (Offset at)
  pub eighteen : RowIs (Mixed at) 18 22 (Offset at)
  pub nineteen : RowIs (ShortBitmap at) 19 22 (Offset at)
  pub twenty : RowIs (PastLength at) 20 95 (Offset at)
  pub twenty-one : RowIs (UnknownBit at) 21 95 (Offset at)
  pub twenty-two : RowIs (NoBit at) 22 22 (Offset at)
  pub twenty-three : RowIs (TwoBits at) 23 22 (Offset at)
  pub twenty-four : RowIs (NotOffered at) 24 95 (Offset at)
  pub twenty-five : RowIs LongReply 25 90 Nothing

-- a listed command: whether it is a SET, its set, the command of its reply, and whether it may be dumped
abbrev pub CommandIs : ℕ → Bool → Set → ℕ → Bool → Type 0
CommandIs number change set reply dump = command_of number ≡ Some (C.OfSet (record { number = number; change = change; set = set; reply = reply; dump = dump }))

-- "STRSET_GET (command 1 ..)"; "DEBUG_GET 7, DEBUG_SET 8, PRIVFLAGS_GET 13, PRIVFLAGS_SET 14"; replies have "command 7 for DEBUG, 14 for PRIVFLAGS"; a GET may be dumped; no other command is listed
pub record CommandTable : Type 0 where
  pub debug-get : CommandIs 7 false Debug 7 true
  pub debug-set : CommandIs 8 true Debug 7 false
  pub privflags-get : CommandIs 13 false Flags 14 true
  pub privflags-set : CommandIs 14 true Flags 14 false
  pub strset-get : command_of 1 ≡ Some C.Strset
  pub others : (n : ℕ) → (n ≡ 1 → ⊥) → (n ≡ 7 → ⊥) → (n ≡ 8 → ⊥) → (n ≡ 13 → ⊥) → (n ≡ 14 → ⊥) → command_of n ≡ None

-- "a kind (end, skipped, done, refused), a refusal number (0 if none)"
pub record KindTable (why : Refusal) : Type 0 where
  pub end : (kind_number End ≡ 0) × (refusal_number End ≡ 0)
  pub skipped : (kind_number Skipped ≡ 1) × (refusal_number Skipped ≡ 0)
  pub done : (kind_number Done ≡ 2) × (refusal_number Done ≡ 0)
  pub refused : (kind_number (Refused why) ≡ 3) × (refusal_number (Refused why) ≡ number_of why)
