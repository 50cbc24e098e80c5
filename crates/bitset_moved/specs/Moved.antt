-- Document 01, "Bitsets": the normaliser reads the contents of a bitset on their own, the handler reads them where they stand in a request.
-- What a reading tells, with its places counted from further ahead.
use Rattle.std.specs.Prelude.{ℕ, ◌+◌, ◌-◌}
use Rattle.refusal.specs.declared.Refusal.{Refusal}
use Rattle.refusal.specs.declared.Refusal.TheVariants.{Box, Page, Datagram, Length, Family, Short, Command, Dump, Permission, Broken, Unlisted, Payload, MissingTop, MissingIn, NoPort, HeaderFlag, UnknownPort, OtherName, Mixed, ShortBitmap, PastLength, UnknownBit, NoBit, TwoBits, NotOffered, LongReply}
use Rattle.bitset_form.specs.Bitset.{Reading}
use Rattle.bitset_form.specs.Bitset.Reading.{refused, accepted}

-- a refusal of contents that stand so many bytes behind the start: OFFS moves by as many; MISS_NEST tells the nest by its header, the four
-- bytes in front of its contents (contents on their own have none, and tell 0)
abbrev pub moved : ℕ → Refusal → Refusal
moved by Box = Box
moved by Page = Page
moved by Datagram = Datagram
moved by Length = Length
moved by Family = Family
moved by Short = Short
moved by Command = Command
moved by Dump = Dump
moved by Permission = Permission
moved by (Broken at) = Broken (by + at)
moved by (Unlisted at) = Unlisted (by + at)
moved by (Payload at) = Payload (by + at)
moved by (MissingTop kind) = MissingTop kind
moved by (MissingIn kind nest) = MissingIn kind (by + nest - 4)
moved by (NoPort at) = NoPort (by + at)
moved by (HeaderFlag at) = HeaderFlag (by + at)
moved by (UnknownPort at) = UnknownPort (by + at)
moved by (OtherName at) = OtherName (by + at)
moved by (Mixed at) = Mixed (by + at)
moved by (ShortBitmap at) = ShortBitmap (by + at)
moved by (PastLength at) = PastLength (by + at)
moved by (UnknownBit at) = UnknownBit (by + at)
moved by (NoBit at) = NoBit (by + at)
moved by (TwoBits at) = TwoBits (by + at)
moved by (NotOffered at) = NotOffered (by + at)
moved by LongReply = LongReply

-- what is accepted has no places: it stays
abbrev pub moved_reading : ℕ → Reading → Reading
moved_reading by (refused why) = refused (moved by why)
moved_reading by (accepted bits) = accepted bits
