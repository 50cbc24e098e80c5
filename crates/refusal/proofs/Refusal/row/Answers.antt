use Rattle.refusal.proofs.Table.{row-of}
use borrow.Author.Rules.{rules}
use Rattle.refusal.proofs.Refusal.row.Goals as goal

pub returns-in-Box : goal.returns-in-Box
returns-in-Box c = search (rules, row-of)

pub returns-in-Page : goal.returns-in-Page
returns-in-Page c = search (rules, row-of)

pub returns-in-Datagram : goal.returns-in-Datagram
returns-in-Datagram c = search (rules, row-of)

pub returns-in-Length : goal.returns-in-Length
returns-in-Length c = search (rules, row-of)

pub returns-in-Family : goal.returns-in-Family
returns-in-Family c = search (rules, row-of)

pub returns-in-Short : goal.returns-in-Short
returns-in-Short c = search (rules, row-of)

pub returns-in-Command : goal.returns-in-Command
returns-in-Command c = search (rules, row-of)

pub returns-in-Dump : goal.returns-in-Dump
returns-in-Dump c = search (rules, row-of)

pub returns-in-Permission : goal.returns-in-Permission
returns-in-Permission c = search (rules, row-of)

pub returns-in-Broken : goal.returns-in-Broken
returns-in-Broken c = search (rules, row-of)

pub returns-in-Unlisted : goal.returns-in-Unlisted
returns-in-Unlisted c = search (rules, row-of)

pub returns-in-Payload : goal.returns-in-Payload
returns-in-Payload c = search (rules, row-of)

pub returns-in-MissingTop : goal.returns-in-MissingTop
returns-in-MissingTop c = search (rules, row-of)

pub returns-in-MissingIn : goal.returns-in-MissingIn
returns-in-MissingIn c = search (rules, row-of)

pub returns-in-NoPort : goal.returns-in-NoPort
returns-in-NoPort c = search (rules, row-of)

pub returns-in-HeaderFlag : goal.returns-in-HeaderFlag
returns-in-HeaderFlag c = search (rules, row-of)

pub returns-in-UnknownPort : goal.returns-in-UnknownPort
returns-in-UnknownPort c = search (rules, row-of)

pub returns-in-OtherName : goal.returns-in-OtherName
returns-in-OtherName c = search (rules, row-of)

pub returns-in-Mixed : goal.returns-in-Mixed
returns-in-Mixed c = search (rules, row-of)

pub returns-in-ShortBitmap : goal.returns-in-ShortBitmap
returns-in-ShortBitmap c = search (rules, row-of)

pub returns-in-PastLength : goal.returns-in-PastLength
returns-in-PastLength c = search (rules, row-of)

pub returns-in-UnknownBit : goal.returns-in-UnknownBit
returns-in-UnknownBit c = search (rules, row-of)

pub returns-in-NoBit : goal.returns-in-NoBit
returns-in-NoBit c = search (rules, row-of)

pub returns-in-TwoBits : goal.returns-in-TwoBits
returns-in-TwoBits c = search (rules, row-of)

pub returns-in-NotOffered : goal.returns-in-NotOffered
returns-in-NotOffered c = search (rules, row-of)

pub returns-in-LongReply : goal.returns-in-LongReply
returns-in-LongReply c = search (rules, row-of)
