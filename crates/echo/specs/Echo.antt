-- The example family: what its one command reads, and its answers.
use Rattle.std.specs.Prelude.{ℕ, ◌-◌, List, [], ◌++◌, cond, not, get_or, set, replicate, eqb, ltb}
use Rattle.basics.specs.Numbers.{le32}
use Rattle.netlink_headers.specs.Headers.{message_header_at, generic_header_at}
use Rattle.netlink_attributes.specs.Attributes.{part_of}
use Rattle.netlink.specs.Walk.{absent, walked, slot_number}
use Rattle.netlink_headers.specs.declared.headers.MessageHeader.{MessageHeader}
use Rattle.netlink_headers.specs.declared.headers.MessageHeaderRead.{MessageHeaderRead}
use Rattle.netlink_headers.specs.declared.headers.MessageHeaderRead.TheVariants as M
use Rattle.netlink_headers.specs.declared.headers.GenericHeaderRead.{GenericHeaderRead}
use Rattle.netlink_headers.specs.declared.headers.GenericHeaderRead.TheVariants as G
use Rattle.netlink.specs.declared.policy.Rule.{Rule}
use Rattle.netlink.specs.declared.policy.Rule.TheVariants as R
use Rattle.netlink.specs.declared.walk.Slot.{Slot}
use Rattle.netlink.specs.declared.walk.Stop.{Stop}
use Rattle.netlink.specs.declared.walk.Stop.TheVariants.{Whole, At}
use Rattle.netlink_write.specs.Headers.{message_header_bytes, generic_header_bytes}
use Rattle.netlink_write.specs.Attributes.{attr, nest}
use Rattle.netlink_error.specs.Error.{error_message}
use Rattle.netlink_error.specs.declared.Detail.TheVariants.{Nothing, Offset, MissTop, MissIn}
use Rattle.echo.specs.declared.RequestRead.{RequestRead}
use Rattle.echo.specs.declared.RequestRead.TheVariants.{Number, Refused}

-- the family's one command
abbrev pub command_number : ℕ
command_number = 1

-- the attribute at the top level: the header nest
abbrev pub header_type : ℕ
header_type = 1

-- the attribute in the header nest: the number
abbrev pub number_type : ℕ
number_type = 1

-- the errnos that it tells: EINVAL, EOPNOTSUPP
abbrev pub invalid : ℕ
invalid = 22

abbrev pub not_supported : ℕ
not_supported = 95

-- one type alone, by its rule
abbrev pub policy : ℕ → Rule → List Rule
policy kind rule = set (replicate 8 R.Unlisted) kind rule

-- a walk that stops: errno 22 and the place of the attribute
abbrev pub refused_at_stop : Stop → RequestRead → RequestRead
refused_at_stop Whole rest = rest
refused_at_stop (At fault at) rest = Refused invalid (Offset at)

-- the header nest is walked in the request cut at the nest's end; its number is required
unfoldable pub number_reading : List ℕ → ℕ → Slot → RequestRead
number_reading contents at number = cond (not number.present) (Refused invalid (MissIn number_type at)) (Number (slot_number contents number))

-- what the header nest asks
unfoldable pub nest_reading : List ℕ → Slot → RequestRead
nest_reading request nest =
    refused_at_stop (walked (policy number_type R.Number) (part_of request 0 nest.end) nest.start).stop
    (number_reading (part_of request 0 nest.end) (nest.start - 4)
    (get_or (walked (policy number_type R.Number) (part_of request 0 nest.end) nest.start).slots number_type absent))

-- the top level is walked whole; the header nest is required
unfoldable pub top_reading : List ℕ → Slot → RequestRead
top_reading request nest = cond (not nest.present) (Refused invalid (MissTop header_type)) (nest_reading request nest)

-- what the request asks by its generic header
unfoldable pub on_generic : List ℕ → GenericHeaderRead → RequestRead
on_generic request G.Short = Refused invalid Nothing
on_generic request (G.Header h) =
    cond (eqb h.command command_number)
    (refused_at_stop (walked (policy header_type R.Nest) request 20).stop (top_reading request (get_or (walked (policy header_type R.Nest) request 20).slots header_type absent)))
    (Refused not_supported Nothing)

-- what a request asks
unfoldable pub request_reading : List ℕ → RequestRead
request_reading request = on_generic request (generic_header_at request 16)

-- 32 bytes: header, generic header, a nest with the number
unfoldable pub number_reply : MessageHeader → ℕ → List ℕ
number_reply h number =
    message_header_bytes (record { length = 32; kind = h.kind; flags = 0; sequence = h.sequence; port = h.port })
    ++ (generic_header_bytes (record { command = command_number; version = 1; reserved = 0 }) ++ nest header_type (attr number_type (le32 number)))

-- the reply, or the error message
abbrev pub read_answer : RequestRead → List ℕ → MessageHeader → List ℕ
read_answer (Number number) request h = number_reply h number
read_answer (Refused errno detail) request h = error_message request errno detail

-- the answer to a request
unfoldable pub answer_bytes : List ℕ → MessageHeader → List ℕ
answer_bytes request h = read_answer (request_reading request) request h

-- nothing without a message header, else the answer
abbrev pub header_answer : MessageHeaderRead → List ℕ → List ℕ
header_answer M.Short request = []
header_answer (M.Header h) request = answer_bytes request h

-- what is written: nothing where the page has no room for any answer, or where not even a message header is there
unfoldable pub answer_written : List ℕ → ℕ → List ℕ
answer_written request room = cond (ltb room 52) [] (header_answer (message_header_at request 0) request)
