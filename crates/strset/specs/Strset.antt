-- Request C-13: what an admitted STRSET_GET comes to: a refusal, or its reply and then the ACK if asked. The settings are not looked at.
use Rattle.std.specs.Prelude.{ℕ, List, [], ◌++◌, cond, length, ltb, Option, Some, None, Result, Ok, Err, is_some}
use Rattle.netlink_headers.specs.declared.headers.MessageHeader.{MessageHeader}
use Rattle.refusal.specs.declared.Refusal.TheVariants.{LongReply}
use Rattle.roll.specs.Record.{index_of, name_of}
use Rattle.boxes.specs.Box.{Box}
use Rattle.reply.specs.Message.{heading_of}
use Rattle.response.specs.Answer.{Response, response_of, error_response, ack_bytes}
use Rattle.response.specs.declared.Kind.TheVariants.{Done}
use Rattle.strset_request.specs.Asked.{asked_of}
use Rattle.strset_request.specs.declared.asked.Asked.{Asked}
use Rattle.strset_reply.specs.Message.{StrsetContent, strset_content_of, strset_reply}
use Rattle.refusal.specs.declared.Refusal.{Refusal}

-- the index of the port that is named; where none is, it does not go out
unfoldable pub index_in : List ℕ → Option ℕ → ℕ
index_in roll None = 0
index_in roll (Some position) = index_of roll position

-- its name, likewise
unfoldable pub name_in : List ℕ → Option ℕ → List ℕ
name_in roll None = []
name_in roll (Some position) = name_of roll position

-- what the reply is about
unfoldable pub strset_content_in : Box → Asked → StrsetContent
strset_content_in box asked =
    strset_content_of (is_some asked.port) (index_in box.roll asked.port) (name_in box.roll asked.port) box.names asked.sets asked.counts

-- the reply, "message type the family, flags 0, command 1", then the ACK if asked
unfoldable pub strset_bytes : List ℕ → MessageHeader → StrsetContent → List ℕ
strset_bytes m h content = strset_reply (heading_of h 0 1) content ++ ack_bytes m h

-- "25 (reply over 32,768 bytes with its ACK, 90, no detail)", "whatever the page's length"; else it is written
unfoldable pub content_response : List ℕ → MessageHeader → ℕ → StrsetContent → Response
content_response m h next content =
    cond (ltb 32768 (length (strset_bytes m h content))) (error_response m next LongReply)
    (response_of Done next (strset_bytes m h content))

-- a refusal, or what is asked for
abbrev pub asked_response : Result Asked Refusal → Box → List ℕ → MessageHeader → ℕ → Response
asked_response (Err why) box m h next = error_response m next why
asked_response (Ok asked) box m h next = content_response m h next (strset_content_in box asked)

-- the message m with its header h, after which the datagram goes on at a position
unfoldable pub strset_response : Box → List ℕ → MessageHeader → ℕ → Response
strset_response box m h next = asked_response (asked_of m box.roll) box m h next
