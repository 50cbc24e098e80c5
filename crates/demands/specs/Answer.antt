-- Document 01, "What a call says back", and request C-11: what stands in the page after each kind of answer.
use Rattle.std.specs.Prelude.{ℕ, ◌/◌, ◌%◌, ◌≤◌, ◌≡◌, List, [], ◌∷◌, ◌++◌, Bool, cond, length, take, drop, eqb, ltb}
use Rattle.basics.specs.Numbers.{le16, le32, u32_at}
use Rattle.netlink_headers.specs.declared.headers.MessageHeader.{MessageHeader}
use Rattle.netlink_error.specs.Error.{error_message}
use Rattle.netlink_error.specs.declared.Detail.TheVariants.{Nothing}
use Rattle.refusal.specs.Refusal.{number_of, errno_of, detail_of}
use Rattle.refusal.specs.declared.Refusal.{Refusal}

-- "1 to 4 write nothing", every other refusal one error message, with the errno and the detail of the table
unfoldable pub refusal_bytes : List ℕ → Refusal → List ℕ
refusal_bytes message why = cond (ltb (number_of why) 5) [] (error_message message (errno_of why) (detail_of why))

-- "an ACK if the ACK flag was set, else nothing": the error message of errno 0 without detail
unfoldable pub ack_if_asked : List ℕ → MessageHeader → List ℕ
ack_if_asked message h = cond (eqb (h.flags / 4 % 2) 1) (error_message message 0 Nothing) []

-- "a DONE message (type 3, MULTI, sequence and port id echoed, a 32-bit 0 after the header, 20 bytes)"
unfoldable pub done_bytes : MessageHeader → List ℕ
done_bytes h = le32 20 ++ (le16 3 ++ (le16 2 ++ (le32 h.sequence ++ (le32 h.port ++ le32 0))))

-- a message "with the MULTI flag (2)": bytes 6 and 7, its message flags, are 2
unfoldable pub with_multi : List ℕ → List ℕ
with_multi message = take 6 message ++ (2 ∷ 0 ∷ drop 8 message)

-- messages one after the other, each with a whole header and as long as that states
pub data Messages : List ℕ → Type 0 where
  none : Messages []
  next : (message rest : List ℕ) → 16 ≤ length message → u32_at message 0 ≡ length message → Messages rest → Messages (message ++ rest)

-- "the count being the stated messages' summed lengths": whole messages, whole words, and never more than so many bytes
pub record CountedTo (limit : ℕ) (bytes : List ℕ) : Type 0 where
  pub messages : Messages bytes
  pub words : length bytes % 4 ≡ 0
  pub most : length bytes ≤ limit

-- never more than the longest reply of a GET with its ACK
abbrev pub Counted : List ℕ → Type 0
Counted bytes = CountedTo 24684 bytes

-- the longest answer: of a STRSET_GET 32,768 bytes (request C-13), else that
unfoldable pub longest_answer : Bool → ℕ
longest_answer strset = cond strset 32768 24684
