-- What the exported functions leave behind their pointers.
use Rattle.std.specs.Prelude.{ℕ, ◌≡◌, List, length, Option}
use Rattle.basics.specs.Put.{put}
use Rattle.word_bytes.specs.Bytes.{Bytes}
use Rattle.normal.specs.Normal as N
use Rattle.box_fault.specs.Fault.{fault_number, fault_offset}
use Rattle.bit_name.specs.Find.{Found}
use Rattle.box_fault.specs.declared.Fault.{Fault}
use Rattle.response.specs.Answer.{Outcome, kind_number, refusal_number}
use Rattle.handler.specs.Bytes.{Stored}

-- ethnl_normalise: the number, the count of bytes written, and those bytes at the front of the page
pub record Normalise (o : N.NormalAnswer) (before after : List ℕ) (written r : ℕ) : Type 0 where
  pub number : r ≡ o.number
  pub count : written ≡ length o.bytes
  pub page : after ≡ put before o.bytes

-- ethnl_find: the number, and the bit and the count of entries compared behind their pointers
pub record Find (f : Found) (found compared r : ℕ) : Type 0 where
  pub number : r ≡ f.number
  pub bit : found ≡ f.bit
  pub count : compared ≡ f.compared

-- ethnl_check_box: the number of the part, and the offset in it behind its pointer
pub record CheckBox (f : Option Fault) (offset r : ℕ) : Type 0 where
  pub part : r ≡ fault_number f
  pub place : offset ≡ fault_offset f

-- ethnl_handle: kind, refusal number, next position, next place and count behind their pointers; the settings that are lent are bytes
pub record Handle (o : Outcome Stored) (lent stored : Stored) (before after : List ℕ) (k f n p w : ℕ) : Type 0 where
  pub bytes : Bytes lent.settings
  pub kind : k ≡ kind_number o.response.kind
  pub refusal : f ≡ refusal_number o.response.kind
  pub next : n ≡ o.response.next
  pub place : p ≡ o.response.place
  pub count : w ≡ length o.response.bytes
  pub page : after ≡ put before o.response.bytes
  pub state : stored ≡ o.state
