-- Document 01, "The box a call is given", port roll: "records of one kind byte, then a body whose length the kind fixes".
use Rattle.std.specs.Prelude.{ℕ, zero, suc, ◌+◌, List, [], ◌∷◌, Bool, true, false, ◌&&◌, cond, length, get_or, leb, ltb, eqb}
use Rattle.basics.specs.Numbers.{byte_at, u32_at}
use Rattle.roll.specs.Name.{name_at}
use Rattle.roll.specs.declared.record.RecordRead.{RecordRead}
use Rattle.roll.specs.declared.record.RecordRead.TheVariants as R

-- a port as the roll tells of it: "index (4 bytes), name (16 bytes)"
pub record Port : Type 0 where
  pub index : ℕ
  pub name : List ℕ

-- how many bytes a record of a kind takes, its kind byte with them; 0 for a kind that no record has
unfoldable pub record_size : ℕ → ℕ
record_size kind = cond (eqb kind 1) 21 0

-- the record at a place: where a port's index and name start, and where the record ends
unfoldable pub record_at : List ℕ → ℕ → RecordRead
record_at roll at =
    cond (leb (length roll) at) R.End
    (cond (eqb (record_size (byte_at roll at)) 0) R.Unknown
    (cond (ltb (length roll) (at + record_size (byte_at roll at))) R.Cut
    (R.Port (record { index = at + 1; name = at + 5; end = at + record_size (byte_at roll at) }))))

-- the records in order, to the roll's end or to the first that is broken: of an unknown kind, or cut
pub data Records : Type 0 where
  end_of_roll : Records
  bad_record : Records
  port : Port → Records → Records

-- what is read at a place, and then what stands from the next place on
abbrev pub on_record : List ℕ → RecordRead → (ℕ → Records) → Records
on_record roll R.End rest = end_of_roll
on_record roll R.Unknown rest = bad_record
on_record roll R.Cut rest = bad_record
on_record roll (R.Port p) rest = port (record { index = u32_at roll p.index; name = name_at roll p.name }) (rest p.end)

-- at most so many records from a place on
unfoldable pub records_up_to : ℕ → List ℕ → ℕ → Records
records_up_to zero roll at = bad_record
records_up_to (suc k) roll at = on_record roll (record_at roll at) (λ next. records_up_to k roll next)

-- the records from a place on: each takes a byte, so one more than the bytes is never reached (law `records-step`)
unfoldable pub records : List ℕ → ℕ → Records
unfolding records_up_to
records roll at = records_up_to (suc (length roll)) roll at

-- no record is broken
unfoldable pub all_whole : Records → Bool
all_whole end_of_roll = true
all_whole bad_record = false
all_whole (port p rest) = all_whole rest

-- the ports
unfoldable pub record_ports : Records → List Port
record_ports end_of_roll = []
record_ports bad_record = []
record_ports (port p rest) = p ∷ record_ports rest

-- the ports of a roll in order
unfoldable pub ports_of : List ℕ → List Port
ports_of roll = record_ports (records roll 0)

-- how many ports a roll has
unfoldable pub port_count : List ℕ → ℕ
port_count roll = length (ports_of roll)

-- the port at a position, counted from 0
unfoldable pub port_at : List ℕ → ℕ → Port
port_at roll k = get_or (ports_of roll) k (record { index = 0; name = [] })

-- the index of the port at a position
unfoldable pub index_of : List ℕ → ℕ → ℕ
index_of roll k = (port_at roll k).index

-- its name
unfoldable pub name_of : List ℕ → ℕ → List ℕ
name_of roll k = (port_at roll k).name

-- "1 to 64 ports", in whole records to the roll's end
unfoldable pub ports_listed : List ℕ → Bool
ports_listed roll = all_whole (records roll 0) && (leb 1 (port_count roll) && leb (port_count roll) 64)
