-- What a request names, and the bitset that it carries; what a dump asks for. Document 01, "What a call says back"; request C-11.
use Rattle.std.specs.Prelude.{ℕ, ◌≤◌, ◌<◌, ◌≡◌, List, true, false, ◌||◌, Some, Ok}
use Rattle.basics.specs.Numbers.{byte_at}
use Rattle.netlink_attributes.specs.Attributes.{part_of}
use Rattle.netlink.specs.Walk.{slot_number}
use Rattle.roll.specs.Name.{holds_name}
use Rattle.roll.specs.Record.{port_count, port_at}
use Rattle.bitset_form.specs.Bitset.{Bitset}
use Rattle.bitset_form.specs.Bitset.Reading.{accepted}
use Rattle.bitset.specs.Judge.{bitset_reading}
use Rattle.layout.specs.Layout.{list_of}
use Rattle.boxes.specs.Box.{Box}
use Rattle.request.specs.Header.{header_of}
use Rattle.request.specs.Target.{target_of}
use Rattle.admission.specs.Commands.{command_of}
use Rattle.request.specs.Top.{top_of}
use Rattle.request.specs.declared.target.Target.{Target}
use Rattle.admission.specs.declared.commands.Command.{Command}
use Rattle.request.specs.declared.parts.TopParts.{TopParts}
use Rattle.request.specs.declared.parts.HeaderParts.{HeaderParts}
use Rattle.request.specs.declared.target.Addressee.TheVariants as A
use Rattle.admission.specs.declared.commands.Listed.TheVariants.{OfSet}

-- the record at a position of the roll is the one that the header's parts give: it has the index where one is given, and the name where one is given
pub record IsPort (roll m : List ℕ) (header : HeaderParts) (position : ℕ) : Type 0 where
  pub inside : position < port_count roll
  pub given : header.index.present || header.name.present ≡ true
  pub index : header.index.present ≡ true → (port_at roll position).index ≡ slot_number m header.index
  pub name : header.name.present ≡ true → holds_name (port_at roll position).name (part_of m header.name.start header.name.end) ≡ true

-- what the request m, which is no dump, names: a listed command, its header nest and bitset, the header's parts and flags, and the port of the roll that they give
pub record Named (roll m : List ℕ) : Type 0 where
  pub command : Command
  pub listed : command_of (byte_at m 16) ≡ Some (OfSet command)
  pub parts : TopParts
  pub nests : top_of m command.change ≡ Ok parts
  pub target : Target
  pub found : target_of m parts.header false roll ≡ Ok (A.Port target)
  pub header : HeaderParts
  pub read : header_of m parts.header false ≡ Ok (record { parts = header; flags = target.flags })
  pub flags : target.flags ≡ slot_number m header.flags
  pub port : IsPort roll m header target.position

-- what the dump m asks for: a listed GET, its header nest, the header's parts and flags; it names no port
pub record DumpAsked (m : List ℕ) : Type 0 where
  pub command : Command
  pub listed : command_of (byte_at m 16) ≡ Some (OfSet command)
  pub is_get : command.change ≡ false
  pub parts : TopParts
  pub nests : top_of m false ≡ Ok parts
  pub header : HeaderParts
  pub flags : ℕ
  pub read : header_of m parts.header true ≡ Ok (record { parts = header; flags = flags })
  pub flags-are : flags ≡ slot_number m header.flags
  pub flags-few : flags ≤ 3
  pub no_index : header.index.present ≡ false
  pub no_name : header.name.present ≡ false

-- the bitset that a SET carries, as document 01 reads it over the names of the set
abbrev pub Carries : (box : Box) (m : List ℕ) → Named box.roll m → Bitset → Type 0
Carries box m n b =
    bitset_reading (part_of m 0 n.parts.bitset.end) n.parts.bitset.start (list_of box.names n.command.set) ≡ accepted b
