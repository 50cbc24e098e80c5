-- A port that is decided on is one of the roll's.
use Prim.Native.Nat.{ℕ, ◌<◌}
use mathlib.Core.Path.{◌≡◌}
use mathlib.Core.List.{List}
use mathlib.Core.Bool.{Bool, true, false}
use Rattle.std.specs.Prelude.{Result, Ok, Err, IfOk}
use Rattle.basics.specs.Results.{and_then}
use Rattle.entries.specs.Entry.{count}
use Rattle.netlink_attributes.specs.Attributes.{part_of}
use Rattle.netlink.specs.declared.walk.Slot.{Slot}
use Rattle.refusal.specs.declared.Refusal.{Refusal}
use Rattle.bitset_form.specs.declared.Form.{Form}
use Rattle.bitset_form.specs.Bitset.{Reading}
use Rattle.bitset_form.specs.Bitset.Reading.{refused, accepted}
use Rattle.bitset.specs.Judge.{bitset_reading}
use Rattle.layout.specs.Layout.{list_of}
use Rattle.roll.specs.Record.{port_count}
use Rattle.boxes.specs.Box.{Box}
use Rattle.admission.specs.declared.commands.Command.{Command}
use Rattle.request.specs.Top.{top_of}
use Rattle.request.specs.Target.{target_of}
use Rattle.request.proofs.target.Place.{TargetIn, target-counted}
use Rattle.request.specs.declared.parts.TopParts.{TopParts}
use Rattle.request.specs.declared.target.Target.{Target}
use Rattle.request.specs.declared.target.Addressee.{Addressee}
use Rattle.request.specs.declared.target.Addressee.TheVariants as A
use Rattle.decision.specs.Decision.{reading_decision, bitset_decision, target_decision, header_decision, decided}
use Rattle.decision.specs.PortIn.{PortIn}
use Rattle.decision.specs.declared.Plan.{Plan}
use Rattle.decision.specs.declared.Plan.TheVariants as P

module _ (roll : List ℕ) where
  reading-in : (x : Reading) (n position nest : ℕ) → position < port_count roll → IfOk (reading_decision x n position nest) (PortIn roll)
  unfolding PortIn
  reading-in (refused why) n position nest h = tt
  reading-in (accepted b) n position nest h = h

  bitset-in : (m : List ℕ) (bitset : Slot) (names : List ℕ) (position : ℕ) → position < port_count roll → IfOk (bitset_decision m bitset names position) (PortIn roll)
  unfolding bitset_decision
  bitset-in m bitset names position h = reading-in (bitset_reading (part_of m 0 bitset.end) bitset.start names) (count names) position _ h

  on-target-in : (a : Result Addressee Refusal) (change : Bool) (set : ℕ → Result Plan Refusal) → TargetIn roll a
      → ((position : ℕ) → position < port_count roll → IfOk (set position) (PortIn roll)) → IfOk (target_decision a change set) (PortIn roll)
  unfolding PortIn
  on-target-in (Err why) change set h f = tt
  on-target-in (Ok (A.Unnamed flags)) change set h f = tt
  on-target-in (Ok (A.Port target)) true set h f = f target.position h
  on-target-in (Ok (A.Port target)) false set h f = h

  on-top-in : (t : Result TopParts Refusal) (rest : TopParts → Result Plan Refusal) → ((parts : TopParts) → IfOk (rest parts) (PortIn roll)) → IfOk (and_then t rest) (PortIn roll)
  on-top-in (Err why) rest f = tt
  on-top-in (Ok parts) rest f = f parts

  -- the port of a GET, the port of a SET
  pub get_in : (p : Plan) (target : Target) → PortIn roll p → p ≡ P.Get target → target.position < port_count roll
  unfolding PortIn
  get_in p target h q = rw q at h

  pub set-in : (p : Plan) (position nest : ℕ) (form : Form) → PortIn roll p → p ≡ P.Set position nest form → position < port_count roll
  unfolding PortIn
  set-in p position nest form h q = rw q at h

module _ (box : Box) (m : List ℕ) (command : Command) (dump : Bool) where
  header-in : (parts : TopParts) → IfOk (header_decision box m command dump parts) (PortIn box.roll)
  unfolding header_decision
  header-in parts =
      let names = list_of box.names command.set in
      on-target-in box.roll (target_of m parts.header dump box.roll) command.change (bitset_decision m parts.bitset names)
      (target-counted box.roll m parts.header dump) (bitset-in box.roll m parts.bitset names)

  any-in : IfOk (decided box m command dump) (PortIn box.roll)
  unfolding decided
  any-in = on-top-in box.roll (top_of m command.change) (header_decision box m command dump) header-in

  -- whatever is decided
  pub decided-in : (d : Result Plan Refusal) (plan : Plan) (roll : List ℕ) → d ≡ decided box m command dump → d ≡ Ok plan → roll ≡ box.roll → PortIn roll plan
  decided-in d plan roll e q er = rw er (go d (rw e any-in) q)
    where
      go : (x : Result Plan Refusal) → IfOk x (PortIn box.roll) → x ≡ Ok plan → PortIn box.roll plan
      go x h z = rw z at h
