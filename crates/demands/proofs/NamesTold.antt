-- What the reply to a STRSET_GET tells, by the attributes that stand in the request: its port, if one is named, and its sets.
use Prim.Native.Nat.{ℕ, ◌-◌}
use mathlib.Core.Path.{◌≡◌, refl, sym, ap, ◌∙◌}
use mathlib.Core.List.{List, [], ◌∷◌}
use mathlib.Core.Bool.{Bool, true, false, not, cond}
use lib.Dec.{ltb}
use native.Mathlib.Omega.{arith}
use Rattle.netlink_attributes.specs.Attributes.{part_of}
use Rattle.netlink.specs.Walk.{walked, slot_number}
use Rattle.netlink.proofs.walk.Meaning.{slot_is}
use Rattle.netlink.specs.declared.walk.Slot.{Slot}
use Rattle.netlink.specs.declared.walk.Stop.{Stop}
use Rattle.netlink.specs.declared.walk.Stop.TheVariants.{Whole, At}
use Rattle.netlink.specs.declared.walk.Walked.{Walked}
use Rattle.refusal.specs.Refusal.{on_stop}
use Rattle.refusal.specs.declared.Refusal.TheVariants as R
use Rattle.roll.specs.Record.{index_of, name_of}
use Rattle.boxes.specs.Box.{Box}
use Rattle.request.specs.Policies.{header_policy}
use Rattle.request.specs.Parts.{header_parts}
use Rattle.request.specs.Header.{flags_judged}
use Rattle.request.specs.Port.{port_of}
use Rattle.request.specs.Target.{with_flags}
use Rattle.request.specs.Optional.{gives_port, optional_header_of, optional_target_of}
use Rattle.request.specs.declared.parts.HeaderParts.{HeaderParts}
use Rattle.request.specs.declared.target.Target.{Target}
use Rattle.strset_request.specs.Policies.{strset_policy}
use Rattle.strset_request.specs.Top.{strset_parts, with_header, strset_top_of}
use Rattle.strset_request.specs.Asked.{on_target, sets_asked, asked_of}
use Rattle.strset_request.specs.declared.top.StrsetParts.{StrsetParts}
use Rattle.strset_request.specs.declared.asked.Asked.{Asked}
use Rattle.strset.specs.Strset.{index_in, name_in, strset_content_in}
use Rattle.read_back.specs.Strset.{ToldName, bytes_before, reply_owed}
use Rattle.demands.specs.Message.{IsPort}
use Rattle.demands.specs.Names.{top_slot, header_given, port_given, sets_of, PortOf}
use Rattle.demands.specs.Names.PortOf.{none_named, one_named}
use Rattle.demands.proofs.Named.{port-has}
use Rattle.demands.proofs.Names.{sets-told}
use Rattle.std.specs.Prelude.{Option, Some, None, Result, Ok, Err, is_some}
use Rattle.refusal.specs.declared.Refusal.{Refusal}
use Rattle.request.specs.declared.header.Header.{Header}
use Rattle.request.specs.declared.target.Addressee.{Addressee}
use Rattle.request.specs.declared.target.Addressee.TheVariants as A
use Rattle.basics.specs.Results.{and_then}

module _ (m : List ℕ) where
  -- the top level: its parts are the last of each type
  abbrev top-walk : Walked
  top-walk = walked strset_policy m 20

  abbrev top_read : StrsetParts
  top_read = strset_parts top-walk.slots

  abbrev top-last : StrsetParts
  top-last = record { header = top_slot m 1; sets = top_slot m 2; counts = top_slot m 3 }

  top-slots : (parts : StrsetParts) → strset_top_of m ≡ Ok parts → parts ≡ top-last
  unfolding strset_top_of with_header strset_parts
  top-slots parts = go top-walk.stop refl
    where
      by : (t : Bool) → cond (not t) (Err (R.MissingTop 1)) (Ok top_read) ≡ Ok parts → parts ≡ top_read
      by true e = cc
      by false e = absurd (let z : ◌≡◌ {A = ℕ} 0 1 = cc in omega arith)

      go : (t : Stop) → top-walk.stop ≡ t → on_stop t Err (with_header top_read) ≡ Ok parts → parts ≡ top-last
      go (At fault at) w e = absurd (let z : ◌≡◌ {A = ℕ} 0 1 = cc in omega arith)
      go Whole w e =
          by top_read.header.present e
          ∙ rw (slot_is strset_policy m 20 w 1 (omega arith), slot_is strset_policy m 20 w 2 (omega arith), slot_is strset_policy m 20 w 3 (omega arith))

  -- and those of the header nest
  abbrev nest : Slot
  nest = top_slot m 1

  abbrev walk : Walked
  walk = walked header_policy (part_of m 0 nest.end) nest.start

  abbrev read : HeaderParts
  read = header_parts walk.slots

  header-slots : (header : HeaderParts) (flags : ℕ) → optional_header_of m nest ≡ Ok (record { parts = header; flags = flags }) → header ≡ header_given m
  unfolding optional_header_of flags_judged header_parts
  header-slots header flags = go walk.stop refl
    where
      by : (t : Bool) → cond {A = Result Header Refusal} t (Err (R.HeaderFlag (read.flags.start - 4))) (Ok (record { parts = read; flags = slot_number m read.flags })) ≡ Ok (record { parts = header; flags = flags }) → header ≡ read
      by true e = absurd (let z : ◌≡◌ {A = ℕ} 0 1 = cc in omega arith)
      by false e =
          let both : ◌≡◌ {A = Header} (record { parts = read; flags = slot_number m read.flags }) (record { parts = header; flags = flags }) = cc in
          sym (ap (λ (x : Header). x.parts) both)

      go : (t : Stop) → walk.stop ≡ t → on_stop t Err (flags_judged m read) ≡ Ok (record { parts = header; flags = flags }) → header ≡ header_given m
      go (At fault at) w e = absurd (let z : ◌≡◌ {A = ℕ} 0 1 = cc in omega arith)
      go Whole w e =
          by (ltb 3 (slot_number m read.flags)) e
          ∙ rw (slot_is header_policy (part_of m 0 nest.end) nest.start w 1 (omega arith), slot_is header_policy (part_of m 0 nest.end) nest.start w 2 (omega arith), slot_is header_policy (part_of m 0 nest.end) nest.start w 3 (omega arith))

  module _ (roll : List ℕ) where
    -- the port that the header level comes to, if any
    Given : Option ℕ → Type 0
    Given port = (is_some port ≡ port_given m) × PortOf roll m (cond (is_some port) (record { index = index_in roll port; name = bytes_before (name_in roll port) } ∷ []) [])

    abbrev to_port : Header → Result Addressee Refusal
    to_port x = cond (gives_port x.parts) (with_flags (port_of m nest x.parts roll) x.flags) (Ok (A.Unnamed x.flags))

    none-given : (flags : ℕ) → optional_target_of m nest roll ≡ Ok (A.Unnamed flags) → Given None
    unfolding optional_target_of Given with_flags
    none-given flags = go (optional_header_of m nest) refl
      where
        port : (header : HeaderParts) (f : ℕ) → header ≡ header_given m → (p : Result ℕ Refusal) (t : Bool) → gives_port header ≡ t
            → cond t (with_flags p f) (Ok (A.Unnamed f)) ≡ Ok (A.Unnamed flags) → port_given m ≡ false
        port header f same (Err why) true g e = absurd (let z : ◌≡◌ {A = ℕ} 0 1 = cc in omega arith)
        port header f same (Ok k) true g e = absurd (let z : ◌≡◌ {A = ℕ} 0 1 = cc in omega arith)
        port header f same p false g e = rw same at g

        go : (h : Result Header Refusal) → optional_header_of m nest ≡ h → and_then h to_port ≡ Ok (A.Unnamed flags) → Given None
        go (Err why) r e = absurd (let z : ◌≡◌ {A = ℕ} 0 1 = cc in omega arith)
        go (Ok x) r e =
            let none = port x.parts x.flags (header-slots x.parts x.flags r) (port_of m nest x.parts roll) (gives_port x.parts) refl e in
            (sym none, none_named none)

    one-given : (target : Target) → optional_target_of m nest roll ≡ Ok (A.Port target) → Given (Some target.position)
    unfolding optional_target_of Given with_flags index_in name_in index_of name_of
    one-given target = go (optional_header_of m nest) refl
      where
        port : (header : HeaderParts) (f : ℕ) → header ≡ header_given m → (p : Result ℕ Refusal) → port_of m nest header roll ≡ p → (t : Bool) → gives_port header ≡ t
            → cond t (with_flags p f) (Ok (A.Unnamed f)) ≡ Ok (A.Port target) → (port_given m ≡ true) × IsPort roll m (header_given m) target.position
        port header f same (Err why) found true g e = absurd (let z : ◌≡◌ {A = ℕ} 0 1 = cc in omega arith)
        port header f same (Ok k) found true g e =
            let is : ◌≡◌ {A = Target} (record { position = k; flags = f }) target = cc in
            let has = port-has roll m nest header target.position (found ∙ ap (λ (x : Target). Ok x.position) is) in
            let port : IsPort roll m header target.position = record { inside = has.0; given = g; index = has.1; name = has.2 } in
            (rw same at g, rw same at port)
        port header f same p found false g e = absurd (let z : ◌≡◌ {A = ℕ} 0 1 = cc in omega arith)

        go : (h : Result Header Refusal) → optional_header_of m nest ≡ h → and_then h to_port ≡ Ok (A.Port target) → Given (Some target.position)
        go (Err why) r e = absurd (let z : ◌≡◌ {A = ℕ} 0 1 = cc in omega arith)
        go (Ok x) r e =
            let one = port x.parts x.flags (header-slots x.parts x.flags r) (port_of m nest x.parts roll) refl (gives_port x.parts) refl e in
            (sym one.0, one_named target.position one.1)

-- what the reply owes, of a right request
module _ (box : Box) (m : List ℕ) (asked : Asked) where
  abbrev Owed : Type 0
  Owed =
      (port : List ToldName) × PortOf box.roll m port
      × (reply_owed (strset_content_in box asked) ≡ record { port = port; sets = sets_of m box.names })

  owed : (port : Option ℕ) → Given m box.roll port → sets_asked m (top-last m) port ≡ Ok asked → Owed
  unfolding Given sets_asked reply_owed strset_content_in
  owed port given q =
      let told = sets-told m (top_slot m 2) port (top_slot m 3).present asked q box.names in (
        cond (is_some port) (record { index = index_in box.roll port; name = bytes_before (name_in box.roll port) } ∷ []) [],
        given.1,
        rw (told.0, told.1, given.0),
      )

  pub names-owed : asked_of m box.roll ≡ Ok asked → Owed
  unfolding asked_of
  names-owed = top (strset_top_of m) refl
    where
      target : (t : Result Addressee Refusal) → optional_target_of m (top_slot m 1) box.roll ≡ t → on_target t (sets_asked m (top-last m)) ≡ Ok asked → Owed
      target (Err why) r q = absurd (let z : ◌≡◌ {A = ℕ} 0 1 = cc in omega arith)
      target (Ok (A.Unnamed flags)) r q = owed None (none-given m box.roll flags r) q
      target (Ok (A.Port t)) r q = owed (Some t.position) (one-given m box.roll t r) q

      top : (x : Result StrsetParts Refusal) → strset_top_of m ≡ x → and_then x (λ parts. on_target (optional_target_of m parts.header box.roll) (sets_asked m parts)) ≡ Ok asked → Owed
      top (Err why) e q = absurd (let z : ◌≡◌ {A = ℕ} 0 1 = cc in omega arith)
      top (Ok parts) e q =
          let same = top-slots m parts e in
          target (optional_target_of m (top_slot m 1) box.roll) refl (rw same at q)
