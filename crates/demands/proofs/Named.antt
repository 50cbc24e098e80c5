-- The port that a request's header gives is the one that is found; that of a dump gives none.
--     header-gives     the header's parts, its flags, and the record of the roll that has the index and the name that are given
--     dump-gives       of a dump: the header's parts, its flags, and that neither index nor name stands
use Prim.Native.Nat.{ℕ, ◌-◌, ◌≤◌, ◌<◌}
use mathlib.Core.Path.{◌≡◌, refl, sym, ap, ◌∙◌}
use mathlib.Core.List.{List}
use mathlib.Core.Bool.{Bool, true, false, ◌&&◌, ◌||◌, not, cond}
use lib.Dec.{ltb}
use native.Mathlib.Omega.{arith}
use borrow.Author.Tests.{ltb-false}
use Rattle.basics.proofs.Truth.{clash}
use Rattle.netlink_attributes.specs.Attributes.{part_of}
use Rattle.netlink.specs.Walk.{walked, slot_number}
use Rattle.netlink.specs.declared.walk.Slot.{Slot}
use Rattle.netlink.specs.declared.walk.Stop.{Stop}
use Rattle.netlink.specs.declared.walk.Stop.TheVariants.{Whole, At}
use Rattle.netlink.specs.declared.walk.Walked.{Walked}
use Rattle.refusal.specs.Refusal.{on_stop}
use Rattle.refusal.specs.declared.Refusal.TheVariants.{Dump, NoPort, HeaderFlag, UnknownPort, OtherName}
use Rattle.roll.specs.Name.{holds_name}
use Rattle.roll.specs.Record.{port_count, port_at, index_of, name_of}
use Rattle.roll.specs.Find.{found_by_index, found_by_name}
use Rattle.roll.proofs.find.Laws.{index_is, name-is}
use Rattle.request.specs.Policies.{header_policy}
use Rattle.request.specs.Parts.{header_parts}
use Rattle.request.specs.Header.{flags_judged, parts_of, dump_parts_of, header_of}
use Rattle.request.specs.Port.{other_name, port_by_index, port_by_name, port_of}
use Rattle.request.specs.Target.{with_flags, target_of}
use Rattle.request.specs.declared.parts.HeaderParts.{HeaderParts}
use Rattle.request.specs.declared.target.Target.{Target}
use Rattle.demands.specs.Message.{IsPort}
use Rattle.std.specs.Prelude.{Option, Some, None, Result, Ok, Err, ok_or}
use Rattle.refusal.specs.declared.Refusal.{Refusal}
use Rattle.request.specs.declared.header.Header.{Header}
use Rattle.request.specs.declared.target.Addressee.TheVariants as A
use Rattle.basics.specs.Results.{and_then}

-- the header level: its parts are those of its walk, and a port is given
module _ (m : List ℕ) (nest : Slot) (header : HeaderParts) (flags : ℕ) where
  abbrev walk : Walked
  walk = walked header_policy (part_of m 0 nest.end) nest.start

  abbrev read : HeaderParts
  read = header_parts walk.slots

  parts_are : header_of m nest false ≡ Ok (record { parts = header; flags = flags }) → (flags ≡ slot_number m header.flags) × (header.index.present || header.name.present ≡ true)
  unfolding header_of parts_of flags_judged
  parts_are = go walk.stop
    where
      by : (a b : Bool) → read.index.present || read.name.present ≡ a
          → cond (not a) (Err (NoPort (nest.start - 4)))
          (cond {A = Result Header Refusal} b (Err (HeaderFlag (read.flags.start - 4))) (Ok (record { parts = read; flags = slot_number m read.flags }))) ≡ Ok (record { parts = header; flags = flags })
          → (flags ≡ slot_number m header.flags) × (header.index.present || header.name.present ≡ true)
      by false b p e = absurd (let z : ◌≡◌ {A = ℕ} 0 1 = cc in omega arith)
      by true true p e = absurd (let z : ◌≡◌ {A = ℕ} 0 1 = cc in omega arith)
      by true false p e =
          let both : ◌≡◌ {A = Header} (record { parts = read; flags = slot_number m read.flags }) (record { parts = header; flags = flags }) = cc in
          let same : read ≡ header = ap (λ (x : Header). x.parts) both in
          let number : slot_number m read.flags ≡ flags = ap (λ (x : Header). x.flags) both in
          (sym number ∙ ap (λ (x : HeaderParts). slot_number m x.flags) same, rw same at p)

      go : (t : Stop) → on_stop t Err (parts_of m (nest.start - 4) read) ≡ Ok (record { parts = header; flags = flags })
          → (flags ≡ slot_number m header.flags) × (header.index.present || header.name.present ≡ true)
      go (At fault at) e = absurd (let z : ◌≡◌ {A = ℕ} 0 1 = cc in omega arith)
      go Whole e = by (read.index.present || read.name.present) (ltb 3 (slot_number m read.flags)) refl e

  -- and in a dump none is
  abbrev NoneNamed : Type 0
  NoneNamed = (flags ≡ slot_number m header.flags) × (flags ≤ 3) × (header.index.present ≡ false) × (header.name.present ≡ false)

  dump-parts-are : header_of m nest true ≡ Ok (record { parts = header; flags = flags }) → NoneNamed
  unfolding header_of dump_parts_of flags_judged
  dump-parts-are = go walk.stop
    where
      by : (i n b : Bool) → read.index.present ≡ i → read.name.present ≡ n → ltb 3 (slot_number m read.flags) ≡ b
          → cond (i || n) (Err Dump)
          (cond {A = Result Header Refusal} b (Err (HeaderFlag (read.flags.start - 4))) (Ok (record { parts = read; flags = slot_number m read.flags }))) ≡ Ok (record { parts = header; flags = flags })
          → NoneNamed
      by true n b p q f e = absurd (let z : ◌≡◌ {A = ℕ} 0 1 = cc in omega arith)
      by false true b p q f e = absurd (let z : ◌≡◌ {A = ℕ} 0 1 = cc in omega arith)
      by false false true p q f e = absurd (let z : ◌≡◌ {A = ℕ} 0 1 = cc in omega arith)
      by false false false p q f e =
          let both : ◌≡◌ {A = Header} (record { parts = read; flags = slot_number m read.flags }) (record { parts = header; flags = flags }) = cc in
          let same : read ≡ header = ap (λ (x : Header). x.parts) both in
          let number : slot_number m read.flags ≡ flags = ap (λ (x : Header). x.flags) both in
          let few = ltb-false 3 (slot_number m read.flags) f in
          (sym number ∙ ap (λ (x : HeaderParts). slot_number m x.flags) same, omega arith, rw same at p, rw same at q)

      go : (t : Stop) → on_stop t Err (dump_parts_of m read) ≡ Ok (record { parts = header; flags = flags }) → NoneNamed
      go (At fault at) e = absurd (let z : ◌≡◌ {A = ℕ} 0 1 = cc in omega arith)
      go Whole e = by read.index.present read.name.present (ltb 3 (slot_number m read.flags)) refl refl refl e

-- the port level: the record that is found has the index and the name
module _ (roll m : List ℕ) (nest : Slot) (header : HeaderParts) (position : ℕ) where
  abbrev name-given : List ℕ
  name-given = part_of m header.name.start header.name.end

  abbrev Has : Type 0
  Has =
      (position < port_count roll)
      × (header.index.present ≡ true → (port_at roll position).index ≡ slot_number m header.index)
      × (header.name.present ≡ true → holds_name (port_at roll position).name name-given ≡ true)

  by_index : port_by_index m nest header roll ≡ Ok position → Has
  unfolding port_by_index other_name index_of name_of
  by_index = found (found_by_index roll (slot_number m header.index)) refl
    where
      other : (k : ℕ) (a b : Bool) → cond (a && not b) (Err (OtherName (nest.start - 4))) (Ok k) ≡ Ok position
          → (k ≡ position) × (a ≡ true → b ≡ true)
      other k true true e = (cc, λ p. refl)
      other k true false e = absurd (let z : ◌≡◌ {A = ℕ} 0 1 = cc in omega arith)
      other k false b e = (cc, λ p. absurd (clash p refl))

      found : (f : Option ℕ) → found_by_index roll (slot_number m header.index) ≡ f
          → and_then (ok_or f (UnknownPort (header.index.start - 4)))
          (λ k. cond (other_name m header.name roll k) (Err (OtherName (nest.start - 4))) (Ok k)) ≡ Ok position
          → Has
      found None f e = absurd (let z : ◌≡◌ {A = ℕ} 0 1 = cc in omega arith)
      found (Some k) f e =
          let is = index_is roll (slot_number m header.index) k f in
          let o = other k header.name.present (holds_name (name_of roll k) name-given) e in
          (rw o.0 at is.0, λ p. rw o.0 at is.1, λ p. rw o.0 at (o.1 p))

  by_name : header.index.present ≡ false → port_by_name m header.name roll ≡ Ok position → Has
  unfolding port_by_name name_of
  by_name no_index = found (found_by_name roll name-given) refl
    where
      found : (f : Option ℕ) → found_by_name roll name-given ≡ f
          → ok_or f (UnknownPort (header.name.start - 4)) ≡ Ok position → Has
      found None f e = absurd (let z : ◌≡◌ {A = ℕ} 0 1 = cc in omega arith)
      found (Some k) f e =
          let is = name-is roll name-given k f in
          let same : k ≡ position = cc in
          (rw same at is.0, λ p. absurd (clash p no_index), λ p. rw same at is.1)

  pub port-has : port_of m nest header roll ≡ Ok position → Has
  unfolding port_of
  port-has = go header.index.present refl
    where
      go : (t : Bool) → header.index.present ≡ t → cond t (port_by_index m nest header roll) (port_by_name m header.name roll) ≡ Ok position → Has
      go true e q = by_index q
      go false e q = by_name e q

-- what the header nest of the message m gives
pub record Gives (roll m : List ℕ) (nest : Slot) (target : Target) : Type 0 where
  pub header : HeaderParts
  pub read : header_of m nest false ≡ Ok (record { parts = header; flags = target.flags })
  pub flags : target.flags ≡ slot_number m header.flags
  pub port : IsPort roll m header target.position

module _ (roll m : List ℕ) (nest : Slot) (target : Target) where
  gives : (header : HeaderParts) → header_of m nest false ≡ Ok (record { parts = header; flags = target.flags }) → port_of m nest header roll ≡ Ok target.position
      → Gives roll m nest target
  gives header read port =
      let parts = parts_are m nest header target.flags read in
      let has = port-has roll m nest header target.position port in
      record {
        header = header;
        read = read;
        flags = parts.0;
        port = record { inside = has.0; given = parts.1; index = has.1; name = has.2 };
      }

  pub header-gives : target_of m nest false roll ≡ Ok (A.Port target) → Gives roll m nest target
  unfolding target_of with_flags
  header-gives = go (header_of m nest false) refl
    where
      with-port : (header : HeaderParts) (flags : ℕ) → header_of m nest false ≡ Ok (record { parts = header; flags = flags })
          → (p : Result ℕ Refusal) → port_of m nest header roll ≡ p → with_flags p flags ≡ Ok (A.Port target) → Gives roll m nest target
      with-port header flags read (Err why) port e = absurd (let z : ◌≡◌ {A = ℕ} 0 1 = cc in omega arith)
      with-port header flags read (Ok k) port e =
          let same : ◌≡◌ {A = Target} (record { position = k; flags = flags }) target = cc in
          gives header (read ∙ ap (λ (x : Target). Ok (record { parts = header; flags = x.flags })) same) (port ∙ ap (λ (x : Target). Ok x.position) same)

      go : (h : Result Header Refusal) → header_of m nest false ≡ h → and_then h (λ x. with_flags (port_of m nest x.parts roll) x.flags) ≡ Ok (A.Port target)
          → Gives roll m nest target
      go (Err why) r e = absurd (let z : ◌≡◌ {A = ℕ} 0 1 = cc in omega arith)
      go (Ok x) r e = with-port x.parts x.flags r (port_of m nest x.parts roll) refl e

-- what the header nest of the dump m gives
pub record DumpGives (m : List ℕ) (nest : Slot) (flags : ℕ) : Type 0 where
  pub header : HeaderParts
  pub read : header_of m nest true ≡ Ok (record { parts = header; flags = flags })
  pub flags-are : flags ≡ slot_number m header.flags
  pub flags-few : flags ≤ 3
  pub no_index : header.index.present ≡ false
  pub no_name : header.name.present ≡ false

module _ (roll m : List ℕ) (nest : Slot) where
  pub dump-gives : (flags : ℕ) → target_of m nest true roll ≡ Ok (A.Unnamed flags) → DumpGives m nest flags
  unfolding target_of
  dump-gives flags = go (header_of m nest true) refl
    where
      go : (h : Result Header Refusal) → header_of m nest true ≡ h → and_then h (λ x. Ok (A.Unnamed x.flags)) ≡ Ok (A.Unnamed flags) → DumpGives m nest flags
      go (Err why) r e = absurd (let z : ◌≡◌ {A = ℕ} 0 1 = cc in omega arith)
      go (Ok x) r e =
          let same : x.flags ≡ flags = cc in
          let read = r ∙ ap (λ (y : ℕ). Ok (record { parts = x.parts; flags = y })) same in
          let are = dump-parts-are m nest x.parts flags read in
          record { header = x.parts; read = read; flags-are = are.0; flags-few = are.1; no_index = are.2; no_name = are.3 }

  -- a dump names no port, and another request does
  pub dump-unnamed : (target : Target) → target_of m nest true roll ≡ Ok (A.Port target) → ⊥
  unfolding target_of
  dump-unnamed target = go (header_of m nest true)
    where
      go : (h : Result Header Refusal) → and_then h (λ x. Ok (A.Unnamed x.flags)) ≡ Ok (A.Port target) → ⊥
      go (Err why) e = let z : ◌≡◌ {A = ℕ} 0 1 = cc in omega arith
      go (Ok x) e = let z : ◌≡◌ {A = ℕ} 0 1 = cc in omega arith

  pub one-named : (flags : ℕ) → target_of m nest false roll ≡ Ok (A.Unnamed flags) → ⊥
  unfolding target_of with_flags
  one-named flags = go (header_of m nest false)
    where
      by : (p : Result ℕ Refusal) (asked : ℕ) → with_flags p asked ≡ Ok (A.Unnamed flags) → ⊥
      by (Err why) asked e = let z : ◌≡◌ {A = ℕ} 0 1 = cc in omega arith
      by (Ok k) asked e = let z : ◌≡◌ {A = ℕ} 0 1 = cc in omega arith

      go : (h : Result Header Refusal) → and_then h (λ x. with_flags (port_of m nest x.parts roll) x.flags) ≡ Ok (A.Unnamed flags) → ⊥
      go (Err why) e = let z : ◌≡◌ {A = ℕ} 0 1 = cc in omega arith
      go (Ok x) e = by (port_of m nest x.parts roll) x.flags e
