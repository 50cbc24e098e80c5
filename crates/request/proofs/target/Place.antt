-- A port that a request names is one of the roll's.
use Prim.Native.Nat.{ℕ, ◌-◌, ◌≤◌, ◌<◌}
use mathlib.Core.Path.{◌≡◌, refl, sym, ◌∙◌}
use mathlib.Core.List.{List}
use mathlib.Core.Bool.{Bool, true, false, cond}
use lib.ListN.{length}
use native.Mathlib.Omega.{arith}
use Rattle.netlink_attributes.specs.Attributes.{part_of}
use Rattle.netlink.specs.Walk.{slot_number}
use Rattle.netlink.specs.declared.walk.Slot.{Slot}
use Rattle.roll.specs.Record.{port_count}
use Rattle.roll.specs.Find.{found_by_index, found_by_name}
use Rattle.roll.proofs.find.Laws.{index_is, name-is}
use Rattle.request.specs.Header.{header_of}
use Rattle.request.specs.Optional.{gives_port, optional_header_of, optional_target_of}
use Rattle.request.specs.Port.{other_name, port_by_index, port_by_name, port_of}
use Rattle.request.specs.Target.{with_flags, target_of}
use Rattle.request.specs.declared.parts.HeaderParts.{HeaderParts}
use Rattle.request.specs.declared.target.Target.{Target}
use Rattle.std.specs.Prelude.{Option, Some, None, Result, Ok, Err, ok_or}
use Rattle.basics.specs.Results.{and_then}
use Rattle.refusal.specs.declared.Refusal.TheVariants.{UnknownPort}
use Rattle.refusal.specs.declared.Refusal.{Refusal}
use Rattle.request.specs.declared.header.Header.{Header}
use Rattle.request.specs.declared.target.Addressee.{Addressee}
use Rattle.request.specs.declared.target.Addressee.TheVariants as A

module _ (roll : List ℕ) where
  abbrev PortReadIn : Result ℕ Refusal → Type 0
  PortReadIn (Err why) = 0 ≤ length roll
  PortReadIn (Ok k) = k < port_count roll

  keeps : {A : Type 0} (Q : A → Type 0) (t : Bool) (a b : A) → Q a → Q b → Q (cond t a b)
  keeps Q true a b p q = p
  keeps Q false a b p q = q

  found_in : (f : Option ℕ) (why : Refusal) (some : ℕ → Result ℕ Refusal) → ((k : ℕ) → f ≡ Some k → k < port_count roll)
      → ((k : ℕ) → k < port_count roll → PortReadIn (some k)) → PortReadIn (and_then (ok_or f why) some)
  found_in None why some b g = omega arith
  found_in (Some k) why some b g = g k (b k refl)

  by-index-in : (m : List ℕ) (header : Slot) (parts : HeaderParts) → PortReadIn (port_by_index m header parts roll)
  unfolding port_by_index
  by-index-in m header parts =
      found_in (found_by_index roll (slot_number m parts.index)) _ _ (λ k e. (index_is roll (slot_number m parts.index) k e).0)
      (λ k p. keeps PortReadIn (other_name m parts.name roll k) _ _ (omega arith) p)

  by_name-in : (m : List ℕ) (name : Slot) → PortReadIn (port_by_name m name roll)
  unfolding port_by_name
  by_name-in m name = go (found_by_name roll (part_of m name.start name.end)) refl
    where
      go : (f : Option ℕ) → found_by_name roll (part_of m name.start name.end) ≡ f → PortReadIn (ok_or f (UnknownPort (name.start - 4)))
      go None e = omega arith
      go (Some k) e = (name-is roll (part_of m name.start name.end) k e).0

  port-in : (m : List ℕ) (header : Slot) (parts : HeaderParts) → PortReadIn (port_of m header parts roll)
  unfolding port_of
  port-in m header parts =
      keeps PortReadIn parts.index.present (port_by_index m header parts roll) (port_by_name m parts.name roll)
      (by-index-in m header parts) (by_name-in m parts.name)

  abbrev pub TargetIn : Result Addressee Refusal → Type 0
  TargetIn (Err why) = 0 ≤ length roll
  TargetIn (Ok (A.Unnamed flags)) = 0 ≤ length roll
  TargetIn (Ok (A.Port target)) = target.position < port_count roll

  with-flags-in : (t : Result ℕ Refusal) (flags : ℕ) → PortReadIn t → TargetIn (with_flags t flags)
  unfolding with_flags
  with-flags-in (Err why) flags p = p
  with-flags-in (Ok k) flags p = p

  -- whatever a request names
  pub target-counted : (m : List ℕ) (header : Slot) (dump : Bool) → TargetIn (target_of m header dump roll)
  unfolding target_of
  target-counted m header dump = go (header_of m header dump)
    where
      go : (h : Result Header Refusal) → TargetIn (and_then h (λ h. cond dump (Ok (A.Unnamed h.flags)) (with_flags (port_of m header h.parts roll) h.flags)))
      go (Err why) = omega arith
      go (Ok h) =
          keeps TargetIn dump (Ok (A.Unnamed h.flags)) (with_flags (port_of m header h.parts roll) h.flags) (omega arith)
          (with-flags-in (port_of m header h.parts roll) h.flags (port-in m header h.parts))

  -- and where it may name none
  pub optional-counted : (m : List ℕ) (header : Slot) → TargetIn (optional_target_of m header roll)
  unfolding optional_target_of
  optional-counted m header = go (optional_header_of m header)
    where
      go : (h : Result Header Refusal) → TargetIn (and_then h (λ h. cond (gives_port h.parts) (with_flags (port_of m header h.parts roll) h.flags) (Ok (A.Unnamed h.flags))))
      go (Err why) = omega arith
      go (Ok h) =
          keeps TargetIn (gives_port h.parts) (with_flags (port_of m header h.parts roll) h.flags) (Ok (A.Unnamed h.flags))
          (with-flags-in (port_of m header h.parts roll) h.flags (port-in m header h.parts)) (omega arith)

  -- the port that a request names
  pub target-inside : (m : List ℕ) (header : Slot) (dump : Bool) (r : Result Addressee Refusal) (target : Target) → r ≡ target_of m header dump roll → r ≡ Ok (A.Port target)
      → target.position < port_count roll
  target-inside m header dump r target er q = rw (sym er ∙ q) at (target-counted m header dump)
