-- Laws of the search for the port: one for each return.
use Prim.Native.Nat.{ℕ, ◌-◌, ◌<◌}
use mathlib.Core.Path.{◌≡◌, sym, ap, ◌∙◌}
use mathlib.Core.List.{List}
use mathlib.Core.Bool.{Bool, true, false, ◌&&◌, not}
use borrow.Author.Tests.{not-true, not-false}
use Rattle.basics.proofs.Results.{gives}
use Rattle.basics.proofs.Truth.{cond-true, cond-false}
use Rattle.netlink_attributes.specs.Attributes.{part_of}
use Rattle.netlink.specs.declared.walk.Slot.{Slot}
use Rattle.refusal.specs.declared.Refusal.{Refusal}
use Rattle.refusal.specs.declared.Refusal.TheVariants.{UnknownPort}
use Rattle.roll.specs.Find.{found_by_index, found_by_name}
use Rattle.roll.specs.Name.{holds_name}
use Rattle.roll.specs.Record.{port_count, name_of}
use Rattle.roll.proofs.find.Laws.{index_is}
use Rattle.request.specs.Port.{other_name, port_by_index, port_by_name, port_of}
use Rattle.request.specs.declared.parts.HeaderParts.{HeaderParts}
use Rattle.std.specs.Prelude.{Option, Result, Ok, ok_or}

module _ (m : List ℕ) (name : Slot) (roll : List ℕ) (k : ℕ) where
  pub other-absent : not name.present ≡ true → false ≡ other_name m name roll k
  unfolding other_name
  other-absent h = sym (ap (λ (x : Bool). x && not (holds_name (name_of roll k) (part_of m name.start name.end))) (not-true name.present h))

  pub other-given : (s p : List ℕ) (b : Bool) → not name.present ≡ false → s ≡ name_of roll k → p ≡ part_of m name.start name.end → b ≡ holds_name s p
      → not b ≡ other_name m name roll k
  unfolding other_name
  other-given s p b h es ep eb =
      let e : b ≡ holds_name (name_of roll k) (part_of m name.start name.end) = eb ∙ rw (es, ep) in
      ap not e
      ∙ sym (ap (λ (x : Bool). x && not (holds_name (name_of roll k) (part_of m name.start name.end))) (not-false name.present h))

pub ruleset other-laws = (other-absent, other-given)

-- the port that is found is one of the roll's
pub index-here : (roll : List ℕ) (x k : ℕ) (f : Option ℕ) (why : Refusal) (o : Result ℕ Refusal) → f ≡ found_by_index roll x → o ≡ ok_or f why → o ≡ Ok k
    → k < port_count roll
index-here roll x k f why o ef eo q = (index_is roll x k (sym ef ∙ gives f o why k eo q)).0

-- by name
pub by_name : (m : List ℕ) (name : Slot) (roll p : List ℕ) (f : Option ℕ) (at : ℕ) (r : Result ℕ Refusal) → p ≡ part_of m name.start name.end → f ≡ found_by_name roll p
    → at ≡ name.start - 4 → r ≡ ok_or f (UnknownPort at) → r ≡ port_by_name m name roll
unfolding port_by_name
by_name m name roll p f at r ep ef ea e =
    e ∙ ap (λ (y : Option ℕ). ok_or y (UnknownPort at)) (ef ∙ ap (found_by_name roll) ep)
    ∙ ap (λ (y : ℕ). ok_or (found_by_name roll (part_of m name.start name.end)) (UnknownPort y)) ea

module _ (m : List ℕ) (header : Slot) (parts : HeaderParts) (roll : List ℕ) (t : Result ℕ Refusal) where
  pub port-by-index : parts.index.present ≡ true → t ≡ port_by_index m header parts roll → t ≡ port_of m header parts roll
  unfolding port_of
  port-by-index h e = e ∙ sym (cond-true parts.index.present _ _ h)

  pub port-by-name : parts.index.present ≡ false → t ≡ port_by_name m parts.name roll → t ≡ port_of m header parts roll
  unfolding port_of
  port-by-name h e = e ∙ sym (cond-false parts.index.present _ _ h)

pub ruleset port-laws = (port-by-index, port-by-name)
