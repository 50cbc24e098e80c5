-- Laws of one STRINGSET: one for each return.
use Prim.Native.Nat.{ℕ, ◌-◌}
use mathlib.Core.Path.{◌≡◌, sym, ap, ◌∙◌}
use mathlib.Core.List.{List}
use mathlib.Core.Bool.{Bool, true, false, ◌&&◌, not, cond}
use lib.ListN.{get_or}
use lib.Dec.{eqb}
use borrow.Author.Tests.{eq-eqb, ne_eqb}
use Rattle.basics.proofs.Truth.{cond-true, cond-false}
use Rattle.netlink.specs.Walk.{absent, walked, slot_number}
use Rattle.netlink.specs.declared.policy.Fault.{Fault}
use Rattle.netlink.specs.declared.policy.Rule.{Rule}
use Rattle.netlink.specs.declared.walk.Slot.{Slot}
use Rattle.netlink.specs.declared.walk.Stop.{Stop}
use Rattle.netlink.specs.declared.walk.Stop.TheVariants as S
use Rattle.netlink.specs.declared.walk.Walked.{Walked}
use Rattle.refusal.specs.Refusal.{of_fault, on_stop}
use Rattle.refusal.specs.declared.Refusal.{Refusal}
use Rattle.refusal.specs.declared.Refusal.TheVariants.{MissingIn, NotOffered}
use Rattle.layout.specs.declared.Set.{Set}
use Rattle.layout.specs.declared.Set.TheVariants.{Debug, Flags}
use Rattle.strset_request.specs.Policies.{string_set_policy}
use Rattle.strset_request.specs.Set.{id_of, set_of_id, id_judged, set_reading}
use Rattle.std.specs.Prelude.{Result, Ok, Err}

module _ (set : Set) where
  pub id-debug : set ≡ Debug → 10 ≡ id_of set
  unfolding id_of
  id-debug q = sym (rw q)

  pub id-flags : set ≡ Flags → 2 ≡ id_of set
  unfolding id_of
  id-flags q = sym (rw q)

pub ruleset id-laws = (id-debug, id-flags)

module _ (id d : ℕ) (named : Bool) (at : ℕ) (ed : d ≡ id_of Debug) where
  pub of-debug : id ≡ d → Ok Debug ≡ set_of_id id named at
  unfolding set_of_id
  of-debug q = sym (cond-true (eqb id (id_of Debug)) _ _ (eq-eqb id (id_of Debug) (q ∙ ed)))

  module _ (n : id ≡ d → ⊥) where
    past : set_of_id id named at ≡ cond (eqb id (id_of Flags) && named) (Ok Flags) (Err (NotOffered at))
    unfolding set_of_id
    past = cond-false (eqb id (id_of Debug)) _ _ (ne_eqb id (id_of Debug) (λ q. n (q ∙ sym ed)))

    module _ (f : ℕ) (ef : f ≡ id_of Flags) where
      pub of-flags : id ≡ f → named ≡ true → Ok Flags ≡ set_of_id id named at
      of-flags q t = sym (past ∙ cond-true (eqb id (id_of Flags) && named) _ _ (rw (eq-eqb id (id_of Flags) (q ∙ ef), t)))

      pub of-unnamed : named ≡ false → id ≡ f → Err (NotOffered at) ≡ set_of_id id named at
      of-unnamed t q = sym (past ∙ cond-false (eqb id (id_of Flags) && named) _ _ (rw (eq-eqb id (id_of Flags) (q ∙ ef), t)))

      pub of_other : (id ≡ f → ⊥) → Err (NotOffered at) ≡ set_of_id id named at
      of_other o = sym (past ∙ cond-false (eqb id (id_of Flags) && named) _ _ (rw (ne_eqb id (id_of Flags) (λ q. o (q ∙ sym ef)))))

pub ruleset of-id-laws = (of-debug, of-flags, of-unnamed, of_other)

module _ (s : List ℕ) (nest : ℕ) (named : Bool) (id : Slot) where
  pub id-missing : not id.present ≡ true → Err (MissingIn 1 nest) ≡ id_judged s nest named id
  unfolding id_judged
  id-missing h = sym (cond-true (not id.present) _ _ h)

  pub id-present : (x at : ℕ) (r : Result Set Refusal) → not id.present ≡ false → x ≡ slot_number s id → at ≡ id.start - 4 → r ≡ set_of_id x named at
      → r ≡ id_judged s nest named id
  unfolding id_judged
  id-present x at r h ex ea er = er ∙ rw (ex, ea) (sym (cond-false (not id.present) _ _ h))

pub ruleset judge-id-laws = (id-missing, id-present)

module _ (s : List ℕ) (from : ℕ) (named : Bool) (p : List Rule) (ep : p ≡ string_set_policy) (w : Walked) (ew : w ≡ walked p s from) where
  rest : Walked → Result Set Refusal
  rest x = id_judged s (from - 4) named (get_or x.slots 1 absent)

  by-walk : set_reading s from named ≡ on_stop w.stop Err (rest w)
  unfolding set_reading rest
  by-walk = sym (ap (λ (x : Walked). on_stop x.stop Err (rest x)) (ew ∙ ap (λ (x : List Rule). walked x s from) ep))

  pub set-fault : (f : Fault) (at : ℕ) (y : Refusal) → w.stop ≡ S.At f at → y ≡ of_fault f at → Err y ≡ set_reading s from named
  set-fault f at y q ey = ap Err ey ∙ sym (by-walk ∙ ap (λ (x : Stop). on_stop x Err (rest w)) q)

  pub set-whole : (id : Slot) (at : ℕ) (r : Result Set Refusal) → w.stop ≡ S.Whole → id ≡ get_or w.slots 1 absent → at ≡ from - 4 → r ≡ id_judged s at named id
      → r ≡ set_reading s from named
  unfolding rest
  set-whole id at r q ei ea er =
      er ∙ ap (λ (x : ℕ). id_judged s x named id) ea ∙ ap (id_judged s (from - 4) named) ei
      ∙ sym (by-walk ∙ ap (λ (x : Stop). on_stop x Err (rest w)) q)

pub ruleset set-laws = (set-fault, set-whole)
