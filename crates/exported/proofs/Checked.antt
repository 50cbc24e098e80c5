-- What C gets back from `ethnl_check_box`, from its contract alone.
--     checked    the number and the offset are as `Checked` says, whatever was lent
use Prim.Native.Nat.{ℕ, ◌≤◌, ◌<◌}
use mathlib.Core.Path.{◌≡◌, refl, ap, ◌∙◌}
use mathlib.Core.List.{List}
use mathlib.Core.Logic.{⊎_elim}
use lib.ListN.{length}
use native.Mathlib.Omega.{arith}
use Rattle.basics.proofs.Order.{lt-or-ge}
use Rattle.response.specs.Answer.{kind_number, refusal_number}
use Rattle.response.specs.declared.Kind.{Kind}
use Rattle.response.specs.declared.Kind.TheVariants.{End, Skipped, Done, Refused}
use Rattle.boxes.specs.Box.{ports_in}
use Rattle.handler.specs.Bytes.{bytes_outcome}
use Rattle.demands.specs.BoxRules.{StoredRules}
use Rattle.demands.specs.BoxFault.{BoxParts, call_at, Exactly, FaultTold}
use Rattle.demands.proofs.BoxFault.{fault-told, kept-rules, rules-kept}
use Rattle.demands.proofs.BoxRefused.{broken-exactly, kept_second}
use Rattle.demands.proofs.BoxRoll.{rules-counted}
use Rattle.exported.specs.Returned.{Left, Leaves}
use Rattle.exported.specs.Checked.{CheckLeft, CheckLeaves, lent_with, Checked}

module _ (c : BoxParts) (r : CheckLeft) (h : CheckLeaves c r) where
  told : FaultTold c r.number r.offset
  told = rw (h.part, h.place) (fault-told c)

  rules : Exactly (r.number ≡ 0) ((position place : ℕ) → place ≤ ports_in c.box → StoredRules c.box c.settings (call_at c position place))
  rules = (λ z. kept-rules c (told.sound.0 z), λ kept. told.sound.1 (rules-kept c 0 0 (kept 0 0 (omega arith))))

  module _ (position place : ℕ) (datagram page : List ℕ) (left : Left) (l : Leaves (lent_with c position place datagram page) left) where
    abbrev kind : Kind
    kind = (bytes_outcome c.box c.settings (call_at c position place) datagram (length page)).response.kind

    -- in a right box a refusal has another number
    not-one : place ≤ ports_in c.box → r.number ≡ 0 → left.refusal ≡ 1 → ⊥
    not-one few z one = go kind refl
      where
        go : (k : Kind) → kind ≡ k → ⊥
        go End e = omega (arith, one, l.refusal ∙ ap refusal_number e)
        go Skipped e = omega (arith, one, l.refusal ∙ ap refusal_number e)
        go Done e = omega (arith, one, l.refusal ∙ ap refusal_number e)
        go (Refused why) e =
            let n = kept_second c.box c.settings (call_at c position place) datagram (length page) (rules.0 z position place few) why e in
            omega (arith, n, one, l.refusal ∙ ap refusal_number e)

    broken : (StoredRules c.box c.settings (call_at c position place) → ⊥) → (left.kind ≡ 3) × (left.refusal ≡ 1)
    broken wrong =
        let e = (broken-exactly c.box c.settings (call_at c position place) datagram (length page)).1 wrong in
        (l.kind ∙ ap kind_number e, l.refusal ∙ ap refusal_number e)

    refused : 0 < r.number → (left.kind ≡ 3) × (left.refusal ≡ 1)
    refused some = broken (λ k. let z = told.sound.1 (rules-kept c position place k) in omega arith)

    above : ports_in c.box < place → (left.kind ≡ 3) × (left.refusal ≡ 1)
    above more = broken (λ k. let few = k.1.place in omega (arith, rules-counted c.box.roll k.1.roll))

    handled : place ≤ ports_in c.box → Exactly (r.number ≡ 0) (left.refusal ≡ 1 → ⊥)
    handled few = (
      not-one few,
      λ n. ⊎_elim (λ (s : 0 < r.number). absurd (n (refused s).1)) (λ (s : r.number ≤ 0). omega arith) (lt-or-ge 0 r.number),
    )

  pub checked : Checked c r
  checked =
      record {
        told = told;
        rules = rules;
        handled = λ position place datagram page left few l. handled position place datagram page left l few;
        refused = refused;
        above = λ position place datagram page left more l. above position place datagram page left l more;
      }
