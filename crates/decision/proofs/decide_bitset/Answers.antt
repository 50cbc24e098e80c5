use mathlib.Core.Path.{ap, ◌∙◌}
use Rattle.std.specs.Prelude.{Err}
use Rattle.std.proofs.lemmas.Result.{err_from_is_err_and}
use Rattle.decision.proofs.Laws.{bitset-refused, bitset-accepted}
use Rattle.decision.proofs.decide_bitset.Goals as goal

pub returns-in_err-form : goal.returns-in_err-form
returns-in_err-form c =
    let p = err_from_is_err_and c.from_residual.result c.from_residual.ensures.1 in
    p.1 ∙ ap Err p.2 ∙ bitset-refused _ _ _ _ _ c.payload.ensures _ c.judge_bitset.ensures c.in_err-form.field-0.0 c.in_err-form.was

pub returns : goal.returns
returns c = bitset-accepted _ _ _ _ _ c.payload.ensures _ c.judge_bitset.ensures c.in_ok-form.form _ c.in_ok-form.was c.place.ensures
