use Rattle.std.proofs.Common.{rules, ◌≡◌}
use mathlib.Core.Path.{ap, ◌∙◌}
use Rattle.std.specs.Prelude.{Ok, Err}
use Rattle.std.proofs.lemmas.Result.{err_from_is_err_and}
use Rattle.normal.proofs.Laws.{put_refused, put-accepted, result-refused, result-accepted}
use Rattle.normal.proofs.put_normal.Goals as goal

pub returns-in_err-form : goal.returns-in_err-form
returns-in_err-form c =
    let p = err_from_is_err_and c.from_residual.result c.from_residual.ensures.1 in
    let passed : c.from_residual.result ≡ Err c.in_err-form.field-0.0 = p.1 ∙ ap Err p.2 in
    let was : c.judge_bitset.result ≡ Err c.in_err-form.field-0.0 = c.in_err-form.was in
    record { normalised = search (rules, put_refused, passed, was); value = search (rules, result-refused, passed, was) }

pub returns : goal.returns
returns c =
    let was : c.judge_bitset.result ≡ Ok c.in_ok-form.form = c.in_ok-form.was in
    record { normalised = search (rules, put-accepted, was); value = search (rules, result-accepted, was) }
