use Rattle.std.proofs.Common.{rules, ◌≡◌}
use mathlib.Core.Path.{ap, ◌∙◌}
use Rattle.std.specs.Prelude.{Err}
use Rattle.std.proofs.lemmas.Result.{err_from_is_err_and}
use Rattle.bitset_list.proofs.Laws.{bits_laws}
use Rattle.bitset_list.proofs.judge_bits.Goals as goal

pub returns-in_err-bit : goal.returns-in_err-bit
returns-in_err-bit c =
    let p = err_from_is_err_and c.from_residual.result c.from_residual.ensures.1 in
    let passed : c.from_residual.result ≡ Err c.in_err-bit.field-0.0 = p.1 ∙ ap Err p.2 in
    let was : c.judge_bit.result ≡ Err c.in_err-bit.field-0.0 = c.in_err-bit.was in
    passed ∙ search (rules, bits_laws, was)
