use Rattle.basics.proofs.Results.{err-passed}
use borrow.Author.Rules.{rules}
use Rattle.strset_request.proofs.asked.ask_header.Goals as goal

pub returns-in_err-read_optional_target : goal.returns-in_err-read_optional_target
returns-in_err-read_optional_target c = let passed = err-passed c.from_residual.result _ c.from_residual.ensures in search (rules, passed)
