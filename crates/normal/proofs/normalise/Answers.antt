use Rattle.normal.proofs.Laws.{normal-judged, result-judged}
use borrow.Author.Rules.{rules}
use Rattle.normal.proofs.normalise.Goals as goal

pub returns : goal.returns
returns c = record { normalised = search (rules, normal-judged); value = search (rules, result-judged) }
