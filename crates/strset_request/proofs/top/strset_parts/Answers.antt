use Rattle.strset_request.proofs.top.Laws.{parts_are}
use borrow.Author.Rules.{rules}
use Rattle.strset_request.proofs.top.strset_parts.Goals as goal

pub returns : goal.returns
returns c = search (rules, parts_are)
