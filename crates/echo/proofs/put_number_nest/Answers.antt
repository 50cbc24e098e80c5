use Rattle.netlink_headers.proofs.lengths.Laws.{bytes_of}
use Rattle.echo.proofs.Laws.{number-nest-wrote}
use borrow.Author.Rules.{rules}
use Rattle.echo.proofs.put_number_nest.Goals as goal

pub returns : goal.returns
returns c = search (rules, number-nest-wrote, bytes_of)
