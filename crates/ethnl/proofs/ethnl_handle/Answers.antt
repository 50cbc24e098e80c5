use Rattle.word_bytes.specs.Bytes.{Bytes}
use Rattle.ethnl.proofs.Laws.{handle-returns}
use borrow.Author.Rules.{rules}
use Rattle.ethnl.proofs.ethnl_handle.Goals as goal

-- the settings that are lent are known to be bytes where the function begins
pub returns : goal.returns
returns c =
    let known = c in
    let bytes : Bytes known.args.settings.now = λ i. (known.slice_known-1.given i).fits in
    search (rules, handle-returns, bytes)
