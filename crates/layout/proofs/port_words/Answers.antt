use Rattle.layout.specs.Layout.{port_words}
use borrow.Author.Rules.{rules}
use Rattle.layout.proofs.port_words.Goals as goal

pub returns : goal.returns
unfolding port_words
returns c = search rules
