use mathlib.Core.Path.{◌∙◌}
use borrow.Author.Rules.{rules}
use Rattle.word_bytes.proofs.WordBytes.{word_in, word-past}
use Rattle.word_bytes.proofs.word_in.Goals as goal

pub returns-then-j-bytes : goal.returns-then-j-bytes
returns-then-j-bytes c = c.four.ensures ∙ word_in _ _ (search rules)

pub returns-else-j-bytes : goal.returns-else-j-bytes
returns-else-j-bytes c = word-past _ _ (search rules)
