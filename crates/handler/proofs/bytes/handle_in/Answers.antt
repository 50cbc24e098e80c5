use native.Mathlib.Omega.{arith}
use Rattle.handler.proofs.bytes.Laws.{words-read, words-perform}
use Rattle.handler.proofs.bytes.handle_in.Goals as goal

pub returns : goal.returns
returns c =
    let s = c in
    let read = c.read_words in
    let call = c.handle-answer in
    words-perform _ _ _ _ _ _ _ _ _ _ (words-read _ _ _ s.requires.1 read.ensures) call.ensures (omega (arith, s.requires.0, s.requires.1, read.auto.words, call.auto.settings))
    c.write_words.ensures
