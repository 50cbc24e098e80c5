use lib.ListN.{length-take}
use native.Mathlib.Omega.{arith}
use Rattle.handler.proofs.bytes.Laws.{words-mean, bytes_laws}
use borrow.Author.Rules.{rules}
use Rattle.handler.proofs.bytes.handle_bytes.Goals as goal

pub returns-then-not-are_words : goal.returns-then-not-are_words
returns-then-not-are_words c = search (rules, bytes_laws)

pub handle_some-requires : goal.handle_some-requires
handle_some-requires c = let w = words-mean _ _ c.are_words.ensures c.if-not-are_words.false-raw in (w.0, omega arith)

pub returns-then-n-le-SOME : goal.returns-then-n-le-SOME
returns-then-n-le-SOME c = search (rules, bytes_laws)

pub slice_bounds-all-end : goal.slice_bounds-all-end
slice_bounds-all-end c = let w = words-mean _ _ c.are_words.ensures c.if-not-are_words.false-raw in let most = w.1 in omega arith

pub slice_bounds-words-end : goal.slice_bounds-words-end
slice_bounds-words-end c = let w = words-mean _ _ c.are_words.ensures c.if-not-are_words.false-raw in let most = w.1 in simp length-take (omega arith)

pub handle_in-requires : goal.handle_in-requires
handle_in-requires c = let w = words-mean _ _ c.are_words.ensures c.if-not-are_words.false-raw in let most = w.1 in (w.0, simp length-take (omega arith))

pub returns : goal.returns
returns c = search (rules, bytes_laws)
