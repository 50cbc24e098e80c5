use Prim.Native.Nat.{◌+◌, ◌-◌}
use lib.ListN.{take, drop}
use borrow.Author.Rules.{rules}
use Rattle.std.proofs.lemmas.Slice.Zip.{zip_turn}
use Rattle.numbers.proofs.nuls.Laws.{pairs_start, pairs_turn}
use Rattle.numbers.proofs.nuls.nul_pairs.Goals as goal

pub loop-first-init : goal.loop-first-init
loop-first-init c = pairs_start _ _

pub loop-first-preserved : goal.loop-first-preserved
loop-first-preserved c =
    let a = c.args in
    let l = c.loop-first in
    let firsts = take (a.at + a.n - a.at) (drop a.at a.s.now) in
    let seconds = take (a.at + a.n + 1 - (a.at + 1)) (drop (a.at + 1) a.s.now) in
    let t = zip_turn firsts seconds l.yielded c.into_iter-first-iterator.result l.first-iterator c.next.new.self _ (search rules) (search rules) l.yielded_by _ c.in-Some.is c.next.ensures.steps in
    pairs_turn a.s.now a.at _ _ l.yielded _ _ _ _ t.0 t.1 (t.2 0) (t.3 0) l.invariant
