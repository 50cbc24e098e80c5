use Prim.Native.Nat.{◌+◌}
use mathlib.Core.Path.{sym, ◌∙◌}
use native.Mathlib.Omega.{arith}
use lib.ListN.{length-set}
use Rattle.entries.proofs.Chains.{linked-start, linked-place, linked-first, linked-more, linked-done, distinct-not}
use Rattle.entries.proofs.chain.distinct_in.Goals as goal

pub entries-init : goal.entries-init
entries-init c = let s = c in (omega arith, linked-start _ _ _ s.requires.head_right.0 s.requires.head_right.1 s.requires.head_len.0 s.requires.head_len.1)

pub entries-preserved-then-start-eq0 : goal.entries-preserved-then-start-eq0
entries-preserved-then-start-eq0 c =
    let l = c.entries in
    let g = c.hash-h in
    (omega arith, linked-first _ _ _ _ _ l.invariant.1 g.ensures.0 g.ensures.1 (omega arith) (omega arith) c.if-start-eq0.true)

pub entry_new-requires : goal.entry_new-requires
entry_new-requires c =
    let l = c.entries in
    let g = c.hash-h in record { i_in_bounds = (omega arith, omega arith); links_right = l.invariant.1.linked; start_value = c.from.ensures ∙ linked-place _ _ _ _ _ l.invariant.1 g.ensures.0 g.ensures.1 }

pub shape_of-head-then-not-entry_new : goal.shape_of-head-then-not-entry_new
shape_of-head-then-not-entry_new c =
    let l = c.entries in
    let s = c in
    length-set l.head c.hash-h.result (l.i + 1) ∙ l.invariant.1.head-length ∙ sym s.requires.head_len.0

pub returns-then-not-entry_new : goal.returns-then-not-entry_new
returns-then-not-entry_new c = distinct-not _ _ (omega arith) _ c.entry_new.ensures c.if-not-entry_new.true-raw

pub entries-preserved : goal.entries-preserved
entries-preserved c =
    let l = c.entries in
    let g = c.hash-h in
    (omega arith, linked-more _ _ _ _ _ l.invariant.1 g.ensures.0 g.ensures.1 _ (omega arith) c.entry_new.ensures c.if-not-entry_new.false-raw)

pub returns : goal.returns
returns c = let l = c.entries in linked-done _ _ _ _ l.invariant.1 l.invariant.0 c.entries-test.false
