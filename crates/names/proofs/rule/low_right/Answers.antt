use native.Mathlib.Omega.{arith}
use borrow.Author.Rules.{rules}
use Rattle.names.proofs.Rules.{entry_chunk, each_start, low_end, low-not, low-more, each-done}
use Rattle.names.proofs.rule.low_right.Goals as goal

pub loop-entry-init : goal.loop-entry-init
loop-entry-init c = each_start 0 _

pub returns-then-entry-ne0 : goal.returns-then-entry-ne0
returns-then-entry-ne0 c =
    let chunks = c.as_chunks.ensures in
    let entry = entry_chunk c.args.names.now _ c.loop-entry.entry-index _ chunks.front chunks.front_len c.loop-entry-test.true in
    low_end _ _ entry.0 _ entry.1 c.if-entry-ne0.true

pub returns-then-not-nul_pairs : goal.returns-then-not-nul_pairs
returns-then-not-nul_pairs c =
    let chunks = c.as_chunks.ensures in
    let entry = entry_chunk c.args.names.now _ c.loop-entry.entry-index _ chunks.front chunks.front_len c.loop-entry-test.true in
    low-not _ _ entry.0 _ entry.1 _ c.nul_pairs.ensures (search rules) (search rules)

pub loop-entry-preserved : goal.loop-entry-preserved
loop-entry-preserved c =
    let chunks = c.as_chunks.ensures in
    let entry = entry_chunk c.args.names.now _ c.loop-entry.entry-index _ chunks.front chunks.front_len c.loop-entry-test.true in
    low-more _ _ entry.0 _ entry.1 _ c.nul_pairs.ensures (search rules) c.loop-entry.invariant (search rules)

pub returns : goal.returns
returns c = let chunks = c.as_chunks.ensures in each-done _ _ _ c.loop-entry.invariant (omega (arith, chunks.front_len)) (omega (arith, chunks.front_len))
