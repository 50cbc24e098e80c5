use Rattle.entries.proofs.Chains.{hash-entry}
use Rattle.entries.proofs.chain.hash.Goals as goal

pub returns : goal.returns
returns c =
    let s = c in (
      hash-entry s.args.list.now s.args.i s.requires _ _ _ _ _ c.eight-a.ensures c.eight-b.ensures
          c.eight-c.ensures c.eight-d.ensures c.chain_of.ensures.0,
      c.chain_of.ensures.1,
    )
