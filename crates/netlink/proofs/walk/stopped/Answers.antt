use Rattle.netlink.proofs.walk.stopped.Goals as goal

pub returns : goal.returns
returns c = cc
