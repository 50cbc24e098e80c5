use Rattle.entries.proofs.NameLength.{length-some, length-none}
use Rattle.entries.proofs.length.name_length.Goals as goal

pub returns-in-Some : goal.returns-in-Some
returns-in-Some c = length-some _ _ c.in-Some.ensures

pub returns-in-None : goal.returns-in-None
returns-in-None c = length-none _ c.in-None.ensures
