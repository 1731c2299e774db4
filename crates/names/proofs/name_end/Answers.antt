use Rattle.names.proofs.NameLaws.{name-run}
use Rattle.names.proofs.name_end.Goals as goal

pub returns : goal.returns
returns c = name-run _ _ _ _ c.requires c.run_end.ensures
