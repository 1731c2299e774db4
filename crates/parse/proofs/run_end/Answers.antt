use Rattle.kinds.proofs.ListLaws.{whole}
use Rattle.parse.proofs.run_end.Goals as goal

pub returns : goal.returns
returns c = rw whole at c.indirections_end.ensures
