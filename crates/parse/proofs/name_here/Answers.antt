use Rattle.kinds.proofs.ListLaws.{whole}
use Rattle.parse.proofs.name_here.Goals as goal

pub returns : goal.returns
returns c = rw whole at c.parse_name.ensures
