use Rattle.kinds.proofs.ListLaws.{whole}
use Rattle.parse.proofs.token_here.Goals as goal

pub returns : goal.returns
returns c = rw whole at c.token_at.ensures
