use Rattle.expect.proofs.TextLaws.{number-ends}
use Rattle.expect.proofs.expect_u64.Goals as goal

pub returns : goal.returns
returns c = rw c.number_end.ensures (number-ends _ _ _ _ _ c.requires c.parse_u64.ensures)
