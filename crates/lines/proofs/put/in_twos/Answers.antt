-- `lines::put::in_twos` meets its contract. Assumes nothing.
use Rattle.lines.proofs.DigitLaws.{twos-are}
use Rattle.lines.proofs.put.in_twos.Goals as goal

pub returns : goal.returns
returns c = twos-are _ _ c.requires c.in_fours-fours.ensures
