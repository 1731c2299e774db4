-- `static_str::put` meets its contract. Assumes nothing.
use Rattle.static_str.proofs.OutputLaws.{wrote-byte}
use Rattle.static_str.proofs.put.Goals as goal

pub returns : goal.returns
returns c = wrote-byte _ _ _ c.requires
