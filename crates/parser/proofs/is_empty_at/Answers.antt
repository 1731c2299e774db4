use mathlib.Core.Path.{refl}
use Rattle.parser.specs.Place.{is_empty_at}
use Rattle.parser.proofs.is_empty_at.Goals as goal

pub returns : goal.returns
unfolding is_empty_at
returns c = refl
