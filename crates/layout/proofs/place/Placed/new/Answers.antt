use mathlib.Core.Path.{refl}
use Rattle.helper.specs.Measure.{fit}
use Rattle.layout.specs.Placing.{placed_of}
use Rattle.layout.proofs.place.Placed.new.Goals as goal

pub returns : goal.returns
unfolding placed_of fit
returns c = refl
