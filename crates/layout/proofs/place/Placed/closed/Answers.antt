use mathlib.Core.Path.{ap}
use Rattle.layout.specs.Placing.{closed}
use Rattle.layout.proofs.place.Placed.closed.Goals as goal

pub returns : goal.returns
unfolding closed
returns c =
    ap (λ b. record { bytes = b; alignment = c.args.self.alignment; fits = c.args.self.fits }) c.next_multiple.ensures
