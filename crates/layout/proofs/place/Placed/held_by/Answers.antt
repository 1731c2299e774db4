use borrow.Author.Tests.{eq-eqb, ne_eqb}
use mathlib.Core.Path.{ap}
use Rattle.layout.specs.Placing.{held_by}
use Rattle.layout.proofs.place.Placed.held_by.Goals as goal

pub returns-then-kind-eq-ARRAY : goal.returns-then-kind-eq-ARRAY
unfolding held_by
returns-then-kind-eq-ARRAY c =
    rw (eq-eqb _ _ c.if-kind-eq-ARRAY.true) (ap (λ b. record { bytes = b; alignment = c.args.self.alignment; fits = c.args.self.fits })
    c.times.ensures)

pub returns : goal.returns
unfolding held_by
returns c = rw (ne_eqb _ _ c.if-kind-eq-ARRAY.false)
