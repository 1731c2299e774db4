-- `lines::rest` meets its contract. Assumes nothing.
use Prim.Native.Nat.{ℕ, ◌+◌}
use mathlib.Core.Path.{ap, ◌∙◌}
use native.Mathlib.Omega.{arith}
use Rattle.parser.specs.Place.{remaining_at}
use Rattle.parser.proofs.PlaceLaws.{part-remains}
use Rattle.lines.proofs.FieldLaws.{past}
use Rattle.lines.proofs.rest.Goals as goal

pub returns-then-n-s : goal.returns-then-n-s
returns-then-n-s c =
    part-remains c.args.s _ (omega arith) ∙ ap (λ (n : ℕ). remaining_at c.args.s (n + 1)) c.place_of-n.ensures.0

pub returns : goal.returns
returns c =
    part-remains c.args.s _ (omega (arith, c.place_of-n.ensures.1))
    ∙ (past c.args.s _ (omega arith) c.place_of-n.ensures.1 ∙ ap (λ (n : ℕ). remaining_at c.args.s (n + 1)) c.place_of-n.ensures.0)
