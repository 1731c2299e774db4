use mathlib.Core.Path.{◌∙◌}
use native.Mathlib.Omega.{arith}
use Rattle.parser.proofs.PlaceLaws.{part-remains, end-remains}
use Rattle.parser.proofs.remaining_at.Goals as goal

pub returns-then-at-text : goal.returns-then-at-text
returns-then-at-text c = part-remains c.args.text c.args.at c.if-at-text.true

pub returns-else-at-text : goal.returns-else-at-text
returns-else-at-text c = part-remains c.args.text _ (omega arith) ∙ end-remains c.args.text c.args.at (omega arith)
