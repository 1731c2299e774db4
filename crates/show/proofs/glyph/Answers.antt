-- `tool::show::glyph` meets its contract. Assumes nothing.
use native.Mathlib.Omega.{arith}
use Rattle.show.proofs.ShowLaws.{dot-low, dot-high, shown-itself}
use Rattle.show.proofs.glyph.Goals as goal

pub returns-then-b-lt32 : goal.returns-then-b-lt32
returns-then-b-lt32 c = dot-low c.args.b (omega arith)

pub returns-then-b-gt126 : goal.returns-then-b-gt126
returns-then-b-gt126 c = dot-high c.args.b (omega arith) (omega arith)

pub returns : goal.returns
returns c = shown-itself c.args.b (omega arith) (omega arith)
