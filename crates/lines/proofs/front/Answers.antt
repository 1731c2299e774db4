-- `lines::front` meets its contract. Assumes nothing.
use mathlib.Core.Path.{sym, refl}
use native.Mathlib.Omega.{arith}
use lib.Seq.{length-take-le}
use Rattle.lines.proofs.FieldLaws.{front-is, front-all}
use Rattle.lines.proofs.front.Goals as goal

pub slice_bounds-result-end : goal.slice_bounds-result-end
slice_bounds-result-end c =
    sym (length-take-le c.args.count c.args.s.now (omega arith))

pub returns-then-count-s : goal.returns-then-count-s
returns-then-count-s c = front-is c.args.s _ _ refl

pub returns : goal.returns
returns c =
    front-all c.args.s c.args.count (omega arith)
