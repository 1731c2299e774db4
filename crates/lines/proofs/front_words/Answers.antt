-- `lines::front_words` meets its contract. Assumes nothing.
use mathlib.Core.Path.{sym}
use native.Mathlib.Omega.{arith}
use lib.Seq.{take_all, length-take-le}
use Rattle.lines.proofs.front_words.Goals as goal

pub slice_bounds-result-end : goal.slice_bounds-result-end
slice_bounds-result-end c =
    sym (length-take-le c.args.n c.args.s.now c.if-n-s.true)

pub returns : goal.returns
returns c =
    sym (take_all c.args.n c.args.s.now (omega arith))
