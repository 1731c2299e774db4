-- `lines::field` meets its contract. Assumes nothing.
use mathlib.Core.Path.{sym}
use lib.Seq.{length-take-le}
use Rattle.lines.proofs.FieldLaws.{front-is}
use Rattle.lines.proofs.field.Goals as goal

pub slice_bounds-result-end : goal.slice_bounds-result-end
slice_bounds-result-end c =
    sym (length-take-le c.place_of-n.result c.args.s.now c.place_of-n.ensures.1)

pub returns : goal.returns
returns c =
    front-is c.args.s _ _ c.place_of-n.ensures.0
