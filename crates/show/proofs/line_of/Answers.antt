use Prim.Native.Nat.{◌+◌, ◌-◌}
use mathlib.Core.Path.{ap, ◌∙◌}
use native.Mathlib.Omega.{arith}
use Rattle.lines.proofs.FieldLaws.{front_bytes}
use Rattle.parser.proofs.PlaceLaws.{remains-bytes}
use Rattle.show.specs.Answer.{line_of}
use Rattle.show.proofs.ShowLaws.{line-more, line-here}
use Rattle.show.proofs.line_of.Goals as goal

pub loop-preserved : goal.loop-preserved
loop-preserved c =
    let k = c.args.k in
    ap (line_of (k - (c.loop.counter + 1))) (remains-bytes _ _ c.rest-unread.ensures) ∙ line-more k c.loop.counter c.loop.unread.now (omega arith)
    ∙ c.loop.invariant

pub returns : goal.returns
returns c =
    front_bytes _ _ c.field.ensures ∙ line-here (c.args.k - c.loop.counter) c.loop.unread.now (omega arith) ∙ c.loop.invariant
