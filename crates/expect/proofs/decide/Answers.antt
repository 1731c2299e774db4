use mathlib.Core.Path.{sym, ap, ◌∙◌}
use Rattle.kinds.specs.Expect.{is_empty}
use Rattle.expect.proofs.WalkLaws.{empty-off, empty-end}
use Rattle.expect.proofs.decide.Goals as goal

pub returns-in-None : goal.returns-in-None
returns-in-None c = λ q h. sym (ap is_empty (rw c.in-None.is at h) ∙ empty-off)

pub returns-in-Some : goal.returns-in-Some
returns-in-Some c =
    λ q h. let n = rw c.in-Some.is at h in sym (ap is_empty n.0 ∙ empty-end c.args.text.now _ n.1)
