use mathlib.Core.Path.{refl, sym, ◌∙◌}
use Rattle.fields.specs.Answer.{is_laid_out}
use Rattle.fields.proofs.FieldLaws.{none_here, none-next, none_end}
use Rattle.fields.proofs.is_laid_out.Goals as goal

pub loop-j-init : goal.loop-j-init
unfolding is_laid_out
loop-j-init c = refl

pub returns-then-points : goal.returns-then-points
returns-then-points c =
    let a = c.args in
    none_here a.nodes.now a.i c.loop-j.j c.loop-j-test.true
    (sym c.points.ensures ∙ c.if-points.true) ∙ c.loop-j.invariant

pub loop-j-preserved : goal.loop-j-preserved
loop-j-preserved c =
    let a = c.args in
    none-next a.nodes.now a.i c.loop-j.j c.loop-j-test.true
    (sym c.points.ensures ∙ c.if-points.false) ∙ c.loop-j.invariant

pub returns : goal.returns
returns c =
    let a = c.args in
    none_end a.nodes.now a.i c.loop-j.j c.loop-j-test.false ∙ c.loop-j.invariant
