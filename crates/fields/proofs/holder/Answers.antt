use mathlib.Core.Path.{refl, sym, ◌∙◌}
use Rattle.fields.specs.Answer.{holder_of}
use Rattle.fields.proofs.FieldLaws.{last-here, last-next, last_none}
use Rattle.fields.proofs.holder.Goals as goal

pub loop-j-init : goal.loop-j-init
unfolding holder_of
loop-j-init c = refl

pub returns-then-holds : goal.returns-then-holds
returns-then-holds c =
    let a = c.args in
    last-here a.nodes.now a.i c.loop-j.j c.loop-j-test.true
    (sym c.holds.ensures ∙ c.if-holds.true) ∙ c.loop-j.invariant

pub loop-j-preserved : goal.loop-j-preserved
loop-j-preserved c =
    let a = c.args in
    last-next a.nodes.now a.i c.loop-j.j c.loop-j-test.true
    (sym c.holds.ensures ∙ c.if-holds.false) ∙ c.loop-j.invariant

pub returns : goal.returns
returns c =
    let a = c.args in
    last_none a.nodes.now a.i c.loop-j.j c.loop-j-test.false ∙ c.loop-j.invariant
