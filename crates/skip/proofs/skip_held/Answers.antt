use mathlib.Core.Path.{refl}
use borrow.Author.Tests.{eq-eqb, ne_eqb}
use Rattle.skip.proofs.skip_held.Goals as goal

pub returns-then-at-to : goal.returns-then-at-to
returns-then-at-to c = simp (eq-eqb _ _ c.if-at-to.true)

pub returns-in-Empty : goal.returns-in-Empty
returns-in-Empty c = rw (c.in-Empty.is, ne_eqb _ _ c.if-at-to.false) refl

pub returns-in-Encoding : goal.returns-in-Encoding
returns-in-Encoding c = rw (c.in-Encoding.is, ne_eqb _ _ c.if-at-to.false) refl

pub returns-in-ContainerEnd : goal.returns-in-ContainerEnd
returns-in-ContainerEnd c = rw (c.in-ContainerEnd.is, ne_eqb _ _ c.if-at-to.false) refl

pub returns-in-ArrayEnd : goal.returns-in-ArrayEnd
returns-in-ArrayEnd c = rw (c.in-ArrayEnd.is, ne_eqb _ _ c.if-at-to.false) refl
