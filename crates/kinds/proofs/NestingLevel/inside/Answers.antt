use mathlib.Core.Path.{sym, ◌∙◌}
use borrow.Author.Tests.{ne_eqb}
use Rattle.kinds.specs.Kind.{inside_kind}
use Rattle.kinds.proofs.NestingLevel.inside.Goals as goal

pub returns-then-kind-eq-POINTER : goal.returns-then-kind-eq-POINTER
unfolding inside_kind
returns-then-kind-eq-POINTER c = rw c.if-kind-eq-POINTER.true c.indirection.ensures

pub returns-then-kind-eq-ATOMIC : goal.returns-then-kind-eq-ATOMIC
unfolding inside_kind
returns-then-kind-eq-ATOMIC c = rw c.if-kind-eq-ATOMIC.true c.indirection-then-kind-eq-ATOMIC.ensures

pub returns-then-is_container : goal.returns-then-is_container
unfolding inside_kind
returns-then-is_container c = rw (sym c.is_container.ensures ∙ c.if-is_container.true)

pub returns : goal.returns
unfolding inside_kind
returns c =
    rw (sym c.is_container.ensures ∙ c.if-is_container.false, ne_eqb _ 26 c.if-kind-eq-POINTER.false, ne_eqb _ 27 c.if-kind-eq-ATOMIC.false)
