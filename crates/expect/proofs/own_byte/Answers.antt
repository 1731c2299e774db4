use mathlib.Core.Path.{sym, ◌∙◌}
use borrow.Author.Tests.{eq-eqb, ne_eqb}
use Rattle.expect.specs.Agree.{own_byte}
use Rattle.expect.proofs.own_byte.Goals as goal

pub returns-then-not-is_indirection : goal.returns-then-not-is_indirection
unfolding own_byte
returns-then-not-is_indirection c =
    rw (sym c.is_indirection.ensures ∙ c.if-not-is_indirection.true) c.code_byte.ensures

pub returns-then-kind-eq-POINTER : goal.returns-then-kind-eq-POINTER
unfolding own_byte
returns-then-kind-eq-POINTER c =
    rw (sym c.is_indirection.ensures ∙ c.if-not-is_indirection.false, eq-eqb c.args.kind 26 c.if-kind-eq-POINTER.true) c.prefix_byte.ensures

pub returns : goal.returns
unfolding own_byte
returns c =
    rw (sym c.is_indirection.ensures ∙ c.if-not-is_indirection.false, ne_eqb c.args.kind 26 c.if-kind-eq-POINTER.false) c.prefix_byte-2.ensures
