-- The invariant: what is laid out from node `i` on tells with what was passed what the whole tree does.
use mathlib.Core.Path.{refl, sym, ◌∙◌}
use mathlib.Core.Bool.{true, false}
use native.Mathlib.Omega.{arith}
use Rattle.layout.proofs.FindLaws.{sought-end, sought-within, sought-bits, sought-passed, sought-kept, sought-code}
use Rattle.layout.proofs.find.find.Goals as goal

pub loop-i-init : goal.loop-i-init
loop-i-init c = c.requires

pub returns-then-is_bit_field : goal.returns-then-is_bit_field
returns-then-is_bit_field c =
    sought-bits c.loop-i.invariant c.loop-i-test.true (sym c.is_bit_field.ensures ∙ c.if-is_bit_field.true)

pub overflow_add-i-then-passes : goal.overflow_add-i-then-passes
overflow_add-i-then-passes c =
    let b = sought-within c.loop-i.invariant c.loop-i-test.true in omega arith

pub loop-i-smaller-then-passes : goal.loop-i-smaller-then-passes
loop-i-smaller-then-passes c =
    let b = sought-within c.loop-i.invariant c.loop-i-test.true in omega arith

pub loop-i-preserved-then-kind-lt-PRIMITIVES : goal.loop-i-preserved-then-kind-lt-PRIMITIVES
loop-i-preserved-then-kind-lt-PRIMITIVES c =
    sought-code c.loop-i.invariant c.loop-i-test.true c.if-kind-lt-PRIMITIVES.true refl refl

pub loop-i-preserved-then-passes : goal.loop-i-preserved-then-passes
loop-i-preserved-then-passes c =
    sought-passed c.loop-i.invariant c.loop-i-test.true (sym c.is_bit_field.ensures ∙ c.if-is_bit_field.false) refl c.is_sizeless-none.ensures
    (sym c.passes.ensures ∙ c.if-passes.true)

pub loop-i-preserved : goal.loop-i-preserved
loop-i-preserved c =
    sought-kept c.loop-i.invariant c.loop-i-test.true (sym c.is_bit_field.ensures ∙ c.if-is_bit_field.false) refl c.is_sizeless-none.ensures
    (sym c.passes.ensures ∙ c.if-passes.false) c.bottom_after-bottom.ensures

pub returns-then-none : goal.returns-then-none
returns-then-none c =
    sought-end c.loop-i.invariant c.loop-i-test.false true c.if-none.true

pub returns : goal.returns
returns c =
    sought-end c.loop-i.invariant c.loop-i-test.false false c.if-none.false
