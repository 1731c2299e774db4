use borrow.Author.Tests.{le-leb, lt-leb, eq-eqb, ne_eqb}
use native.Mathlib.Omega.{arith}
use mathlib.Core.Path.{sym, ap, ◌∙◌}
use Rattle.helper.specs.Measure.{leaf_entry, clip}
use Rattle.helper.specs.declared.Measured.TheVariants.{Bytes}
use Rattle.helper.proofs.SizeLaws.{bits_fit}
use Rattle.helper.proofs.leaf_size.Goals as goal

pub returns-then-kind-lt-PRIMITIVES : goal.returns-then-kind-lt-PRIMITIVES
unfolding leaf_entry
returns-then-kind-lt-PRIMITIVES c = rw (le-leb c.args.kind 23 (omega arith)) c.of_entry.ensures

pub returns-then-kind-eq-BIT_FIELD : goal.returns-then-kind-eq-BIT_FIELD
unfolding leaf_entry clip
returns-then-kind-eq-BIT_FIELD c =
    let a = c.args in
    rw (lt-leb a.kind 23 (omega arith), eq-eqb a.kind 24 c.if-kind-eq-BIT_FIELD.true)
    (ap Bytes c.bit_bytes.ensures ∙ sym (bits_fit a.bits (omega arith)))

pub returns-then-kind-eq-POINTER : goal.returns-then-kind-eq-POINTER
unfolding leaf_entry
returns-then-kind-eq-POINTER c =
    rw (lt-leb c.args.kind 23 (omega arith), ne_eqb c.args.kind 24 c.if-kind-eq-BIT_FIELD.false, eq-eqb c.args.kind 26 c.if-kind-eq-POINTER.true)
    c.of_entry-then-kind-eq-POINTER.ensures

pub returns : goal.returns
unfolding leaf_entry clip
returns c =
    rw (lt-leb c.args.kind 23 (omega arith), ne_eqb c.args.kind 24 c.if-kind-eq-BIT_FIELD.false, ne_eqb c.args.kind 26 c.if-kind-eq-POINTER.false)
