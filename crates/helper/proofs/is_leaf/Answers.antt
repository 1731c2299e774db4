use borrow.Author.Tests.{le-leb, lt-leb, eq-eqb, ne_eqb}
use native.Mathlib.Omega.{arith}
use Rattle.helper.specs.Measure.{is_leaf}
use Rattle.helper.proofs.is_leaf.Goals as goal

pub returns-then-kind-lt-TYPED_BIT_FIELD : goal.returns-then-kind-lt-TYPED_BIT_FIELD
unfolding is_leaf
returns-then-kind-lt-TYPED_BIT_FIELD c = rw (le-leb c.args.kind 24 (omega arith))

pub returns-then-kind-eq-POINTER : goal.returns-then-kind-eq-POINTER
unfolding is_leaf
returns-then-kind-eq-POINTER c = rw (lt-leb c.args.kind 24 (omega arith), eq-eqb c.args.kind 26 c.if-kind-eq-POINTER.true)

pub returns : goal.returns
unfolding is_leaf
returns c = rw (lt-leb c.args.kind 24 (omega arith), ne_eqb c.args.kind 26 c.if-kind-eq-POINTER.false)
