use borrow.Author.Tests.{le-leb, lt-leb}
use mathlib.Core.Path.{ap, ◌∙◌}
use native.Mathlib.Omega.{arith}
use Rattle.kinds.specs.Kind.{inside_kind}
use Rattle.helper.specs.Measure.{level_after}
use Rattle.helper.proofs.level_after.Goals as goal

pub returns-then-kind-lt-TYPED_BIT_FIELD : goal.returns-then-kind-lt-TYPED_BIT_FIELD
unfolding level_after
returns-then-kind-lt-TYPED_BIT_FIELD c = rw (lt-leb 25 _ c.if-kind-lt-TYPED_BIT_FIELD.true)

pub returns-then-kind-gt-ARRAY : goal.returns-then-kind-gt-ARRAY
unfolding level_after
returns-then-kind-gt-ARRAY c = rw (le-leb 25 c.args.kind (omega arith), lt-leb c.args.kind 28 c.if-kind-gt-ARRAY.true)

pub returns : goal.returns
unfolding level_after
returns c =
    let k = c.args.kind in
    rw (le-leb 25 k (omega arith), le-leb k 28 (omega arith)) (c.inside.ensures ∙ ap (inside_kind k) c.level_for.ensures)
