use Rattle.reason.proofs.OwnLaws.{own-size, own-same-bits, own-offset, own-same-typed, own-other, own-length, own-same-array}
use Rattle.reason.proofs.find.number_difference.Goals as goal

pub returns-then-n-m : goal.returns-then-n-m
returns-then-n-m c =
    λ an bn. rw c.found.ensures (own-size an c.args.a.now bn c.args.b.now c.args.at c.args.bt c.requires.node_at.0 c.requires.node_at.1 c.requires.node_at.2 c.requires.bound.0
    c.if-kind-le-TYPED_BIT_FIELD.true c.if-n-m.true)

pub returns-then-kind-eq-BIT_FIELD : goal.returns-then-kind-eq-BIT_FIELD
returns-then-kind-eq-BIT_FIELD c =
    λ an bn. own-same-bits an c.args.a.now bn c.args.b.now c.args.at c.args.bt c.requires.node_at.0 c.requires.node_at.1 c.requires.node_at.2
    c.if-kind-eq-BIT_FIELD.true c.if-n-m.false

pub returns-then-k-j : goal.returns-then-k-j
returns-then-k-j c =
    λ an bn. rw c.found-then-k-j.ensures (own-offset an c.args.a.now bn c.args.b.now c.args.at c.args.bt c.requires.node_at.0 c.requires.node_at.1 c.requires.node_at.2
    c.requires.bound.0 c.if-kind-le-TYPED_BIT_FIELD.true c.if-kind-eq-BIT_FIELD.false c.if-n-m.false c.if-k-j.true)

pub returns-then-kind-le-TYPED_BIT_FIELD : goal.returns-then-kind-le-TYPED_BIT_FIELD
returns-then-kind-le-TYPED_BIT_FIELD c =
    λ an bn. own-same-typed an c.args.a.now bn c.args.b.now c.args.at c.args.bt c.requires.node_at.0 c.requires.node_at.1 c.requires.node_at.2
    c.requires.bound.0 c.if-kind-le-TYPED_BIT_FIELD.true c.if-kind-eq-BIT_FIELD.false c.if-n-m.false c.if-k-j.false

pub returns-then-kind-ne-ARRAY : goal.returns-then-kind-ne-ARRAY
returns-then-kind-ne-ARRAY c =
    λ an bn. own-other an c.args.a.now bn c.args.b.now c.args.at c.args.bt c.requires.node_at.0 c.requires.node_at.1 c.requires.node_at.2
    c.if-kind-le-TYPED_BIT_FIELD.false c.requires.bound.1 c.requires.bound.2 c.if-kind-ne-ARRAY.true

pub returns-then-k-j-2 : goal.returns-then-k-j-2
returns-then-k-j-2 c =
    λ an bn. rw c.found-then-k-j-2.ensures (own-length an c.args.a.now bn c.args.b.now c.args.at c.args.bt c.requires.node_at.0 c.requires.node_at.1 c.requires.node_at.2
    c.if-kind-ne-ARRAY.false c.if-k-j-2.true)

pub returns : goal.returns
returns c =
    λ an bn. own-same-array an c.args.a.now bn c.args.b.now c.args.at c.args.bt c.requires.node_at.0 c.requires.node_at.1 c.requires.node_at.2
    c.if-kind-ne-ARRAY.false c.if-k-j-2.false
