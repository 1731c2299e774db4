use native.Mathlib.Omega.{arith}
use mathlib.Core.Path.{sym, ap, ◌∙◌}
use Rattle.kinds.specs.Sheet.{is_container_kind}
use Rattle.helper.proofs.CompareLaws.{partner}
use Rattle.reason.proofs.OwnLaws.{own-kind, own-primitive, own-same-name, own_name}
use Rattle.reason.proofs.find.own_difference.Goals as goal

pub returns-then-not-equivalent_kinds : goal.returns-then-not-equivalent_kinds
returns-then-not-equivalent_kinds c =
    rw c.found.ensures (own-kind c.args.an.now c.args.a.now c.args.bn.now c.args.b.now c.args.at c.args.bt c.requires.node_at.0 c.requires.node_at.1
    c.requires.kind_and_name.0.kind c.requires.kind_and_name.1.kind (sym c.equivalent_kinds.ensures ∙ c.if-not-equivalent_kinds.true))

pub returns-then-kind-lt-PRIMITIVES : goal.returns-then-kind-lt-PRIMITIVES
returns-then-kind-lt-PRIMITIVES c =
    own-primitive c.args.an.now c.args.a.now c.args.bn.now c.args.b.now c.args.at c.args.bt c.requires.node_at.0 c.requires.node_at.1
    (sym c.equivalent_kinds.ensures ∙ c.if-not-equivalent_kinds.false) c.if-kind-lt-PRIMITIVES.true

pub number_difference-requires : goal.number_difference-requires
number_difference-requires c = let k = partner _ _ (sym c.equivalent_kinds.ensures ∙ c.if-not-equivalent_kinds.false) (omega arith) in record { node_at = (c.requires.node_at.0, c.requires.node_at.1, k); bound = (c.if-kind-lt-PRIMITIVES.false, c.requires.kind_and_name.0.kind, sym c.is_container.ensures ∙ c.if-not-is_container.true) }

pub returns-then-not-is_container : goal.returns-then-not-is_container
returns-then-not-is_container c =
    c.number_difference.ensures c.args.an.now c.args.bn.now

pub same_name-requires : goal.same_name-requires
same_name-requires c = let k = partner _ _ (sym c.equivalent_kinds.ensures ∙ c.if-not-equivalent_kinds.false) (omega arith) in
    let i = (sym c.is_container.ensures ∙ c.if-not-is_container.false) in
    let ra = c.requires.node_at.0.room in
    let sa = c.requires.node_at.0.some-node in
    let rb = c.requires.node_at.1.room in
    let sb = c.requires.node_at.1.some-node in record { at_in_bounds = (omega arith, omega arith); names_in_bounds = (c.requires.kind_and_name.0.name i, c.requires.kind_and_name.1.name (ap is_container_kind k ∙ i)) }

pub returns-then-same_name : goal.returns-then-same_name
returns-then-same_name c =
    own-same-name c.args.an.now c.args.a.now c.args.bn.now c.args.b.now c.args.at c.args.bt c.requires.node_at.0
    c.requires.node_at.1 (sym c.equivalent_kinds.ensures ∙ c.if-not-equivalent_kinds.false) (sym c.is_container.ensures ∙ c.if-not-is_container.false)
    (sym c.same_name.ensures ∙ c.if-same_name.true)

pub returns : goal.returns
returns c =
    rw c.found-2.ensures (own_name c.args.an.now c.args.a.now c.args.bn.now c.args.b.now c.args.at c.args.bt c.requires.node_at.0
    c.requires.node_at.1 (sym c.equivalent_kinds.ensures ∙ c.if-not-equivalent_kinds.false) (sym c.is_container.ensures ∙ c.if-not-is_container.false)
    c.if-kind-lt-PRIMITIVES.false (sym c.same_name.ensures ∙ c.if-same_name.false))
