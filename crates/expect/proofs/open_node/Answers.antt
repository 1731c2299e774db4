use mathlib.Core.Path.{sym, ◌∙◌}
use native.Mathlib.Omega.{arith}
use Rattle.kinds.proofs.KindLaws.{only_none}
use Rattle.expect.proofs.WalkLaws.{none_is, taken_at, fields_at, opened-at}
use Rattle.expect.proofs.open_node.Goals as goal

pub returns-then-kind-lt-PRIMITIVES : goal.returns-then-kind-lt-PRIMITIVES
returns-then-kind-lt-PRIMITIVES c =
    let a = c.args in
    taken_at a.names.now a.nodes.now a.at a.level a.text.now a.place c.expect_leaf.result c.taken.ensures
    (omega (arith, c.if-kind-lt-PRIMITIVES.true)) c.expect_leaf.ensures

pub returns-then-kind-eq-ARRAY : goal.returns-then-kind-eq-ARRAY
returns-then-kind-eq-ARRAY c =
    let a = c.args in
    let k = c.if-kind-eq-ARRAY.true in
    fields_at a.names.now a.nodes.now a.at a.level a.text.now a.place c.expect_opening.result c.children_follow.ensures
    (omega arith) (omega arith) c.requires.at_value c.expect_opening.ensures

pub open_container-requires : goal.open_container-requires
open_container-requires c =
    (c.requires.node_at.0, c.requires.node_at.1, sym c.is_container.ensures ∙ c.if-is_container.true)

pub returns-then-is_container : goal.returns-then-is_container
returns-then-is_container c =
    let a = c.args in
    opened-at a.names.now a.nodes.now a.at a.level a.text.now a.place c.open_container.result
    (sym c.is_container.ensures ∙ c.if-is_container.true) c.open_container.ensures

pub returns-then-kind-ge-ARRAY : goal.returns-then-kind-ge-ARRAY
returns-then-kind-ge-ARRAY c =
    let a = c.args in
    let k = only_none _ c.if-kind-ge-ARRAY.true c.if-kind-eq-ARRAY.false (sym c.is_container.ensures ∙ c.if-is_container.false) c.requires.node_at.1.kind in
    (none_is a.names.now a.nodes.now a.at a.level _ k, c.requires.node_at.2)

pub returns-then-kind-eq-BIT_FIELD : goal.returns-then-kind-eq-BIT_FIELD
returns-then-kind-eq-BIT_FIELD c =
    let a = c.args in
    taken_at a.names.now a.nodes.now a.at a.level a.text.now a.place c.expect_leaf-then-kind-eq-BIT_FIELD.result c.taken-then-kind-eq-BIT_FIELD.ensures
    (omega (arith, c.if-kind-eq-BIT_FIELD.true)) c.expect_leaf-then-kind-eq-BIT_FIELD.ensures

pub returns : goal.returns
returns c =
    let a = c.args in
    let k = c.if-kind-eq-BIT_FIELD.false in
    fields_at a.names.now a.nodes.now a.at a.level a.text.now a.place c.expect_opening-2.result c.children_follow-2.ensures
    (omega (arith, c.if-kind-lt-PRIMITIVES.false)) (omega (arith, c.if-kind-ge-ARRAY.false)) c.requires.at_value c.expect_opening-2.ensures
