use mathlib.Core.Path.{sym, ap, ◌∙◌}
use native.Mathlib.Omega.{arith}
use Rattle.kinds.specs.Sheet.{is_container_kind}
use Rattle.helper.proofs.CompareLaws.{labels-differ, labels-primitive, labels-named, labels-numbers, partner}
use Rattle.helper.proofs.compare_labels.Goals as goal

pub returns-then-not-equivalent_kinds : goal.returns-then-not-equivalent_kinds
returns-then-not-equivalent_kinds c =
    let a = c.args in
    let pre = c.requires in
    sym (labels-differ a.an.now a.a.now a.at a.bn.now a.b.now a.bt pre.kind_and_name.0.kind pre.kind_and_name.1.kind
    (sym c.equivalent_kinds.ensures ∙ c.if-not-equivalent_kinds.true))

pub returns-then-kind-lt-PRIMITIVES : goal.returns-then-kind-lt-PRIMITIVES
returns-then-kind-lt-PRIMITIVES c =
    let a = c.args in
    sym (labels-primitive a.an.now a.a.now a.at a.bn.now a.b.now a.bt
    (sym c.equivalent_kinds.ensures ∙ c.if-not-equivalent_kinds.false) c.if-kind-lt-PRIMITIVES.true)

pub same_name-requires : goal.same_name-requires
same_name-requires c = let pre = c.requires in
    let kinds = c.equivalent_kinds in
    let k = partner _ _ (sym kinds.ensures ∙ c.if-not-equivalent_kinds.false) (omega arith) in
    let i = sym c.is_container.ensures ∙ c.if-is_container.true in record { at_in_bounds = pre.at_in_bounds; names_in_bounds = (pre.kind_and_name.0.name i, pre.kind_and_name.1.name (ap is_container_kind k ∙ i)) }

pub returns-then-is_container : goal.returns-then-is_container
returns-then-is_container c =
    let a = c.args in
    let kinds = c.equivalent_kinds in
    let if1 = c.if-not-equivalent_kinds in
    c.same_name.ensures ∙ sym (labels-named a.an.now a.a.now a.at a.bn.now a.b.now a.bt
    (sym kinds.ensures ∙ if1.false) (sym c.is_container.ensures ∙ c.if-is_container.true))

pub same_numbers-requires : goal.same_numbers-requires
same_numbers-requires c =
    let pre = c.requires in
    let container = c.is_container in
    let if3 = c.if-is_container in
    (omega arith, pre.kind_and_name.0.kind, sym container.ensures ∙ if3.false)

pub returns : goal.returns
returns c =
    let a₁ = c.args in
    let kinds = c.equivalent_kinds in
    let if1 = c.if-not-equivalent_kinds in
    let a = a₁ in
    c.same_numbers.ensures a.an.now a.bn.now ∙ sym
    (labels-numbers a.an.now a.a.now a.at a.bn.now a.b.now a.bt (sym kinds.ensures ∙ if1.false) (omega arith))
