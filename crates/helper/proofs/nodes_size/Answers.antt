use mathlib.Core.Path.{refl, ap, sym, ◌∙◌}
use Rattle.kinds.specs.Primitive.{widths}
use Rattle.kinds.specs.declared.NestingLevel.TheVariants.{Top}
use Rattle.kinds.proofs.ListLaws.{whole}
use Rattle.helper.specs.Measure.{clip}
use Rattle.helper.proofs.NodeSizeLaws.{table-row, leaf-entry, size-leaf}
use Rattle.helper.proofs.AnswerLaws.{no_row, row-answer}
use Rattle.helper.proofs.nodes_size.Goals as goal

pub returns-then-row-ge-ROWS : goal.returns-then-row-ge-ROWS
returns-then-row-ge-ROWS c = λ s. no_row _ c.if-row-ge-ROWS.true s _

pub returns-then-is_leaf : goal.returns-then-is_leaf
returns-then-is_leaf c =
    let a = c.args in
    λ s. row-answer a.row c.if-row-ge-ROWS.false s a.nodes.now refl
    (c.leaf_size.ensures ∙ ap clip (leaf-entry (table-row a.row c.if-row-ge-ROWS.false) _ _)
    ∙ sym (ap clip (size-leaf (widths a.row) s a.nodes.now 0 Top (sym c.is_leaf.ensures ∙ c.if-is_leaf.true))))
    c.max_size.ensures
    c.answer.ensures

pub size_of-requires : goal.size_of-requires
size_of-requires c = rw whole c.requires

pub returns : goal.returns
returns c =
    let a = c.args in
    λ s. row-answer a.row c.if-row-ge-ROWS.false s a.nodes.now c.new.ensures
    (rw whole at (c.size_of.ensures (widths a.row) (table-row a.row c.if-row-ge-ROWS.false) s))
    c.max_size-2.ensures
    c.answer-2.ensures
