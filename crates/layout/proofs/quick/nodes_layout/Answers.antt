use Rattle.layout.proofs.AnswerLaws.{row-answer, row_list, no-row-answer, short-answer}
use Rattle.layout.proofs.RoomLaws.{table-powers}
use Rattle.layout.specs.Placing.{answer_at, list_for}
use mathlib.Core.Path.{ap, sym, ◌∙◌, subst}
use Rattle.kinds.proofs.SheetLaws.{trees-count}
use Rattle.kinds.specs.Primitive.{widths}
use Rattle.helper.proofs.NodeSizeLaws.{table-row}
use Rattle.kinds.specs.Sheet.{trees}
use lib.ListN.{length}
use Prim.Native.Nat.{◌<◌}
use Rattle.layout.proofs.quick.nodes_layout.Goals as goal

pub returns-then-row-ge-ROWS : goal.returns-then-row-ge-ROWS
returns-then-row-ge-ROWS c = let a = c.args in record { answers = λ s. (no-row-answer a.row (trees s a.nodes.now a.n 0) a.offsets.now c.if-row-ge-ROWS.true).0; fills = λ s. (no-row-answer a.row (trees s a.nodes.now a.n 0) a.offsets.now c.if-row-ge-ROWS.true).1 }

pub returns-then-offsets-n : goal.returns-then-offsets-n
returns-then-offsets-n c = let a = c.args in record {
  answers = λ s. (short-answer a.row (trees s a.nodes.now a.n 0) a.offsets.now c.if-row-ge-ROWS.false
      (subst (λ n. length a.offsets.now < n) (sym (trees-count s a.nodes.now a.n 0)) c.if-offsets-n.true)).0;
  fills = λ s. (short-answer a.row (trees s a.nodes.now a.n 0) a.offsets.now c.if-row-ge-ROWS.false
      (subst (λ n. length a.offsets.now < n) (sym (trees-count s a.nodes.now a.n 0)) c.if-offsets-n.true)).1;
}

pub invariant_of-tree-clause-powers : goal.invariant_of-tree-clause-powers
invariant_of-tree-clause-powers c = table-powers c.args.row c.if-row-ge-ROWS.false

pub returns : goal.returns
returns c = let a = c.args in
    let p = c.requires in
    let h = c.if-row-ge-ROWS.false in
    let w = a.nodes.now in
    let m = widths a.row in record {
      answers = λ s. row-answer a.row h s w a.n p.0 p.1 a.offsets.now c.if-offsets-n.false
          (c.lay_out_nodes.ensures.answers m (table-row a.row h) s ∙ ap (answer_at m s w) c.max_size-limit.ensures);
      fills = λ s. row_list a.row h s w a.n p.0 p.1 a.offsets.now c.if-offsets-n.false
          (c.lay_out_nodes.ensures.fills m (table-row a.row h) s ∙ ap (λ l. list_for m s w l a.offsets.now) c.max_size-limit.ensures);
    }
