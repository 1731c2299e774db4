use Prim.Native.Nat.{◌*◌, ◌≤◌, ◌<◌}
use mathlib.Core.Path.{ap, sym, ◌∙◌, subst}
use Rattle.kinds.proofs.SheetLaws.{trees-count}
use Rattle.kinds.specs.Primitive.{widths}
use Rattle.kinds.specs.Sheet.{trees}
use Rattle.helper.proofs.NodeSizeLaws.{table-row}
use lib.ListN.{length}
use lib.Seq.{sets}
use Rattle.layout.specs.Answer.{extents_of}
use Rattle.layout.proofs.TakenLaws.{no-row-extents, short-extents, filled-extents}
use Rattle.layout.proofs.taken.nodes_extents.Goals as goal

pub returns-then-row-ge-ROWS : goal.returns-then-row-ge-ROWS
returns-then-row-ge-ROWS c = let a = c.args in record { answers = λ s. (no-row-extents a.row (trees s a.nodes.now a.n 0) a.list.now c.if-row-ge-ROWS.true).0; fills = λ s. (no-row-extents a.row (trees s a.nodes.now a.n 0) a.list.now c.if-row-ge-ROWS.true).1 }

pub returns-then-list-n : goal.returns-then-list-n
returns-then-list-n c = let a = c.args in record {
  answers = λ s. (short-extents a.row (trees s a.nodes.now a.n 0) a.list.now c.if-row-ge-ROWS.false
      (subst (λ n. length a.list.now < 2 * n) (sym (trees-count s a.nodes.now a.n 0)) c.if-list-n.true)).0;
  fills = λ s. (short-extents a.row (trees s a.nodes.now a.n 0) a.list.now c.if-row-ge-ROWS.false
      (subst (λ n. length a.list.now < 2 * n) (sym (trees-count s a.nodes.now a.n 0)) c.if-list-n.true)).1;
}

pub put_rooms-requires : goal.put_rooms-requires
put_rooms-requires c =
    (c.requires.0, c.requires.1, c.if-list-n.false)

pub returns : goal.returns
returns c = let a = c.args in
    let h = c.if-row-ge-ROWS.false in
    let w = a.nodes.now in
    let m = widths a.row in record {
      answers = λ s. (filled-extents a.row (trees s w a.n 0) a.list.now h
          (subst (λ n. 2 * n ≤ length a.list.now) (sym (trees-count s w a.n 0)) c.if-list-n.false)
          ((c.put_rooms.ensures m (table-row a.row h) s) ∙ ap (λ l. sets a.list.now 0 (extents_of m l (trees s w a.n 0))) c.max_size.ensures)).0;
      fills = λ s. (filled-extents a.row (trees s w a.n 0) a.list.now h
          (subst (λ n. 2 * n ≤ length a.list.now) (sym (trees-count s w a.n 0)) c.if-list-n.false)
          ((c.put_rooms.ensures m (table-row a.row h) s) ∙ ap (λ l. sets a.list.now 0 (extents_of m l (trees s w a.n 0))) c.max_size.ensures)).1;
    }
