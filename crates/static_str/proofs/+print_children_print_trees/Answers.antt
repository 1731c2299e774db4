-- `static_str::print_children` and `static_str::print_trees` meet their contracts. Assumes nothing.
use Prim.Native.Nat.{ℕ}
use mathlib.Core.Path.{ap, sym, ◌∙◌}
use native.Mathlib.Omega.{arith}
use lib.ListN.{length}
use Rattle.kinds.proofs.ListLaws.{whole}
use Rattle.static_str.proofs.OutputLaws.{wrote-same, wrote_none}
use Rattle.static_str.proofs.PrintLaws.{no-children, dropped-text, included-text}
use Rattle.static_str.proofs.TurnLaws.{children-there, here, some-node, node-within, node-here, node-named, start-printing, room-to-open, room-to-fill, room-to-close, walked_next, turned, printed}
use Rattle.static_str.proofs.+print_children_print_trees.Goals as goal

pub print_children-returns-then-count-eq1 : goal.print_children-returns-then-count-eq1
print_children-returns-then-count-eq1 t c = let a = c.args
    in wrote-same (sym (no-children a.names.now a.nodes.now a.level a.at (omega arith))) (wrote_none a.out.now a.to)

pub print_children-print_trees-requires : goal.print_children-print_trees-requires
print_children-print_trees-requires t c =
    let a = c.args in let p = c.requires.node_at.0.some-node in rw (whole, whole) (
      omega arith,
      (
        children-there c.requires.node_at.0 c.requires.node_at.1,
        omega (
          arith,
          ap length (included-text a.names.now a.nodes.now a.level a.at _ (sym c.children.ensures ∙ c.in-Some.is)),
          c.requires.room,
        ),
      ),
    )

pub print_children-returns-in-None : goal.print_children-returns-in-None
print_children-returns-in-None t c =
    let a = c.args in wrote-same (sym (dropped-text a.names.now a.nodes.now a.level a.at
    (sym c.children.ensures ∙ c.in-None.is))) (wrote_none a.out.now a.to)

pub print_children-returns-in-Some : goal.print_children-returns-in-Some
print_children-returns-in-Some t c =
    let a = c.args in wrote-same (sym (included-text a.names.now a.nodes.now a.level a.at _
    (sym c.children.ensures ∙ c.in-Some.is))) (rw (whole, whole) at c.print_trees.ensures)

pub print_trees-loop-left-init : goal.print_trees-loop-left-init
print_trees-loop-left-init t c =
    start-printing _ _ _ _ _ _ _ c.requires.trees_at.0 c.requires.trees_at.1 c.requires.room

pub print_trees-offset_bounds-nodes-at : goal.print_trees-offset_bounds-nodes-at
print_trees-offset_bounds-nodes-at t c = let h = node-here c.loop-left.invariant.nodes c.loop-left-test.true in omega arith

pub print_trees-bounds-nodes-at : goal.print_trees-bounds-nodes-at
print_trees-bounds-nodes-at t c =
    let h = node-here c.loop-left.invariant.nodes c.loop-left-test.true in omega arith

pub print_trees-overflow_add-second : goal.print_trees-overflow_add-second
print_trees-overflow_add-second t c =
    let h = node-here c.loop-left.invariant.nodes c.loop-left-test.true in omega arith

pub print_trees-offset_bounds-nodes-at-in-loop-left : goal.print_trees-offset_bounds-nodes-at-in-loop-left
print_trees-offset_bounds-nodes-at-in-loop-left t c =
    let h = node-here c.loop-left.invariant.nodes c.loop-left-test.true in omega arith

pub print_trees-bounds-nodes-at-in-loop-left : goal.print_trees-bounds-nodes-at-in-loop-left
print_trees-bounds-nodes-at-in-loop-left t c =
    let h = node-here c.loop-left.invariant.nodes c.loop-left-test.true in omega arith

pub print_trees-overflow_add-count : goal.print_trees-overflow_add-count
print_trees-overflow_add-count t c =
    let h = node-here c.loop-left.invariant.nodes c.loop-left-test.true in omega arith

pub print_trees-offset_bounds-nodes-at-in-loop-left-2 : goal.print_trees-offset_bounds-nodes-at-in-loop-left-2
print_trees-offset_bounds-nodes-at-in-loop-left-2 t c =
    let h = node-here c.loop-left.invariant.nodes c.loop-left-test.true in omega arith

pub print_trees-bounds-nodes-at-in-loop-left-2 : goal.print_trees-bounds-nodes-at-in-loop-left-2
print_trees-bounds-nodes-at-in-loop-left-2 t c =
    let h = node-here c.loop-left.invariant.nodes c.loop-left-test.true in omega arith

pub print_trees-overflow_add-at : goal.print_trees-overflow_add-at
print_trees-overflow_add-at t c =
    let h = node-here c.loop-left.invariant.nodes c.loop-left-test.true in omega arith

pub print_trees-offset_bounds-nodes-at-in-loop-left-3 : goal.print_trees-offset_bounds-nodes-at-in-loop-left-3
print_trees-offset_bounds-nodes-at-in-loop-left-3 t c =
    let h = node-here c.loop-left.invariant.nodes c.loop-left-test.true in omega arith

pub print_trees-bounds-nodes-at-in-loop-left-3 : goal.print_trees-bounds-nodes-at-in-loop-left-3
print_trees-bounds-nodes-at-in-loop-left-3 t c =
    let h = node-here c.loop-left.invariant.nodes c.loop-left-test.true in omega arith

pub print_trees-open_node-to-requires : goal.print_trees-open_node-to-requires
print_trees-open_node-to-requires t c = record { name_within = (here c.loop-left.invariant.nodes c.loop-left-test.true).name; room = room-to-open c.loop-left.invariant c.loop-left-test.true }

pub print_trees-overflow_add-at-then-walked_on : goal.print_trees-overflow_add-at-then-walked_on
print_trees-overflow_add-at-then-walked_on t c =
    let h = node-here c.loop-left.invariant.nodes c.loop-left-test.true in omega arith

pub print_trees-overflow_sub-left : goal.print_trees-overflow_sub-left
print_trees-overflow_sub-left t c =
    omega (arith, some-node c.loop-left.invariant.nodes c.loop-left-test.true, node-within c.loop-left.invariant.nodes c.loop-left-test.true)

pub print_trees-loop-left-smaller-then-walked_on : goal.print_trees-loop-left-smaller-then-walked_on
print_trees-loop-left-smaller-then-walked_on t c =
    omega (arith, some-node c.loop-left.invariant.nodes c.loop-left-test.true, node-within c.loop-left.invariant.nodes c.loop-left-test.true)

pub print_trees-loop-left-preserved-then-walked_on : goal.print_trees-loop-left-preserved-then-walked_on
print_trees-loop-left-preserved-then-walked_on t c =
    walked_next c.loop-left.invariant c.loop-left-test.true c.open_node-to.ensures (c.walked_on.ensures c.if-walked_on.true) _ c.inside-level.ensures

pub print_trees-print_children-to-requires : goal.print_trees-print_children-to-requires
print_trees-print_children-to-requires t c = (
  omega (arith, node-within c.loop-left.invariant.nodes c.loop-left-test.true, c.loop-left.invariant.nodes.few),
  (
    (node-here c.loop-left.invariant.nodes c.loop-left-test.true, node-named c.loop-left.invariant.nodes c.loop-left-test.true),
    room-to-fill c.loop-left.invariant
        c.loop-left-test.true c.open_node-to.ensures,
  ),
)

pub print_trees-close_node-to-requires : goal.print_trees-close_node-to-requires
print_trees-close_node-to-requires t c =
    room-to-close c.loop-left.invariant c.loop-left-test.true c.open_node-to.ensures c.print_children-to.ensures

pub print_trees-overflow_mul-at : goal.print_trees-overflow_mul-at
print_trees-overflow_mul-at t c =
    let h = node-here c.loop-left.invariant.nodes c.loop-left-test.true in omega arith

pub print_trees-overflow_add-at-in-loop-left : goal.print_trees-overflow_add-at-in-loop-left
print_trees-overflow_add-at-in-loop-left t c =
    let h = node-here c.loop-left.invariant.nodes c.loop-left-test.true in omega arith

pub print_trees-overflow_sub-left-in-loop-left : goal.print_trees-overflow_sub-left-in-loop-left
print_trees-overflow_sub-left-in-loop-left t c =
    omega (arith, some-node c.loop-left.invariant.nodes c.loop-left-test.true, node-within c.loop-left.invariant.nodes c.loop-left-test.true)

pub print_trees-loop-left-smaller : goal.print_trees-loop-left-smaller
print_trees-loop-left-smaller t c =
    omega (arith, some-node c.loop-left.invariant.nodes c.loop-left-test.true, node-within c.loop-left.invariant.nodes c.loop-left-test.true)

pub print_trees-loop-left-preserved : goal.print_trees-loop-left-preserved
print_trees-loop-left-preserved t c =
    turned c.loop-left.invariant c.loop-left-test.true c.open_node-to.ensures c.print_children-to.ensures c.close_node-to.ensures

pub print_trees-shape_of-out : goal.print_trees-shape_of-out
print_trees-shape_of-out t c = c.loop-left.invariant.room

pub print_trees-returns : goal.print_trees-returns
print_trees-returns t c = printed c.loop-left.invariant c.loop-left-test.false
