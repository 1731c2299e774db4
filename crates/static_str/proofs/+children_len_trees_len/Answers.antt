-- `static_str::children_len` and `static_str::trees_len` meet their contracts. Assumes nothing.
use Prim.Native.Nat.{ℕ}
use mathlib.Core.Path.{sym, ◌∙◌}
use native.Mathlib.Omega.{arith}
use Rattle.kinds.proofs.ListLaws.{whole}
use Rattle.static_str.proofs.PassLaws.{dropped-length, included-length}
use Rattle.static_str.proofs.TurnLaws.{children-there, here, some-node, node-within, node-here, node-named, start-measuring, kept_on, summed, measured}
use Rattle.static_str.proofs.+children_len_trees_len.Goals as goal

pub children_len-trees_len-requires : goal.children_len-trees_len-requires
children_len-trees_len-requires t c =
    let p = c.requires.node_at.0.some-node in
    let i = children-there c.requires.node_at.0 c.requires.kinds_and_names in
    rw whole (omega arith, ((i.0, omega (arith, c.requires.node_at.1)), i.1))

pub children_len-returns-in-None : goal.children_len-returns-in-None
children_len-returns-in-None t c =
    dropped-length _ _ _ c.requires.node_at.0.some-node (sym c.children.ensures ∙ c.in-None.is)

pub children_len-returns-in-Some : goal.children_len-returns-in-Some
children_len-returns-in-Some t c =
    included-length _ _ _ c.requires.node_at.0.some-node _ _ (sym c.children.ensures ∙ c.in-Some.is) (rw whole at c.trees_len.ensures)

pub trees_len-loop-left-init : goal.trees_len-loop-left-init
trees_len-loop-left-init t c =
    start-measuring _ _ _ _ c.requires.trees_at.0 c.requires.kinds_and_names

pub trees_len-offset_bounds-nodes-at : goal.trees_len-offset_bounds-nodes-at
trees_len-offset_bounds-nodes-at t c =
    let h = node-here c.loop-left.invariant.nodes c.loop-left-test.true in
    omega arith

pub trees_len-bounds-nodes-at : goal.trees_len-bounds-nodes-at
trees_len-bounds-nodes-at t c =
    let h = node-here c.loop-left.invariant.nodes c.loop-left-test.true in
    omega arith

pub trees_len-overflow_add-at : goal.trees_len-overflow_add-at
trees_len-overflow_add-at t c =
    let h = node-here c.loop-left.invariant.nodes c.loop-left-test.true in
    omega arith

pub trees_len-offset_bounds-nodes-at-in-loop-left : goal.trees_len-offset_bounds-nodes-at-in-loop-left
trees_len-offset_bounds-nodes-at-in-loop-left t c =
    let h = node-here c.loop-left.invariant.nodes c.loop-left-test.true in
    omega arith

pub trees_len-bounds-nodes-at-in-loop-left : goal.trees_len-bounds-nodes-at-in-loop-left
trees_len-bounds-nodes-at-in-loop-left t c =
    let h = node-here c.loop-left.invariant.nodes c.loop-left-test.true in
    omega arith

pub trees_len-overflow_add-at-in-loop-left : goal.trees_len-overflow_add-at-in-loop-left
trees_len-overflow_add-at-in-loop-left t c =
    let h = node-here c.loop-left.invariant.nodes c.loop-left-test.true in
    omega arith

pub trees_len-offset_bounds-nodes-at-in-loop-left-2 : goal.trees_len-offset_bounds-nodes-at-in-loop-left-2
trees_len-offset_bounds-nodes-at-in-loop-left-2 t c =
    let h = node-here c.loop-left.invariant.nodes c.loop-left-test.true in
    omega arith

pub trees_len-bounds-nodes-at-in-loop-left-2 : goal.trees_len-bounds-nodes-at-in-loop-left-2
trees_len-bounds-nodes-at-in-loop-left-2 t c =
    let h = node-here c.loop-left.invariant.nodes c.loop-left-test.true in
    omega arith

pub trees_len-node_len-len-requires : goal.trees_len-node_len-len-requires
trees_len-node_len-len-requires t c =
    λ k. let h = (here c.loop-left.invariant.nodes c.loop-left-test.true).name k in omega arith

pub trees_len-overflow_add-len : goal.trees_len-overflow_add-len
trees_len-overflow_add-len t c =
    omega (arith, c.loop-left.invariant.bound, c.loop-left-test.true, c.node_len-len.ensures.1, c.requires.trees_at.1)

pub trees_len-overflow_add-at-then-keeps_level : goal.trees_len-overflow_add-at-then-keeps_level
trees_len-overflow_add-at-then-keeps_level t c =
    let h = node-here c.loop-left.invariant.nodes c.loop-left-test.true in
    omega arith

pub trees_len-overflow_sub-left : goal.trees_len-overflow_sub-left
trees_len-overflow_sub-left t c = omega (arith, c.loop-left-test.true)

pub trees_len-loop-left-smaller-then-keeps_level : goal.trees_len-loop-left-smaller-then-keeps_level
trees_len-loop-left-smaller-then-keeps_level t c = omega (arith, c.loop-left-test.true)

pub trees_len-loop-left-preserved-then-keeps_level : goal.trees_len-loop-left-preserved-then-keeps_level
trees_len-loop-left-preserved-then-keeps_level t c =
    kept_on c.loop-left.invariant c.loop-left-test.true c.node_len-len.ensures (c.keeps_level.ensures c.if-keeps_level.true)

pub trees_len-children_len-len-requires : goal.trees_len-children_len-len-requires
trees_len-children_len-len-requires t c =
    let q = node-within c.loop-left.invariant.nodes c.loop-left-test.true in
    let f = c.loop-left.invariant.nodes.few in (
      omega arith,
      (
        (node-here c.loop-left.invariant.nodes c.loop-left-test.true, omega (arith, c.requires.trees_at.1)),
        node-named c.loop-left.invariant.nodes c.loop-left-test.true,
      ),
    )

pub trees_len-overflow_add-len-in-loop-left : goal.trees_len-overflow_add-len-in-loop-left
trees_len-overflow_add-len-in-loop-left t c =
    omega (
      arith,
      node-within c.loop-left.invariant.nodes c.loop-left-test.true,
      c.loop-left.invariant.bound,
      c.node_len-len.ensures.1,
      c.children_len-len.ensures.1,
      c.requires.trees_at.1,
    )

pub trees_len-overflow_add-count : goal.trees_len-overflow_add-count
trees_len-overflow_add-count t c =
    let h = node-here c.loop-left.invariant.nodes c.loop-left-test.true in
    omega arith

pub trees_len-offset_bounds-nodes-at-in-loop-left-3 : goal.trees_len-offset_bounds-nodes-at-in-loop-left-3
trees_len-offset_bounds-nodes-at-in-loop-left-3 t c =
    let h = node-here c.loop-left.invariant.nodes c.loop-left-test.true in
    omega arith

pub trees_len-bounds-nodes-at-in-loop-left-3 : goal.trees_len-bounds-nodes-at-in-loop-left-3
trees_len-bounds-nodes-at-in-loop-left-3 t c =
    let h = node-here c.loop-left.invariant.nodes c.loop-left-test.true in
    omega arith

pub trees_len-overflow_mul-at : goal.trees_len-overflow_mul-at
trees_len-overflow_mul-at t c =
    omega (arith, node-within c.loop-left.invariant.nodes c.loop-left-test.true, c.loop-left.invariant.nodes.whole.room)

pub trees_len-overflow_add-at-in-loop-left-2 : goal.trees_len-overflow_add-at-in-loop-left-2
trees_len-overflow_add-at-in-loop-left-2 t c =
    omega (arith, node-within c.loop-left.invariant.nodes c.loop-left-test.true, c.loop-left.invariant.nodes.whole.room)

pub trees_len-overflow_sub-left-in-loop-left : goal.trees_len-overflow_sub-left-in-loop-left
trees_len-overflow_sub-left-in-loop-left t c =
    omega (arith, some-node c.loop-left.invariant.nodes c.loop-left-test.true, node-within c.loop-left.invariant.nodes c.loop-left-test.true)

pub trees_len-loop-left-smaller : goal.trees_len-loop-left-smaller
trees_len-loop-left-smaller t c =
    omega (arith, some-node c.loop-left.invariant.nodes c.loop-left-test.true, node-within c.loop-left.invariant.nodes c.loop-left-test.true)

pub trees_len-loop-left-preserved : goal.trees_len-loop-left-preserved
trees_len-loop-left-preserved t c =
    summed c.loop-left.invariant c.loop-left-test.true c.node_len-len.ensures c.children_len-len.ensures

pub trees_len-returns : goal.trees_len-returns
trees_len-returns t c = measured c.loop-left.invariant c.loop-left-test.false
