use borrow.Author.Rules.{rules}
use mathlib.Core.Path.{◌≡◌}
use Rattle.std.specs.Prelude.{None}
-- `expect::expect_encoding` and `expect::expect_node` meet their contracts. Assumes nothing.
use Prim.Native.Nat.{ℕ, ◌+◌, ◌-◌}
use mathlib.Core.Path.{sym, ◌∙◌}
use native.Mathlib.Omega.{arith}
use lib.ListN.{length}
use Rattle.kinds.specs.Expect.{expect_encoding}
use Rattle.kinds.specs.Sheet.{kind_at, count_at}
use Rattle.kinds.proofs.NodeLaws.{node-inner, walk_here, walk-inner}
use Rattle.kinds.proofs.ListLaws.{whole}
use Rattle.expect.proofs.TextLaws.{same_outcome}
use Rattle.expect.proofs.WalkLaws.{in-text}
use Rattle.expect.proofs.FieldLaws.{resume-level, left-bounds, left_end, left-node, left-named, left-off, left-more, left-byte-off, left-byte, no-own-byte, lent-walk, lent-fields}
use Rattle.expect.proofs.+expect_encoding_expect_node.Goals as goal

pub expect_encoding-loop-left-init : goal.expect_encoding-loop-left-init
expect_encoding-loop-left-init t c =
    let pre = c.requires in
    (omega arith, record { nodes = pre.trees_at.0; walk = pre.kinds_and_names; within = pre.trees_at.1; rest = sym (resume-level _ _ _) })

pub expect_encoding-offset_bounds-nodes-at : goal.expect_encoding-offset_bounds-nodes-at
expect_encoding-offset_bounds-nodes-at t c =
    let b = left-bounds c.loop-left.invariant.1 c.loop-left-test.true in
    let g = c.well_formed.0 in
    omega arith

pub expect_encoding-bounds-nodes-at : goal.expect_encoding-bounds-nodes-at
expect_encoding-bounds-nodes-at t c =
    let b = left-bounds c.loop-left.invariant.1 c.loop-left-test.true in
    let g = c.well_formed.0 in
    omega arith

pub expect_encoding-returns-in_err-to : goal.expect_encoding-returns-in_err-to
expect_encoding-returns-in_err-to t c =
    let q : c.from_residual.result ≡ None = search rules in
    rw q (let n = rw c.in_err-to.was at c.expect_byte.ensures in
    left-byte-off c.loop-left.invariant.1 c.loop-left-test.true c.own_byte-byte.result c.own_byte-byte.ensures c.if-byte-ne0.true n)

pub expect_encoding-overflow_add-at : goal.expect_encoding-overflow_add-at
expect_encoding-overflow_add-at t c =
    let b = left-bounds c.loop-left.invariant.1 c.loop-left-test.true in
    let g = c.well_formed.0 in
    omega arith

pub expect_encoding-overflow_sub-left : goal.expect_encoding-overflow_sub-left
expect_encoding-overflow_sub-left t c =
    let b = left-bounds c.loop-left.invariant.1 c.loop-left-test.true in
    let g = c.well_formed.0 in
    omega arith

pub expect_encoding-loop-left-smaller-then-byte-ne0 : goal.expect_encoding-loop-left-smaller-then-byte-ne0
expect_encoding-loop-left-smaller-then-byte-ne0 t c =
    let b = left-bounds c.loop-left.invariant.1 c.loop-left-test.true in
    let g = c.well_formed.0 in
    omega arith

pub expect_encoding-loop-left-preserved-then-byte-ne0 : goal.expect_encoding-loop-left-preserved-then-byte-ne0
expect_encoding-loop-left-preserved-then-byte-ne0 t c =
    let n = rw c.in_ok-to.was at c.expect_byte.ensures in (
      omega arith,
      left-byte c.loop-left.invariant.1 c.loop-left-test.true c.own_byte-byte.result c.own_byte-byte.ensures c.if-byte-ne0.true c.in_ok-to.to n.1 n.0
          c.level_after-here.result c.level_after-here.ensures,
    )

pub expect_encoding-overflow_add-count : goal.expect_encoding-overflow_add-count
expect_encoding-overflow_add-count t c =
    let b = left-bounds c.loop-left.invariant.1 c.loop-left-test.true in
    let g = c.well_formed.0 in
    omega arith

pub expect_encoding-offset_bounds-nodes-at-in-loop-left : goal.expect_encoding-offset_bounds-nodes-at-in-loop-left
expect_encoding-offset_bounds-nodes-at-in-loop-left t c =
    let b = left-bounds c.loop-left.invariant.1 c.loop-left-test.true in
    let g = c.well_formed.0 in
    omega arith

pub expect_encoding-bounds-nodes-at-in-loop-left : goal.expect_encoding-bounds-nodes-at-in-loop-left
expect_encoding-bounds-nodes-at-in-loop-left t c =
    let b = left-bounds c.loop-left.invariant.1 c.loop-left-test.true in
    let g = c.well_formed.0 in
    omega arith

pub expect_encoding-expect_node-requires : goal.expect_encoding-expect_node-requires
expect_encoding-expect_node-requires t c =
    let l = c.loop-left in
    let b = left-bounds l.invariant.1 c.loop-left-test.true in (
      omega arith,
      (
        (left-node l.invariant.1 c.loop-left-test.true, left-named l.invariant.1 c.loop-left-test.true, l.invariant.1.within),
        no-own-byte (kind_at c.args.nodes.now l.at) (sym c.own_byte-byte.ensures ∙ c.if-byte-ne0.false),
      ),
    )

pub expect_encoding-returns-in_err-next : goal.expect_encoding-returns-in_err-next
expect_encoding-returns-in_err-next t c =
    let q : c.from_residual-in_err-next.result ≡ None = search rules in
    rw q (left-off c.loop-left.invariant.1 c.loop-left-test.true (rw c.in_err-next.was at c.expect_node.ensures))

pub expect_encoding-overflow_mul-at : goal.expect_encoding-overflow_mul-at
expect_encoding-overflow_mul-at t c =
    let b = left-bounds c.loop-left.invariant.1 c.loop-left-test.true in
    let g = c.well_formed.0 in
    omega arith

pub expect_encoding-overflow_add-at-in-loop-left : goal.expect_encoding-overflow_add-at-in-loop-left
expect_encoding-overflow_add-at-in-loop-left t c =
    let b = left-bounds c.loop-left.invariant.1 c.loop-left-test.true in
    let g = c.well_formed.0 in
    omega arith

pub expect_encoding-overflow_sub-left-in-loop-left : goal.expect_encoding-overflow_sub-left-in-loop-left
expect_encoding-overflow_sub-left-in-loop-left t c =
    let b = left-bounds c.loop-left.invariant.1 c.loop-left-test.true in
    let g = c.well_formed.0 in
    omega arith

pub expect_encoding-loop-left-smaller : goal.expect_encoding-loop-left-smaller
expect_encoding-loop-left-smaller t c =
    let b = left-bounds c.loop-left.invariant.1 c.loop-left-test.true in
    let g = c.well_formed.0 in
    omega arith

pub expect_encoding-loop-left-preserved : goal.expect_encoding-loop-left-preserved
expect_encoding-loop-left-preserved t c =
    let n = rw c.in_ok-next.was at c.expect_node.ensures in
    (omega arith, left-more c.loop-left.invariant.1 c.loop-left-test.true c.in_ok-next.next n.1 n.0)

pub expect_encoding-returns : goal.expect_encoding-returns
expect_encoding-returns t c =
    (left_end c.loop-left.invariant.1 c.loop-left-test.false, c.loop-left.invariant.1.within)

pub expect_node-open_node-requires : goal.expect_node-open_node-requires
expect_node-open_node-requires t c = let p = c.requires.node_at in
    let s = p.0.some-node in record { node_at = (p.0, walk_here _ _ _ _ p.1 (omega arith), p.2); at_value = c.requires.at_value }

pub expect_node-overflow_add-m : goal.expect_node-overflow_add-m
expect_node-overflow_add-m t c =
    let h = c.requires.node_at.0 in
    omega arith

pub expect_node-offset_bounds-nodes-at : goal.expect_node-offset_bounds-nodes-at
expect_node-offset_bounds-nodes-at t c =
    let h = c.requires.node_at.0 in
    omega arith

pub expect_node-bounds-nodes-at : goal.expect_node-bounds-nodes-at
expect_node-bounds-nodes-at t c =
    let h = c.requires.node_at.0 in
    omega arith

pub expect_node-overflow_sub-m : goal.expect_node-overflow_sub-m
expect_node-overflow_sub-m t c =
    let h = c.requires.node_at.0 in
    omega arith

pub expect_node-overflow_add-at : goal.expect_node-overflow_add-at
expect_node-overflow_add-at t c =
    let h = c.requires.node_at.0 in
    omega arith

pub expect_node-expect_encoding-all-requires : goal.expect_node-expect_encoding-all-requires
expect_node-expect_encoding-all-requires t c =
    let a = c.args in
    let p = c.requires.node_at in
    let s = p.0.some-node in
    let o = rw (c.in_ok-opened.was, c.in-Fields.is) at c.open_node.ensures in (
      omega arith,
      lent-walk a.names.now a.nodes.now _ a.text.now _ _ _ (whole a.nodes.now) (node-inner a.nodes.now a.at p.0) o.1
          (walk-inner a.nodes.now (length a.names.now) a.at (count_at a.nodes.now a.at) p.1 (count_at a.nodes.now a.at - 1)
          (omega arith)),
    )

pub expect_node-offset_bounds-nodes-at-in-Fields : goal.expect_node-offset_bounds-nodes-at-in-Fields
expect_node-offset_bounds-nodes-at-in-Fields t c =
    let h = c.requires.node_at.0 in
    omega arith

pub expect_node-bounds-nodes-at-in-Fields : goal.expect_node-bounds-nodes-at-in-Fields
expect_node-bounds-nodes-at-in-Fields t c =
    let h = c.requires.node_at.0 in
    omega arith

pub expect_node-overflow_add-at-in-Fields : goal.expect_node-overflow_add-at-in-Fields
expect_node-overflow_add-at-in-Fields t c =
    let h = c.requires.node_at.0 in
    omega arith

pub expect_node-offset_bounds-nodes-at-in-Fields-2 : goal.expect_node-offset_bounds-nodes-at-in-Fields-2
expect_node-offset_bounds-nodes-at-in-Fields-2 t c =
    let h = c.requires.node_at.0 in
    omega arith

pub expect_node-bounds-nodes-at-in-Fields-2 : goal.expect_node-bounds-nodes-at-in-Fields-2
expect_node-bounds-nodes-at-in-Fields-2 t c =
    let h = c.requires.node_at.0 in
    omega arith

pub expect_node-close_node-requires : goal.expect_node-close_node-requires
expect_node-close_node-requires t c =
    let a = c.args in
    in-text a.text.now c.expect_encoding-all.result _
    (lent-fields a.names.now a.nodes.now _ a.text.now (count_at a.nodes.now a.at - 1) (a.at + 4) c.in-Fields.to
    (whole a.nodes.now)
    c.in-Fields.inner c.expect_encoding-all.result c.expect_encoding-all.ensures)

pub expect_node-returns-in_err-opened : goal.expect_node-returns-in_err-opened
expect_node-returns-in_err-opened t c =
    let q : c.from_residual.result ≡ None = search rules in
    rw q (rw c.in_err-opened.was at c.open_node.ensures)

pub expect_node-returns-in-Taken : goal.expect_node-returns-in-Taken
expect_node-returns-in-Taken t c =
    rw (c.in_ok-opened.was, c.in-Taken.is) at c.open_node.ensures

pub expect_node-returns-in-Fields : goal.expect_node-returns-in-Fields
expect_node-returns-in-Fields t c =
    let a = c.args in
    let o = rw (c.in_ok-opened.was, c.in-Fields.is) at c.open_node.ensures in
    let f = lent-fields a.names.now a.nodes.now _ a.text.now (count_at a.nodes.now a.at - 1) (a.at + 4) c.in-Fields.to
    (whole a.nodes.now) c.in-Fields.inner c.expect_encoding-all.result c.expect_encoding-all.ensures in
    same_outcome a.text.now c.close_node.result _ _ o.0 (c.close_node.ensures _ f)
