-- `expect::expect_encoding` and `expect::expect_node` meet their contracts. Assumes nothing.
use Prim.Native.Nat.{ℕ, ◌+◌, ◌-◌, ◌*◌, ◌≤◌}
use lib.ListN.{drop}
use Rattle.kinds.specs.Expect.{expect_encoding}
use Rattle.kinds.specs.Sheet.{count_at, trees}
use Rattle.expect.proofs.FieldLaws.{Left}
use Rattle.expect.proofs.+expect_encoding_expect_node.Given as goal

abbrev pub invariant-expect_encoding-loop-left : goal.invariant-expect_encoding-loop-left
invariant-expect_encoding-loop-left l =
    (l.left ≤ l.n) × Left l.level l.names l.nodes l.text l.at l.left l.place l.here (expect_encoding l.level (trees l.names l.nodes l.n l.from) (drop l.start l.text))

abbrev pub decreases-expect_encoding-loop-left : goal.decreases-expect_encoding-loop-left
decreases-expect_encoding-loop-left l = l.left

abbrev pub decreases-expect_encoding : goal.decreases-expect_encoding
decreases-expect_encoding l = 2 * l.n + 1

abbrev pub decreases-expect_node : goal.decreases-expect_node
decreases-expect_node l = 2 * count_at l.nodes.now l.at
