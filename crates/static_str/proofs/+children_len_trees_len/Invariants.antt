-- `static_str::children_len` and `static_str::trees_len` meet their contracts. Assumes nothing.
use Prim.Native.Nat.{ℕ, ◌+◌, ◌*◌}
use Rattle.kinds.specs.Sheet.{count_at}
use Rattle.static_str.proofs.TurnLaws.{Measuring}
use Rattle.static_str.proofs.+children_len_trees_len.Given as goal

abbrev pub invariant-trees_len-loop-left : goal.invariant-trees_len-loop-left
invariant-trees_len-loop-left l = Measuring l.nodes l.level l.from l.n l.at l.left l.len

abbrev pub decreases-trees_len-loop-left : goal.decreases-trees_len-loop-left
decreases-trees_len-loop-left l = l.left

abbrev pub decreases-children_len : goal.decreases-children_len
decreases-children_len l = 2 * count_at l.nodes.now l.at

abbrev pub decreases-trees_len : goal.decreases-trees_len
decreases-trees_len l = 2 * l.n + 1
