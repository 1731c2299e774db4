-- `static_str::print_children` and `static_str::print_trees` meet their contracts. Assumes nothing.
use Prim.Native.Nat.{ℕ, ◌+◌, ◌*◌}
use Rattle.kinds.specs.Print.{print}
use Rattle.kinds.specs.Sheet.{count_at, trees}
use Rattle.static_str.proofs.TurnLaws.{Printing}
use Rattle.static_str.proofs.+print_children_print_trees.Given as goal

abbrev pub invariant-print_trees-loop-left : goal.invariant-print_trees-loop-left
invariant-print_trees-loop-left l = Printing l.names l.nodes l.level l.initial.out l.start l.from l.n
    (print l.initial.level (trees l.names l.nodes l.n l.from)) l.out l.at l.left l.to

abbrev pub decreases-print_trees-loop-left : goal.decreases-print_trees-loop-left
decreases-print_trees-loop-left l = l.left

abbrev pub decreases-print_children : goal.decreases-print_children
decreases-print_children l = 2 * count_at l.nodes.now l.at

abbrev pub decreases-print_trees : goal.decreases-print_trees
decreases-print_trees l = 2 * l.n + 1
