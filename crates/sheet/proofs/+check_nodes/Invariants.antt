use Prim.Native.Nat.{ℕ, ◌+◌, ◌*◌, ◌≤◌}
use mathlib.Core.Path.{◌≡◌}
use Rattle.sheet.specs.Walked.{walked}
use Rattle.sheet.proofs.+check_nodes.Given as goal

abbrev pub invariant-loop-left : goal.invariant-loop-left
invariant-loop-left l =
    (l.at + 4 * l.left ≡ l.initial.at + 4 * l.initial.left) × (l.left ≤ l.initial.left) × (l.name ≤ l.end) ×
    (walked l.names l.nodes l.initial.left l.initial.at l.initial.name l.end l.initial.good ≡ walked l.names l.nodes l.left l.at l.name l.end l.good)

abbrev pub decreases-loop-left : goal.decreases-loop-left
decreases-loop-left l = l.left

abbrev pub decreases-check_nodes : goal.decreases-check_nodes
decreases-check_nodes l = l.left
