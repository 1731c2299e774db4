use Prim.Native.Nat.{◌+◌, ◌≤◌}
use mathlib.Core.Path.{◌≡◌}
use mathlib.Core.List.{[]}
use Rattle.kinds.specs.Sheet.{trees}
use Rattle.kinds.specs.Walk.{TreesAt}
use Rattle.reason.specs.Reason.{items}
use Rattle.reason.proofs.find.count_items.Given as goal

abbrev pub invariant-loop-left : goal.invariant-loop-left
invariant-loop-left l = TreesAt l.nodes l.at l.left × (l.count + items (trees [] l.nodes l.left l.at) ≡ items (trees [] l.nodes l.n l.from)) ×
    (l.count + l.left ≤ l.n)

abbrev pub decreases-loop-left : goal.decreases-loop-left
decreases-loop-left l = l.left
