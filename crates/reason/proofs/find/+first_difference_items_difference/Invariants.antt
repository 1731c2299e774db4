use Prim.Native.Nat.{ℕ, ◌-◌, ◌*◌, ◌≤◌}
use Rattle.kinds.specs.Sheet.{trees}
use Rattle.reason.specs.Spot.{items_spot}
use Rattle.reason.proofs.WalkLaws.{Left}
use Rattle.reason.proofs.find.+first_difference_items_difference.Given as goal

abbrev pub invariant-first_difference-loop-left : goal.invariant-first_difference-loop-left
invariant-first_difference-loop-left l = (l.left ≤ l.initial.left) × Left l.all l.level l.an l.a l.bn l.b l.at l.left l.bt l.more l.here l.initial.at l.initial.left
    l.initial.bt l.initial.more
    (items_spot l.all l.initial.level l.initial.at (trees l.an l.a l.initial.left l.initial.at) (trees l.bn l.b l.initial.more l.initial.bt))

abbrev pub decreases-first_difference-loop-left : goal.decreases-first_difference-loop-left
decreases-first_difference-loop-left l = l.left

abbrev pub decreases-first_difference : goal.decreases-first_difference
decreases-first_difference l = 2 * l.left

abbrev pub decreases-items_difference : goal.decreases-items_difference
decreases-items_difference l = 2 * l.c - 1
