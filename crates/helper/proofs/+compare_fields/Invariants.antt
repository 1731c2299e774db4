use Prim.Native.Nat.{ℕ}
use Prim.Native.Nat.{◌≤◌}
use Rattle.kinds.specs.Sheet.{trees}
use Rattle.helper.specs.Measure.{compare_fields}
use Rattle.helper.proofs.CompareLaws.{Left}
use Rattle.helper.proofs.+compare_fields.Given as goal

abbrev pub invariant-loop-level : goal.invariant-loop-level
invariant-loop-level l = (l.left ≤ l.initial.left) × Left l.all l.level l.an l.a l.bn l.b l.at l.left l.bt l.more l.here
    (compare_fields l.all l.initial.level (trees l.an l.a l.initial.left l.initial.at) (trees l.bn l.b l.initial.more l.initial.bt))

abbrev pub decreases-loop-level : goal.decreases-loop-level
decreases-loop-level l = l.left

abbrev pub decreases-compare_fields : goal.decreases-compare_fields
decreases-compare_fields l = l.left
