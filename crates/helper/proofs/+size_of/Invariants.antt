use Prim.Native.Nat.{ℕ, ◌<◌}
use Prim.Native.Nat.{◌+◌, ◌-◌}
use Rattle.kinds.specs.Sheet.{count_at, trees}
use Rattle.kinds.specs.Size as S
use Rattle.helper.specs.Measure.{fold}
use Rattle.helper.proofs.NodeSizeLaws.{Gathered}
use Rattle.helper.proofs.+size_of.Given as goal

abbrev pub invariant-loop-left : goal.invariant-loop-left
invariant-loop-left l = (l.left < count_at l.nodes l.at) × Gathered l.sizes l.kind l.inner l.nodes l.child l.left l.all
    (λ m s. fold l.kind (S.sizes m l.inner (trees s l.nodes (count_at l.nodes l.at - 1) (l.at + 4))))

abbrev pub decreases-loop-left : goal.decreases-loop-left
decreases-loop-left l = l.left

abbrev pub decreases-size_of : goal.decreases-size_of
decreases-size_of l = count_at l.nodes.now l.at
