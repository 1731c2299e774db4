use Rattle.layout.specs.Walking.{Filling}
use Prim.Native.Nat.{◌+◌, ◌-◌, ◌*◌, ◌<◌}
use Rattle.kinds.specs.Sheet.{count_at}
use Rattle.layout.proofs.place.+place.Given as goal

abbrev pub invariant-loop-left : goal.invariant-loop-left
invariant-loop-left l = (l.left < count_at l.nodes (4 * l.i)) × Filling l.sizes l.nodes l.kind (l.i + 1)
    (count_at l.nodes (4 * l.i) - 1) l.initial.offsets l.offsets l.j l.left l.run

abbrev pub decreases-loop-left : goal.decreases-loop-left
decreases-loop-left l = l.left

abbrev pub decreases-place : goal.decreases-place
decreases-place l = count_at l.nodes.now (4 * l.i)
