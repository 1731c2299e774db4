use Prim.Native.Nat.{◌-◌}
use mathlib.Core.Path.{◌≡◌}
use Rattle.kinds.specs.Sheet.{count_at}
use Rattle.reason.proofs.PathLaws.{Among}
use Rattle.reason.proofs.words.item_towards.Given as goal

abbrev pub invariant-loop-count : goal.invariant-loop-count
invariant-loop-count l = Among l.nodes l.parent l.x l.at l.number × (l.count ≡ count_at l.nodes l.at)

abbrev pub decreases-loop-count : goal.decreases-loop-count
decreases-loop-count l = l.x - l.at
