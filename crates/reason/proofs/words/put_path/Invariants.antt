use Prim.Native.Nat.{◌-◌}
use mathlib.Core.Path.{◌≡◌}
use lib.ListN.{length}
use Rattle.kinds.specs.Sheet.{count_at}
use Rattle.kinds.specs.Walk.{NodeAt}
use Rattle.lines.proofs.PutLaws.{ToPut}
use Rattle.reason.specs.Spot.{NodeOf, path_from}
use Rattle.reason.proofs.PathLaws.{rest_text}
use Rattle.reason.proofs.words.put_path.Given as goal

abbrev pub invariant-loop-at : goal.invariant-loop-at
invariant-loop-at l = NodeAt l.nodes l.at × NodeOf l.at (count_at l.nodes l.at) l.x
    × ToPut l.initial.out 0 (rest_text 0 (path_from l.nodes 0 l.x)) l.out l.to (rest_text l.at (path_from l.nodes l.at l.x)) × (length l.out ≡ length l.initial.out)

abbrev pub decreases-loop-at : goal.decreases-loop-at
decreases-loop-at l = l.x - l.at
