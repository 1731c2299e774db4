use Prim.Native.Nat.{◌+◌, ◌-◌, ◌*◌, ◌≤◌}
use mathlib.Core.Path.{◌≡◌}
use lib.ListN.{length}
use Rattle.kinds.specs.Sheet.{count_at}
use Rattle.kinds.specs.Walk.{NodeAt}
use Rattle.reason.specs.Reason.{path_text}
use Rattle.reason.specs.Spot.{NodeOf, path_from}
use Rattle.reason.proofs.PathLaws.{rest_text}
use Rattle.reason.proofs.words.path_len.Given as goal

-- Each item moves the place on, and writes at most 21 bytes.
abbrev pub invariant-loop-at : goal.invariant-loop-at
invariant-loop-at l = NodeAt l.nodes l.at × NodeOf l.at (count_at l.nodes l.at) l.x
    × (l.len + length (rest_text l.at (path_from l.nodes l.at l.x)) ≡ length (path_text (path_from l.nodes 0 l.x))) × (l.len ≤ 21 * l.at)

abbrev pub decreases-loop-at : goal.decreases-loop-at
decreases-loop-at l = l.x - l.at
