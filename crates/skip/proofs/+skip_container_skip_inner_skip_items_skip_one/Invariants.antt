use lib.ListN.{length}
use Rattle.skip.specs.Skips.{SkipsItems}
use Rattle.std.specs.Prelude.{Result}
use Rattle.kinds.specs.declared.ParseError.{ParseError}
use Prim.Native.Nat.{ℕ, ◌+◌, ◌*◌, ◌-◌, ◌≤◌}
use Rattle.skip.proofs.+skip_container_skip_inner_skip_items_skip_one.Given as goal

abbrev pub invariant-skip_items-loop-kind : goal.invariant-skip_items-loop-kind
invariant-skip_items-loop-kind l = (l.at ≤ l.to) × ((l.to ≤ length l.text) × ((i : Result ℕ ParseError) → SkipsItems l.text l.to l.kind i → SkipsItems l.text l.at l.kind i))

abbrev pub decreases-skip_items-loop-kind : goal.decreases-skip_items-loop-kind
decreases-skip_items-loop-kind l = length l.text - l.to

abbrev pub decreases-skip_container : goal.decreases-skip_container
decreases-skip_container l = 4 * (length l.text.now - l.at)

abbrev pub decreases-skip_inner : goal.decreases-skip_inner
decreases-skip_inner l = 4 * (length l.text.now - l.at) + 2

abbrev pub decreases-skip_items : goal.decreases-skip_items
decreases-skip_items l = 4 * (length l.text.now - l.at) + 3

abbrev pub decreases-skip_one : goal.decreases-skip_one
decreases-skip_one l = 4 * (length l.text.now - l.at) + 1
