use Prim.Native.Nat.{ℕ, ◌-◌, ◌*◌}
use mathlib.Core.Path.{◌≡◌}
use mathlib.Core.List.{List}
use lib.ListN.{length}
use lib.Seq.{sets}
use Rattle.kinds.specs.Primitive.{Widths}
use Rattle.kinds.specs.Sheet.{trees}
use Rattle.kinds.specs.Walk.{TreesAt}
use Rattle.helper.specs.Measure.{RowOf}
use Rattle.layout.specs.Answer.{extents_of}
use Rattle.layout.proofs.taken.put_rooms.Given as goal

-- The words of the nodes before `i` are put.
abbrev pub invariant-loop-i : goal.invariant-loop-i
invariant-loop-i l = TreesAt l.nodes (4 * l.i) (l.n - l.i) × (length l.list ≡ length l.initial.list) × ((m : Widths) → RowOf l.sizes m → (s : List ℕ)
    → sets l.list (2 * l.i) (extents_of m l.limit (trees s l.nodes (l.n - l.i) (4 * l.i))) ≡ sets l.initial.list 0 (extents_of m l.limit (trees s l.nodes l.n 0)))
