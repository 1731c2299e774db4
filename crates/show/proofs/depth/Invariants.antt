use Prim.Native.Nat.{◌≤◌}
use mathlib.Core.Path.{◌≡◌}
use Rattle.show.specs.Answer.{holders}
use Rattle.show.proofs.depth.Given as goal

abbrev pub invariant-loop-j : goal.invariant-loop-j
invariant-loop-j l = (l.n ≡ holders l.nodes l.i l.j) × (l.n ≤ l.j)
