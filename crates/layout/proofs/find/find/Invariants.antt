-- The invariant: what is laid out from node `i` on tells with what was passed what the whole tree does.
use Prim.Native.Nat.{◌-◌}
use Rattle.layout.specs.Walking.{Sought}
use Rattle.layout.proofs.find.find.Given as goal

abbrev pub invariant-loop-i : goal.invariant-loop-i
invariant-loop-i l = Sought l.sizes l.nodes l.n l.i l.bottom l.none

abbrev pub decreases-loop-i : goal.decreases-loop-i
decreases-loop-i l = l.n - l.i
