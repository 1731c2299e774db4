use Rattle.signature.specs.Reads.{ReadTo}
use Prim.Native.Nat.{◌-◌}
use lib.ListN.{length}
use Rattle.signature.proofs.read_entries.Given as goal

abbrev pub invariant-loop-at : goal.invariant-loop-at
invariant-loop-at l = ReadTo l.text l.initial.list l.list l.at l.k

abbrev pub decreases-loop-at : goal.decreases-loop-at
decreases-loop-at l = length l.text - l.at
