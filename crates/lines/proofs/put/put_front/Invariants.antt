use mathlib.Core.Path.{◌≡◌}
use lib.ListN.{length, drop}
use Rattle.lines.proofs.PutLaws.{ToPut}
use Rattle.lines.proofs.put.put_front.Given as goal

abbrev pub invariant-loop-b : goal.invariant-loop-b
invariant-loop-b l = ToPut l.initial.out l.at l.s l.out l.to (drop l.b-index l.s) × (length l.out ≡ length l.initial.out)
