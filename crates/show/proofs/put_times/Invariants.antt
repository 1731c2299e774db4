use Prim.Native.Nat.{◌-◌}
use mathlib.Core.Path.{◌≡◌}
use lib.ListN.{length}
use Rattle.lines.proofs.PutLaws.{ToPut}
use Rattle.show.specs.Answer.{times}
use Rattle.show.proofs.put_times.Given as goal

abbrev pub invariant-loop : goal.invariant-loop
invariant-loop l = ToPut l.initial.out l.at (times l.n l.s) l.out l.to (times (l.n - l.counter) l.s) × (length l.out ≡ length l.initial.out)
