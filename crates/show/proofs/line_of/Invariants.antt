use Prim.Native.Nat.{◌-◌}
use mathlib.Core.Path.{◌≡◌}
use Rattle.show.specs.Answer.{line_of}
use Rattle.show.proofs.line_of.Given as goal

abbrev pub invariant-loop : goal.invariant-loop
invariant-loop l = line_of (l.k - l.counter) l.unread ≡ line_of l.k l.table
