use mathlib.Core.Path.{◌≡◌}
use Rattle.fields.specs.Answer.{last_of, holder_of}
use Rattle.fields.proofs.holder.Given as goal

abbrev pub invariant-loop-j : goal.invariant-loop-j
invariant-loop-j l = last_of l.nodes l.i l.j ≡ holder_of l.nodes l.i
