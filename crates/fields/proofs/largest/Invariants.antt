use mathlib.Core.Path.{◌≡◌}
use Rattle.fields.specs.Answer.{largest}
use Rattle.fields.proofs.largest.Given as goal

abbrev pub invariant-loop-j : goal.invariant-loop-j
invariant-loop-j l = l.bytes ≡ largest l.nodes l.extents l.p l.j
