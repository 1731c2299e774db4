use mathlib.Core.Path.{◌≡◌}
use Rattle.fields.specs.Answer.{none_of, is_laid_out}
use Rattle.fields.proofs.is_laid_out.Given as goal

abbrev pub invariant-loop-j : goal.invariant-loop-j
invariant-loop-j l = none_of l.nodes l.i l.j ≡ is_laid_out l.nodes l.i
