use mathlib.Core.Path.{◌≡◌}
use mathlib.Core.List.{◌∷◌}
use lib.ListN.{length, drop}
use Rattle.kinds.specs.Print.{decimal}
use Rattle.lines.specs.Answer.{each}
use Rattle.lines.proofs.PutLaws.{ToPut}
use Rattle.lines.proofs.put_joined.Given as goal

abbrev pub invariant-loop-n : goal.invariant-loop-n
invariant-loop-n l = ToPut l.initial.out l.initial.to (each (λ k. l.mark ∷ decimal k) l.others) l.out l.to (each (λ k. l.mark ∷ decimal k) (drop l.n-index l.others))
    × (length l.out ≡ length l.initial.out)
