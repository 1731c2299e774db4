use mathlib.Core.Path.{◌≡◌}
use lib.ListN.{length, drop}
use Rattle.lines.specs.Answer.{each}
use Rattle.lines.proofs.PutLaws.{ToPut}
use Rattle.show.specs.Answer.{shown_byte, shown_text}
use Rattle.show.proofs.put_shown.Given as goal

abbrev pub invariant-loop-b : goal.invariant-loop-b
invariant-loop-b l = ToPut l.initial.out l.at (shown_text l.s) l.out l.to (each shown_byte (drop l.b-index l.s)) × (length l.out ≡ length l.initial.out)
