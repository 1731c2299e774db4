use mathlib.Core.Path.{◌≡◌}
use lib.ListN.{length, drop}
use Rattle.lines.specs.Answer.{hex_pair, each}
use Rattle.lines.proofs.PutLaws.{ToPut}
use Rattle.lines.proofs.put_hex.Given as goal

abbrev pub invariant-loop-b : goal.invariant-loop-b
invariant-loop-b l = ToPut l.initial.out l.at (each hex_pair l.s) l.out l.to (each hex_pair (drop l.b-index l.s)) × (length l.out ≡ length l.initial.out)
