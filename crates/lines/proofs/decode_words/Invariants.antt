use Rattle.lines.proofs.DecimalLaws.{Scan}
use Rattle.lines.proofs.decode_words.Given as goal

abbrev pub invariant-loop-b : goal.invariant-loop-b
invariant-loop-b l = Scan l.list l.initial.words l.words l.b-index l.n l.value
