use mathlib.Core.Path.{◌≡◌}
use lib.ListN.{length}
use Rattle.parse.specs.Agree.{CodesRead}
use Rattle.parse.proofs.put_codes.Given as goal

abbrev pub invariant-loop-i : goal.invariant-loop-i
invariant-loop-i l = CodesRead l.text l.at l.n l.initial.words l.words l.i × (length l.words ≡ length l.initial.words)
