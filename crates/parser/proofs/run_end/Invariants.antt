use Rattle.std.proofs.Common.{◌≡◌, ◌≤◌, length, max}
use Rattle.parser.specs.Run.{run_end}
use Rattle.parser.proofs.run_end.Given as goal

abbrev pub invariant-loop-i : goal.invariant-loop-i
invariant-loop-i g l = (run_end (g.T.ByteTest.test l.of) l.text l.at ≡ run_end (g.T.ByteTest.test l.of) l.text l.i) × (l.i ≤ max l.at (length l.text))
