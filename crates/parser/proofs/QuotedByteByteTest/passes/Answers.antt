use Rattle.std.proofs.Common.{rules, tests}
use Rattle.parser.specs.Run.{quoted}
use Rattle.parser.proofs.QuotedByteByteTest.passes.Goals as goal

pub returns : goal.returns
unfolding quoted
returns c = search (rules, tests)
