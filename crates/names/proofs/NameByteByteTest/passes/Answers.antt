use Rattle.std.proofs.Common.{rules, tests}
use Rattle.names.specs.Ends.{goes_on}
use Rattle.names.proofs.NameByteByteTest.passes.Goals as goal

pub returns-then-b-ne61 : goal.returns-then-b-ne61
unfolding goes_on
returns-then-b-ne61 c = search (rules, tests)

pub returns-else-b-ne61 : goal.returns-else-b-ne61
unfolding goes_on
returns-else-b-ne61 c = search (rules, tests)
