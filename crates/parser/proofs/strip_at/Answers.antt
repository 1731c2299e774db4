use Rattle.std.proofs.Common.{◌∙◌}
use Rattle.parser.proofs.PlaceLaws.{strip-at-run}
use Rattle.parser.proofs.strip_at.Goals as goal

pub returns : goal.returns
returns c = c.run_end.ensures ∙ strip-at-run _ _
