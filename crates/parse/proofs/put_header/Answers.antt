use mathlib.Core.Path.{◌∙◌}
use Rattle.sheet.proofs.PutLaws.{header-put}
use borrow.Author.Rules.{rules}
use Rattle.parse.proofs.put_header.Goals as goal

pub returns : goal.returns
returns c = c.put_header.ensures ∙ header-put _ _ _ (search rules)
