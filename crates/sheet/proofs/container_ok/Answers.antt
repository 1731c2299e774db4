use mathlib.Core.Path.{sym, ◌∙◌}
use borrow.Author.Tests.{le-leb, lt-leb}
use Rattle.sheet.proofs.WalkLaws.{node-container}
use Rattle.sheet.proofs.container_ok.Goals as goal

pub returns-then-not-name_ok : goal.returns-then-not-name_ok
returns-then-not-name_ok c = sym (node-container _ _ _ _ _ c.requires.0 ∙ rw (sym c.name_ok.ensures ∙ c.if-not-name_ok.true))

pub returns-then-count-ge1 : goal.returns-then-count-ge1
returns-then-count-ge1 c = sym (node-container _ _ _ _ _ c.requires.0 ∙ rw (sym c.name_ok.ensures ∙ c.if-not-name_ok.false, le-leb _ _ c.if-count-ge1.true))

pub returns-else-count-ge1 : goal.returns-else-count-ge1
returns-else-count-ge1 c = sym (node-container _ _ _ _ _ c.requires.0 ∙ rw (sym c.name_ok.ensures ∙ c.if-not-name_ok.false, lt-leb _ _ c.if-count-ge1.false))
