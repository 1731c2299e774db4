use mathlib.Core.Path.{sym, ◌∙◌, ap₂}
use borrow.Author.Tests.{lt-ltb, le-ltb}
use Rattle.fields.specs.Answer.{holds}
use lib.Dec.{ltb}
use Rattle.fields.proofs.holds.Goals as goal

pub returns-then-j-i : goal.returns-then-j-i
unfolding holds
returns-then-j-i c = ap₂ ltb c.behind.ensures c.count_of.ensures ∙ sym (rw (lt-ltb _ _ c.if-j-i.true))

pub returns : goal.returns
unfolding holds
returns c = sym (rw (le-ltb _ _ c.if-j-i.false))
