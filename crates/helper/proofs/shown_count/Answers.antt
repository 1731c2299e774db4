use mathlib.Core.Path.{sym, ◌∙◌}
use Rattle.helper.proofs.CompareLaws.{count-included, count-dropped}
use Rattle.helper.proofs.shown_count.Goals as goal

pub returns-in-Some : goal.returns-in-Some
returns-in-Some c = count-included _ _ _ (sym c.container_include_fields.ensures ∙ c.in-Some.is)

pub returns-in-None : goal.returns-in-None
returns-in-None c = count-dropped _ _ (sym c.container_include_fields.ensures ∙ c.in-None.is)
