use mathlib.Core.Path.{sym, ◌∙◌}
use Rattle.fields.proofs.is_laid_out_field.Goals as goal

pub returns-then-is_field : goal.returns-then-is_field
returns-then-is_field c = c.is_laid_out.ensures ∙ sym (rw (sym c.is_field.ensures ∙ c.if-is_field.true))

pub returns : goal.returns
returns c = sym (rw (sym c.is_field.ensures ∙ c.if-is_field.false))
