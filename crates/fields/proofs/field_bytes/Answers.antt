use mathlib.Core.Path.{sym, ◌∙◌}
use Rattle.fields.proofs.field_bytes.Goals as goal

pub returns-then-is_field_of : goal.returns-then-is_field_of
returns-then-is_field_of c = c.bytes_of.ensures ∙ sym (rw (sym c.is_field_of.ensures ∙ c.if-is_field_of.true))

pub returns : goal.returns
returns c = sym (rw (sym c.is_field_of.ensures ∙ c.if-is_field_of.false))
