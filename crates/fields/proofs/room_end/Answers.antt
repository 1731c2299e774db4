use mathlib.Core.Path.{sym, ◌∙◌}
use Rattle.fields.proofs.room_end.Goals as goal

pub returns-then-is_last : goal.returns-then-is_last
returns-then-is_last c = c.bytes_of.ensures ∙ sym (rw (sym c.is_last.ensures ∙ c.if-is_last.true))

pub returns : goal.returns
returns c = c.next_offset.ensures ∙ sym (rw (sym c.is_last.ensures ∙ c.if-is_last.false))
