use mathlib.Core.Path.{ap, sym, ◌∙◌}
use Rattle.kinds.specs.Primitive.{entry}
use Rattle.kinds.proofs.PrimitiveLaws.{no_row, size-beyond, entry-none, entry-some}
use Rattle.kinds.proofs.primitive_size.Goals as goal

pub returns-then-row-ge-ROWS : goal.returns-then-row-ge-ROWS
returns-then-row-ge-ROWS c = sym (no_row _ _ c.if-row-ge-ROWS.true)

pub returns-then-kind-ge-PRIMITIVES : goal.returns-then-kind-ge-PRIMITIVES
returns-then-kind-ge-PRIMITIVES c = sym (size-beyond _ _ c.if-kind-ge-PRIMITIVES.true)

pub table_entry-requires : goal.table_entry-requires
table_entry-requires c = (c.if-row-ge-ROWS.false, c.if-kind-ge-PRIMITIVES.false)

pub returns-then-n-eq0 : goal.returns-then-n-eq0
returns-then-n-eq0 c = entry-none c.if-n-eq0.true ∙ ap entry c.from-n.ensures ∙ c.table_entry.ensures

pub returns : goal.returns
returns c = entry-some c.if-n-eq0.false ∙ ap entry c.from-n.ensures ∙ c.table_entry.ensures
