-- `rows::widths_of` meets its contract. Assumes nothing.
use Rattle.rows.proofs.RowLaws.{widths-row, widths-beyond}
use Rattle.rows.proofs.widths_of.Goals as goal

pub returns-then-row-lt4 : goal.returns-then-row-lt4
returns-then-row-lt4 c = widths-row _ c.if-row-lt4.true

pub returns : goal.returns
returns c = widths-beyond _ c.if-row-lt4.false
