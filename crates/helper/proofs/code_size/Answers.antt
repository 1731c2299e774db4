use Rattle.helper.proofs.AnswerLaws.{code-no-row, code-row}
use Rattle.helper.proofs.code_size.Goals as goal

pub returns-then-row-ge-ROWS : goal.returns-then-row-ge-ROWS
returns-then-row-ge-ROWS c = code-no-row _ c.if-row-ge-ROWS.true _

pub returns : goal.returns
returns c = code-row _ c.if-row-ge-ROWS.false _ _ c.primitive_size.ensures
