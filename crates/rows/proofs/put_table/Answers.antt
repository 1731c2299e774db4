-- `rows::put_table` meets its contract. Assumes nothing.
use mathlib.Core.List.{[]}
use Rattle.lines.proofs.PutLaws.{put-append, put-none}
use Rattle.rows.specs.Answer.{rows_text, table_text}
use Rattle.rows.proofs.put_table.Goals as goal

pub returns : goal.returns
unfolding table_text rows_text
returns c =
    put-append _ _ c.put_row-second.ensures
    (put-append _ _ c.put_row-third.ensures (put-append _ _ c.put_row-fourth.ensures (put-append _ [] c.put_row.ensures (put-none _ _))))
