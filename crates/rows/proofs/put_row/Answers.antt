-- `rows::put_row` meets its contract. Assumes nothing.
use Rattle.lines.proofs.PutLaws.{put-append, put_same}
use Rattle.rows.proofs.RowLaws.{row_is}
use Rattle.rows.proofs.put_row.Goals as goal

pub returns : goal.returns
returns c =
    put_same (row_is c.args.row c.widths_of-w.result c.size_row-sizes.result c.widths_of-w.ensures c.size_row-sizes.ensures)
    (put-append _ _ c.put_joined-to.ensures c.put_bytes.ensures)
