-- `tool::show::put_entry` meets its contract. Assumes nothing.
use Rattle.lines.proofs.PutLaws.{put_same, put-append}
use Rattle.show.proofs.ShowLaws.{entry-is}
use Rattle.show.proofs.put_entry.Goals as goal

pub returns : goal.returns
returns c =
    put_same (entry-is c.args.text.now c.args.list.now _ c.args.k c.word_at-first.result c.word_at-size.result c.word_at.result
    c.part.ensures c.word_at-first.ensures c.word_at-size.ensures c.word_at.ensures)
    (put-append _ _ c.put_right-item.ensures (put-append _ _ c.put_column-start.ensures (put-append _ _ c.put_column-length.ensures
    (put-append _ _ c.put_column-number.ensures (put-append _ _ c.put_bytes-to.ensures c.put_shown.ensures)))))
