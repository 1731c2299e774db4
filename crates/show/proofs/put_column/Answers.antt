-- `tool::show::put_column` meets its contract. Assumes nothing.
use Rattle.lines.proofs.PutLaws.{put-append}
use Rattle.show.specs.Answer.{column_text}
use Rattle.show.proofs.put_column.Goals as goal

pub returns : goal.returns
unfolding column_text
returns c =
    put-append _ _ c.put_bytes-to.ensures c.put_right.ensures
