-- `tool::show::put_whole` meets its contract. Assumes nothing.
use Rattle.lines.proofs.PutLaws.{put-append}
use Rattle.show.specs.Answer.{whole_text}
use Rattle.show.proofs.put_whole.Goals as goal

pub returns : goal.returns
unfolding whole_text
returns c =
    put-append _ _ c.put_count-size.ensures (put-append _ _ c.put_bytes-to.ensures c.put_number.ensures)
