-- `tool::show::put_laid` meets its contract. Assumes nothing.
use Rattle.lines.proofs.PutLaws.{put-append}
use Rattle.show.specs.Answer.{laid_text}
use Rattle.show.proofs.put_laid.Goals as goal

pub returns : goal.returns
unfolding laid_text
returns c =
    put-append _ _ c.put_right-number.ensures (put-append _ _ c.put_offset-begin.ensures
    (put-append _ _ c.put_extent-size.ensures (put-append _ _ c.put_bytes-to.ensures c.put_type.ensures)))
