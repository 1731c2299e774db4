use Rattle.lines.proofs.PutLaws.{put_same, put-append}
use Rattle.reason.proofs.ValueLaws.{bytes-value}
use Rattle.reason.proofs.words.put_bytes_value.Goals as goal

pub returns : goal.returns
returns c =
    put_same (bytes-value _) (put-append _ _ c.put_marked-mark.ensures (put-append _ _ c.put_bytes-from.ensures c.put_bytes.ensures))
