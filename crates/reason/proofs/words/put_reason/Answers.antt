use Rattle.lines.proofs.PutLaws.{put_same, put-append}
use Rattle.reason.proofs.ValueLaws.{reason-pieces}
use Rattle.reason.proofs.words.put_reason.Goals as goal

pub returns : goal.returns
returns c =
    put_same (reason-pieces _ _ _ _ _ _ _)
    (put-append _ _ c.put_path-path.ensures
    (put-append _ _ c.put_bytes-mark.ensures
    (put-append _ _ c.put_word-word.ensures (put-append _ _ c.put_value-first.ensures c.put_value.ensures))))
