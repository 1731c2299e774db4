-- `lines::put_refusal` meets its contract. Assumes nothing.
use mathlib.Core.List.{[]}
use Rattle.lines.proofs.PutLaws.{put_same, put-append, put-none, refusal_is}
use Rattle.lines.proofs.put_refusal.Goals as goal

pub returns : goal.returns
returns c =
    put_same (refusal_is _ _ c.values-values.result c.number.ensures c.values-values.ensures)
    (put-append _ _ c.put_number-first.ensures (put-append _ _ c.put_marked-second.ensures
    (put-append _ _ c.put_marked-third.ensures (put-append _ [] c.put_marked.ensures (put-none _ _)))))
