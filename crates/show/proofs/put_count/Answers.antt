-- `tool::show::put_count` meets its contract. Assumes nothing.
use Rattle.lines.proofs.PutLaws.{put_same, put-append}
use Rattle.show.proofs.ShowLaws.{count-one, count-more}
use Rattle.show.proofs.put_count.Goals as goal

pub returns-then-n-eq1 : goal.returns-then-n-eq1
returns-then-n-eq1 c =
    put_same (count-one c.args.n c.args.unit.now c.if-n-eq1.true)
    (put-append _ _ c.put_number-number.ensures (put-append _ _ c.put_bytes-space.ensures c.put_bytes-to.ensures))

pub returns : goal.returns
returns c =
    put_same (count-more c.args.n c.args.unit.now c.if-n-eq1.false)
    (put-append _ _ c.put_number-number.ensures (put-append _ _ c.put_bytes-space.ensures
    (put-append _ _ c.put_bytes-to.ensures c.put_bytes.ensures)))
