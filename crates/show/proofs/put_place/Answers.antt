-- `tool::show::put_place` meets its contract. Assumes nothing.
use Rattle.lines.proofs.PutLaws.{put_same, put-append}
use Rattle.show.proofs.ShowLaws.{place-whole, place-item}
use Rattle.show.proofs.put_place.Goals as goal

pub returns-then-path-eq0 : goal.returns-then-path-eq0
returns-then-path-eq0 c =
    put_same (place-whole c.args.path.now c.if-path-eq0.true) c.put_bytes.ensures

pub returns : goal.returns
returns c =
    put_same (place-item c.args.path.now c.if-path-eq0.false) (put-append _ _ c.put_bytes-to.ensures c.put_bytes-2.ensures)
