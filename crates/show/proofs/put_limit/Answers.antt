-- `tool::show::put_limit` meets its contract. Assumes nothing.
use Rattle.lines.proofs.PutLaws.{put_same}
use Rattle.show.proofs.ShowLaws.{limit-small, limit-large}
use Rattle.show.proofs.put_limit.Goals as goal

pub returns-then-row-eq2 : goal.returns-then-row-eq2
returns-then-row-eq2 c =
    put_same (limit-small _ c.if-row-eq2.true) c.put_bytes.ensures

pub returns : goal.returns
returns c =
    put_same (limit-large _ c.if-row-eq2.false) c.put_bytes-2.ensures
