-- `tool::show::put_container` meets its contract. Assumes nothing.
use Rattle.lines.proofs.PutLaws.{put_same}
use Rattle.show.proofs.ShowLaws.{container-union, container-struct}
use Rattle.show.proofs.put_container.Goals as goal

pub returns-then-kind-eq-UNION : goal.returns-then-kind-eq-UNION
returns-then-kind-eq-UNION c =
    put_same (container-union c.args.kind c.if-kind-eq-UNION.true) c.put_bytes.ensures

pub returns : goal.returns
returns c =
    put_same (container-struct c.args.kind c.if-kind-eq-UNION.false) c.put_bytes-2.ensures
