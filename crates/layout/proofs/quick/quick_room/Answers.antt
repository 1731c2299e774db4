use Rattle.std.proofs.lemmas.Option.{IfSome_then}
use Rattle.layout.proofs.FindLaws.{sought-first}
use Rattle.layout.proofs.RoomLaws.{IfOk-from_ok_or, IfErr-from_ok_or}
use Rattle.layout.proofs.SimpleLaws.{quick-settled}
use Rattle.layout.proofs.quick.quick_room.Goals as goal

pub returns-clause-settles : goal.returns-clause-settles
returns-clause-settles c =
    let p = c.requires in
    let t = c.args.tree in
    IfOk-from_ok_or _ _ _ c.ok_or.ensures.value (IfSome_then _ c.simple_room.ensures (λ x q. quick-settled t.stands t.counted p.0 p.1 q))

pub returns-clause-passed : goal.returns-clause-passed
returns-clause-passed c =
    let t = c.args.tree in
    IfErr-from_ok_or _ _ _ c.ok_or.ensures.value (sought-first t.sizes.now t.nodes.now t.n t.stands t.counted)
