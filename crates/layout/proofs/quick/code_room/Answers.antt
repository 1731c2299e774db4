use mathlib.Core.Path.{sym}
use Rattle.layout.proofs.ExtentLaws.{part-below}
use Rattle.layout.proofs.RoomLaws.{code-room}
use Rattle.layout.proofs.quick.code_room.Goals as goal

pub bounds-sizes-part_kind : goal.bounds-sizes-part_kind
bounds-sizes-part_kind c = part-below c.args.k c.requires.1 c.part_kind.ensures

pub returns : goal.returns
returns c =
    let a = c.args in
    code-room a.sizes.now a.k c.requires.0 c.requires.1 c.from-bytes.ensures c.if-bytes-eq0.false (sym c.part_kind.ensures) c.from.ensures
