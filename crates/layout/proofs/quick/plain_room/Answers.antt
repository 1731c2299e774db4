use Rattle.std.proofs.lemmas.Option.{IfSome_then}
use Rattle.layout.proofs.RoomLaws.{pointer-room}
use Rattle.layout.proofs.quick.plain_room.Goals as goal

pub returns-then-kind-eq-POINTER : goal.returns-then-kind-eq-POINTER
returns-then-kind-eq-POINTER c =
    IfSome_then _ c.code_room-then-kind-eq-POINTER.ensures (λ x p. pointer-room c.if-kind-eq-POINTER.true p)
