use native.Mathlib.Omega.{arith}
use lib.ListN.{get_or-replicate}
use Prim.Native.Nat.{ℕ, ◌+◌, ◌*◌}
use Rattle.layout.specs.Placing.{extent_at}
use Rattle.layout.proofs.TakenLaws.{words_placed}
use Rattle.layout.proofs.taken.node_room.Goals as goal

pub place-requires : goal.place-requires
place-requires c =
    let p = c.requires in
    (p.0, p.1, λ k h. get_or-replicate {A = ℕ} 2001 (c.args.i + 1 + k) 0 0 (omega arith))

pub returns : goal.returns
returns c =
    let a = c.args in
    λ m o s. words_placed a.limit (omega arith) (extent_at m s a.nodes.now (4 * a.i)) _ (c.place.ensures.below m o s).takes c.room_within.ensures
