use Prim.Native.Nat.{ℕ, ◌+◌, ◌*◌}
use native.Mathlib.Omega.{arith}
use mathlib.Core.Path.{refl, ap, sym, subst}
use Rattle.kinds.specs.Sheet.{kind_at, count_at}
use Rattle.layout.specs.Walking.{IsPower}
use Rattle.layout.proofs.WalkLaws.{walking-within, walking-outer, walking-close, outer-index, outer-bytes, outer-alignment, outer-within, outer-added}
use Rattle.layout.proofs.quick.close.Goals as goal

pub bounds-nodes-i : goal.bounds-nodes-i
bounds-nodes-i c =
    let b = walking-within c.requires.0 in
    let u = outer-within c.requires.0 c.requires.2 (outer-index c.requires.0 c.requires.2) in
    omega arith

pub bounds-nodes-i-2 : goal.bounds-nodes-i-2
bounds-nodes-i-2 c =
    let b = walking-within c.requires.0 in
    let u = outer-within c.requires.0 c.requires.2 (outer-index c.requires.0 c.requires.2) in
    omega arith

pub overflow_add-result-2 : goal.overflow_add-result-2
overflow_add-result-2 c =
    let f = c.requires.0.few in
    let u = outer-within c.requires.0 c.requires.2 (outer-index c.requires.0 c.requires.2) in
    omega arith

pub add_room-requires : goal.add_room-requires
add_room-requires c =
    let g = c.requires.0 in
    let b = walking-within g in
    let a = (walking-outer g c.requires.2).around.level in
    let s = a.small in
    let e = outer-bytes g c.requires.2 in
    let q = c.in_ok-x.ensures in
    (subst IsPower (sym (outer-alignment g c.requires.2)) a.power, omega arith, q.power, q.small, omega arith)

pub returns : goal.returns
returns c =
    let g = c.requires.0 in
    let p = c.requires.2 in
    let i = outer-index g p in
    let w = c.args.nodes.now in (
      walking-close g p c.requires.1 (c.in_ok-x.ensures) (outer-added g p (c.in_ok-add_room.ensures)) i (ap (λ (c : ℕ). kind_at w (4 * c)) i)
          (ap (λ (c : ℕ). c + count_at w (4 * c)) i) refl refl,
      refl,
      (outer-within g p i).0,
    )
