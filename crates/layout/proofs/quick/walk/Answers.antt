use native.Mathlib.Omega.{arith}
use mathlib.Core.Path.{refl, sym, ◌∙◌}
use Rattle.std.proofs.lemmas.Option.{IfSome_then}
use Rattle.layout.proofs.FindLaws.{sought-first}
use Rattle.layout.proofs.RoomLaws.{IfOk-from_ok_or, IfErr-from_ok_or}
use Rattle.layout.proofs.WalkLaws.{walking-first, walking-end, ended-as}
use Rattle.layout.proofs.quick.walk.Goals as goal

pub loop-o-init : goal.loop-o-init
loop-o-init c =
    let p = c.requires in
    let t = c.args.tree in
    let e = t.counted in
    walking-first t.stands p.0 (omega arith) (p.1 ∙ sym e) (λ k h. p.2 k (omega arith)) refl refl (sym e) refl c.new.ensures.0 c.new.ensures.1

pub returns-then-o-eq0-clause-settles : goal.returns-then-o-eq0-clause-settles
returns-then-o-eq0-clause-settles c =
    IfOk-from_ok_or _ _ _ c.ok_or-then-o-eq0.ensures.value
    (IfSome_then _ c.ended_room.ensures (λ x q. walking-end c.loop-o.invariant c.if-from-o.false c.if-o-eq0.true (ended-as c.args.tree.nodes.now c.if-o-eq0.true q)))

pub returns-then-o-eq0-clause-passed : goal.returns-then-o-eq0-clause-passed
returns-then-o-eq0-clause-passed c =
    let t = c.args.tree in
    IfErr-from_ok_or _ _ _ c.ok_or-then-o-eq0.ensures.value (sought-first t.sizes.now t.nodes.now t.n t.stands t.counted)
