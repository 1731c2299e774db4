use mathlib.Core.Path.{ap, sym, ◌∙◌}
use native.Mathlib.Omega.{arith}
use Rattle.layout.specs.Placing.{simple_placed, held_by}
use Rattle.layout.proofs.FillLaws.{simple-held}
use Rattle.kinds.proofs.NodeLaws.{node-child}
use Rattle.layout.proofs.place.simple.Goals as goal

pub returns-then-is_plain : goal.returns-then-is_plain
unfolding simple_placed
returns-then-is_plain c =
    rw (← c.is_plain.ensures, c.if-is_plain.true) c.plain.ensures

pub bounds-nodes-at-2 : goal.bounds-nodes-at-2
bounds-nodes-at-2 c =
    let k = simple-held c.args.nodes.now c.args.at c.requires.1 (sym c.is_plain.ensures ∙ c.if-is_plain.false) in
    let h = node-child c.args.nodes.now c.args.at c.requires.0 (omega arith) k.1 in
    let r = h.room in
    let m = h.some-node in
    omega arith

pub returns : goal.returns
unfolding simple_placed
returns c =
    rw (← c.is_plain.ensures, c.if-is_plain.false) (c.held_by.ensures ∙ ap (held_by _ _) c.plain-2.ensures)
