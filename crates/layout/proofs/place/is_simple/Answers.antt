use native.Mathlib.Omega.{arith}
use Rattle.std.proofs.lemmas.Bool.Decides.{nat_tests}
use Rattle.layout.specs.Placing.{is_simple}
use mathlib.Core.Path.{sym, ◌∙◌}
use Rattle.layout.proofs.ExtentLaws.{not_plain}
use Rattle.kinds.proofs.NodeLaws.{node-child}
use Rattle.layout.proofs.place.is_simple.Goals as goal

pub bounds-nodes-at-then-kind-le-ARRAY : goal.bounds-nodes-at-then-kind-le-ARRAY
bounds-nodes-at-then-kind-le-ARRAY c =
    let k = not_plain _ (sym c.is_plain.ensures ∙ c.if-is_plain.false) in
    let h = node-child c.args.nodes.now c.args.at c.requires (omega arith) c.if-kind-le-ARRAY.true in
    let r = h.room in
    let m = h.some-node in
    omega arith

pub returns-then-is_plain : goal.returns-then-is_plain
unfolding is_simple
returns-then-is_plain c = grind (arith, nat_tests)

pub returns-then-kind-le-ARRAY : goal.returns-then-kind-le-ARRAY
unfolding is_simple
returns-then-kind-le-ARRAY c = grind (arith, nat_tests)

pub returns-else-kind-le-ARRAY : goal.returns-else-kind-le-ARRAY
unfolding is_simple
returns-else-kind-le-ARRAY c = grind (arith, nat_tests)
