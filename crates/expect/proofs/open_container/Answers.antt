use native.Mathlib.Omega.{arith}
use Rattle.expect.proofs.WalkLaws.{container-at}
use Rattle.expect.proofs.open_container.Goals as goal

pub overflow_add-to : goal.overflow_add-to
overflow_add-to c =
    let k = c.requires.1.name c.requires.2 in omega arith

pub slice_bounds-open_named-end : goal.slice_bounds-open_named-end
slice_bounds-open_named-end c =
    let k = c.requires.1.name c.requires.2 in omega arith

pub returns : goal.returns
returns c =
    container-at c.args.names.now c.args.nodes.now c.args.at c.args.level _ c.args.text.now c.open_named.result _
    c.requires.2 c.container_of-kind.ensures c.open_named.ensures
