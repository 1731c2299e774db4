use native.Mathlib.Omega.{arith}
use Rattle.sheet.proofs.GivenLaws.{given-refused, given-node, given-nodes, nodes-part}
use Rattle.layout.proofs.TakenLaws.{extents-refused, extents-nodes}
use Rattle.layout.proofs.extents.Goals as goal

pub offset_bounds-words-first : goal.offset_bounds-words-first
offset_bounds-words-first c =
    let s = (given-node c.args.words.now c.args.names.now c.check.ensures.gives c.in-Ok.is c.in-Code.is).starts in omega arith

pub slice_bounds-nodes_extents-count : goal.slice_bounds-nodes_extents-count
slice_bounds-nodes_extents-count c =
    let s = (given-node c.args.words.now c.args.names.now c.check.ensures.gives c.in-Ok.is c.in-Code.is).starts in omega arith

pub slice_bounds-nodes_extents-start : goal.slice_bounds-nodes_extents-start
slice_bounds-nodes_extents-start c =
    let s = (given-node c.args.words.now c.args.names.now c.check.ensures.gives c.in-Ok.is c.in-Code.is).starts in omega arith

pub nodes_extents-requires : goal.nodes_extents-requires
nodes_extents-requires c =
    let g = nodes-part (given-node c.args.words.now c.args.names.now c.check.ensures.gives c.in-Ok.is c.in-Code.is)
    in (g.whole, g.few)

pub offset_bounds-words-first-in-Nodes : goal.offset_bounds-words-first-in-Nodes
offset_bounds-words-first-in-Nodes c =
    let s = (given-nodes c.args.words.now c.args.names.now c.check.ensures.gives c.in-Ok.is c.in-Nodes.is).starts in omega arith

pub slice_bounds-nodes_extents-count-in-Nodes : goal.slice_bounds-nodes_extents-count-in-Nodes
slice_bounds-nodes_extents-count-in-Nodes c =
    let s = (given-nodes c.args.words.now c.args.names.now c.check.ensures.gives c.in-Ok.is c.in-Nodes.is).starts in omega arith

pub slice_bounds-nodes_extents-start-in-Nodes : goal.slice_bounds-nodes_extents-start-in-Nodes
slice_bounds-nodes_extents-start-in-Nodes c =
    let s = (given-nodes c.args.words.now c.args.names.now c.check.ensures.gives c.in-Ok.is c.in-Nodes.is).starts in omega arith

pub nodes_extents-requires-in-Nodes : goal.nodes_extents-requires-in-Nodes
nodes_extents-requires-in-Nodes c =
    let g = nodes-part (given-nodes c.args.words.now c.args.names.now c.check.ensures.gives c.in-Ok.is c.in-Nodes.is)
    in (g.whole, g.few)

pub returns-in_default : goal.returns-in_default
returns-in_default c = let p = extents-refused _ _ _ _ (given-refused c.args.words.now c.args.names.now c.check.ensures.gives c.in_default.is) in record { answers = p.0; fills = p.1 }

pub returns-in-Code : goal.returns-in-Code
returns-in-Code c = let a = c.args in let p = extents-nodes a.row a.words.now a.names.now a.list.now
    (nodes-part (given-node c.args.words.now c.args.names.now c.check.ensures.gives c.in-Ok.is c.in-Code.is))
    (c.nodes_extents.ensures.answers a.names.now) (c.nodes_extents.ensures.fills a.names.now) in record { answers = p.0; fills = p.1 }

pub returns-in-Nodes : goal.returns-in-Nodes
returns-in-Nodes c = let a = c.args in let p = extents-nodes a.row a.words.now a.names.now a.list.now
    (nodes-part (given-nodes c.args.words.now c.args.names.now c.check.ensures.gives c.in-Ok.is c.in-Nodes.is))
    (c.nodes_extents-in-Nodes.ensures.answers a.names.now) (c.nodes_extents-in-Nodes.ensures.fills a.names.now) in record { answers = p.0; fills = p.1 }
