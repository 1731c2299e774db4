use borrow.Author.Rules.{rules}
use native.Mathlib.Omega.{arith}
use Rattle.sheet.proofs.GivenLaws.{given-refused, given-code, given-nodes, nodes-part}
use Rattle.layout.proofs.AnswerLaws.{layout-refused, layout_code, layout-nodes}
use Rattle.layout.proofs.layout.Goals as goal

pub code_layout-requires : goal.code_layout-requires
code_layout-requires c =
    (given-code c.args.words.now c.args.names.now c.check.ensures.gives c.in-Ok-Code.is c.in-Ok-Code.field-0-is).code

pub offset_bounds-words-first : goal.offset_bounds-words-first
offset_bounds-words-first c =
    let s = (given-nodes c.args.words.now c.args.names.now c.check.ensures.gives c.in-Ok-Nodes.is c.in-Ok-Nodes.field-0-is).starts in omega arith

pub slice_bounds-nodes_layout-count : goal.slice_bounds-nodes_layout-count
slice_bounds-nodes_layout-count c =
    let s = (given-nodes c.args.words.now c.args.names.now c.check.ensures.gives c.in-Ok-Nodes.is c.in-Ok-Nodes.field-0-is).starts in omega arith

pub slice_bounds-nodes_layout-start : goal.slice_bounds-nodes_layout-start
slice_bounds-nodes_layout-start c =
    let s = (given-nodes c.args.words.now c.args.names.now c.check.ensures.gives c.in-Ok-Nodes.is c.in-Ok-Nodes.field-0-is).starts in omega arith

pub nodes_layout-requires : goal.nodes_layout-requires
nodes_layout-requires c =
    let g = nodes-part (given-nodes c.args.words.now c.args.names.now c.check.ensures.gives c.in-Ok-Nodes.is c.in-Ok-Nodes.field-0-is)
    in (g.root, g.count, g.few)

pub returns-in-Err : goal.returns-in-Err
returns-in-Err c = let a = c.args in
    let p = layout-refused a.row a.words.now a.names.now a.offsets.now (given-refused a.words.now a.names.now c.check.ensures.gives c.in-Err.is) in
    let k = p.0 in
    record { answers = search rules; fills = p.1 }

pub returns-in-Ok-Code : goal.returns-in-Ok-Code
returns-in-Ok-Code c = let a = c.args in let p = layout_code a.row a.words.now a.names.now a.offsets.now
    (given-code c.args.words.now c.args.names.now c.check.ensures.gives c.in-Ok-Code.is c.in-Ok-Code.field-0-is)
    c.code_layout.ensures.answers c.code_layout.ensures.fills in record { answers = p.0; fills = p.1 }

pub returns-in-Ok-Nodes : goal.returns-in-Ok-Nodes
returns-in-Ok-Nodes c = let a = c.args in let p = layout-nodes a.row a.words.now a.names.now a.offsets.now
    (nodes-part (given-nodes c.args.words.now c.args.names.now c.check.ensures.gives c.in-Ok-Nodes.is c.in-Ok-Nodes.field-0-is))
    (c.nodes_layout.ensures.answers a.names.now) (c.nodes_layout.ensures.fills a.names.now) in record { answers = p.0; fills = p.1 }
