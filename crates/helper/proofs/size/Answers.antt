use borrow.Author.Rules.{rules}
use native.Mathlib.Omega.{arith}
use Rattle.sheet.proofs.GivenLaws.{given-refused, given-code, given-nodes, nodes-part}
use Rattle.helper.proofs.AnswerLaws.{size-refused, size-code, size-nodes}
use Rattle.helper.proofs.size.Goals as goal

pub offset_bounds-words-first : goal.offset_bounds-words-first
offset_bounds-words-first c =
    let s = (given-nodes c.args.words.now c.args.names.now c.check.ensures.gives c.in_ok-found.was c.in-Nodes.is).starts in omega arith

pub slice_bounds-nodes_size-count : goal.slice_bounds-nodes_size-count
slice_bounds-nodes_size-count c =
    let s = (given-nodes c.args.words.now c.args.names.now c.check.ensures.gives c.in_ok-found.was c.in-Nodes.is).starts in omega arith

pub slice_bounds-nodes_size-start : goal.slice_bounds-nodes_size-start
slice_bounds-nodes_size-start c =
    let s = (given-nodes c.args.words.now c.args.names.now c.check.ensures.gives c.in_ok-found.was c.in-Nodes.is).starts in omega arith

pub nodes_size-requires : goal.nodes_size-requires
nodes_size-requires c =
    (nodes-part (given-nodes c.args.words.now c.args.names.now c.check.ensures.gives c.in_ok-found.was c.in-Nodes.is)).root

pub returns-in_err-found : goal.returns-in_err-found
returns-in_err-found c =
    let k = size-refused c.args.row c.args.words.now c.args.names.now (given-refused c.args.words.now c.args.names.now c.check.ensures.gives c.in_err-found.was) in
    search rules

pub returns-in-Code : goal.returns-in-Code
returns-in-Code c =
    size-code _ _ _ (given-code c.args.words.now c.args.names.now c.check.ensures.gives c.in_ok-found.was c.in-Code.is) c.code_size.ensures

pub returns-in-Nodes : goal.returns-in-Nodes
returns-in-Nodes c =
    let g = given-nodes c.args.words.now c.args.names.now c.check.ensures.gives c.in_ok-found.was c.in-Nodes.is in
    size-nodes _ _ _ (nodes-part g) (c.nodes_size.ensures c.args.names.now)
