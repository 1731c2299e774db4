use borrow.Author.Rules.{rules}
use native.Mathlib.Omega.{arith}
use Rattle.kinds.proofs.ListLaws.{whole}
use Rattle.sheet.proofs.GivenLaws.{given-refused-both, given-codes, given-nodes-both, nodes-part}
use Rattle.reason.proofs.ReasonLaws.{checks-give, rooted, len-refused, len-codes, len-nodes}
use Rattle.reason.proofs.sheets_len.Goals as goal

pub offset_bounds-aw-f : goal.offset_bounds-aw-f
offset_bounds-aw-f c =
    let a = c.args in
    let g = given-nodes-both a.aw.now a.an.now a.bw.now a.bn.now
    (checks-give a.aw.now a.an.now a.bw.now a.bn.now c.both_of.ensures c.check.ensures.answers c.check-2.ensures.answers) c.in_ok-found.was c.in-Nodes.is in
    let s = g.0.starts in
    omega arith

pub slice_bounds-nodes_len-count : goal.slice_bounds-nodes_len-count
slice_bounds-nodes_len-count c =
    let a = c.args in
    let g = given-nodes-both a.aw.now a.an.now a.bw.now a.bn.now
    (checks-give a.aw.now a.an.now a.bw.now a.bn.now c.both_of.ensures c.check.ensures.answers c.check-2.ensures.answers) c.in_ok-found.was c.in-Nodes.is in
    let s = g.0.starts in
    omega arith

pub slice_bounds-nodes_len-start : goal.slice_bounds-nodes_len-start
slice_bounds-nodes_len-start c =
    let a = c.args in
    let g = given-nodes-both a.aw.now a.an.now a.bw.now a.bn.now
    (checks-give a.aw.now a.an.now a.bw.now a.bn.now c.both_of.ensures c.check.ensures.answers c.check-2.ensures.answers) c.in_ok-found.was c.in-Nodes.is in
    let s = g.0.starts in
    omega arith

pub offset_bounds-bw-g : goal.offset_bounds-bw-g
offset_bounds-bw-g c =
    let a = c.args in
    let g = given-nodes-both a.aw.now a.an.now a.bw.now a.bn.now
    (checks-give a.aw.now a.an.now a.bw.now a.bn.now c.both_of.ensures c.check.ensures.answers c.check-2.ensures.answers) c.in_ok-found.was c.in-Nodes.is in
    let s = g.1.starts in
    omega arith

pub slice_bounds-nodes_len-count-in-Nodes-2 : goal.slice_bounds-nodes_len-count-in-Nodes-2
slice_bounds-nodes_len-count-in-Nodes-2 c =
    let a = c.args in
    let g = given-nodes-both a.aw.now a.an.now a.bw.now a.bn.now
    (checks-give a.aw.now a.an.now a.bw.now a.bn.now c.both_of.ensures c.check.ensures.answers c.check-2.ensures.answers) c.in_ok-found.was c.in-Nodes.is in
    let s = g.1.starts in
    omega arith

pub slice_bounds-nodes_len-start-in-Nodes-2 : goal.slice_bounds-nodes_len-start-in-Nodes-2
slice_bounds-nodes_len-start-in-Nodes-2 c =
    let a = c.args in
    let g = given-nodes-both a.aw.now a.an.now a.bw.now a.bn.now
    (checks-give a.aw.now a.an.now a.bw.now a.bn.now c.both_of.ensures c.check.ensures.answers c.check-2.ensures.answers) c.in_ok-found.was c.in-Nodes.is in
    let s = g.1.starts in
    omega arith

pub nodes_len-requires : goal.nodes_len-requires
nodes_len-requires c =
    let a = c.args in
    let g = given-nodes-both a.aw.now a.an.now a.bw.now a.bn.now
    (checks-give a.aw.now a.an.now a.bw.now a.bn.now c.both_of.ensures c.check.ensures.answers c.check-2.ensures.answers) c.in_ok-found.was c.in-Nodes.is in
    rw (whole, whole) (rooted (nodes-part g.0), rooted (nodes-part g.1))

pub returns-in_err-found : goal.returns-in_err-found
returns-in_err-found c =
    let a = c.args in
    let k = len-refused a.all a.aw.now a.an.now a.bw.now a.bn.now (given-refused-both a.aw.now a.an.now a.bw.now a.bn.now
    (checks-give a.aw.now a.an.now a.bw.now a.bn.now c.both_of.ensures c.check.ensures.answers c.check-2.ensures.answers) c.in_err-found.was) in
    search rules

pub returns-in-Codes : goal.returns-in-Codes
returns-in-Codes c =
    let a = c.args in
    let g = given-codes a.aw.now a.an.now a.bw.now a.bn.now
    (checks-give a.aw.now a.an.now a.bw.now a.bn.now c.both_of.ensures c.check.ensures.answers c.check-2.ensures.answers) c.in_ok-found.was c.in-Codes.is in
    len-codes a.all _ _ _ _ g (c.codes_len.ensures a.all)

pub returns-in-Nodes : goal.returns-in-Nodes
returns-in-Nodes c =
    let a = c.args in
    let g = given-nodes-both a.aw.now a.an.now a.bw.now a.bn.now
    (checks-give a.aw.now a.an.now a.bw.now a.bn.now c.both_of.ensures c.check.ensures.answers c.check-2.ensures.answers) c.in_ok-found.was c.in-Nodes.is in
    len-nodes a.all _ _ _ _ (nodes-part g.0) (nodes-part g.1) (rw (whole, whole) at c.nodes_len.ensures)
