use borrow.Author.Rules.{rules}
use native.Mathlib.Omega.{arith}
use Rattle.kinds.proofs.ListLaws.{whole}
use Rattle.sheet.proofs.GivenLaws.{given-refused-both, given-codes, given-nodes-both, nodes-part}
use Rattle.reason.proofs.ReasonLaws.{checks-give, rooted, write-refused, write-codes, write-nodes}
use Rattle.reason.proofs.reason.Goals as goal

pub offset_bounds-aw-f : goal.offset_bounds-aw-f
offset_bounds-aw-f c =
    let a = c.args in
    let g = given-nodes-both a.aw.now a.an.now a.bw.now a.bn.now
    (checks-give a.aw.now a.an.now a.bw.now a.bn.now c.both_of.ensures c.check.ensures.answers c.check-2.ensures.answers) c.in_ok-found.was c.in-Nodes.is in
    let s = g.0.starts in
    omega arith

pub slice_bounds-write_nodes-count : goal.slice_bounds-write_nodes-count
slice_bounds-write_nodes-count c =
    let a = c.args in
    let g = given-nodes-both a.aw.now a.an.now a.bw.now a.bn.now
    (checks-give a.aw.now a.an.now a.bw.now a.bn.now c.both_of.ensures c.check.ensures.answers c.check-2.ensures.answers) c.in_ok-found.was c.in-Nodes.is in
    let s = g.0.starts in
    omega arith

pub slice_bounds-write_nodes-start : goal.slice_bounds-write_nodes-start
slice_bounds-write_nodes-start c =
    let a = c.args in
    let g = given-nodes-both a.aw.now a.an.now a.bw.now a.bn.now
    (checks-give a.aw.now a.an.now a.bw.now a.bn.now c.both_of.ensures c.check.ensures.answers c.check-2.ensures.answers) c.in_ok-found.was c.in-Nodes.is in
    let s = g.0.starts in
    omega arith

pub offset_bounds-bw-g : goal.offset_bounds-bw-g
offset_bounds-bw-g c =
    let a = c.args in
    let g = given-nodes-both a.aw.now a.an.now a.bw.now a.bn.now
    (checks-give a.aw.now a.an.now a.bw.now a.bn.now c.both_of.ensures c.check.ensures.answers c.check-2.ensures.answers) c.in_ok-found.was c.in-Nodes.is in
    let s = g.1.starts in
    omega arith

pub slice_bounds-write_nodes-count-in-Nodes-2 : goal.slice_bounds-write_nodes-count-in-Nodes-2
slice_bounds-write_nodes-count-in-Nodes-2 c =
    let a = c.args in
    let g = given-nodes-both a.aw.now a.an.now a.bw.now a.bn.now
    (checks-give a.aw.now a.an.now a.bw.now a.bn.now c.both_of.ensures c.check.ensures.answers c.check-2.ensures.answers) c.in_ok-found.was c.in-Nodes.is in
    let s = g.1.starts in
    omega arith

pub slice_bounds-write_nodes-start-in-Nodes-2 : goal.slice_bounds-write_nodes-start-in-Nodes-2
slice_bounds-write_nodes-start-in-Nodes-2 c =
    let a = c.args in
    let g = given-nodes-both a.aw.now a.an.now a.bw.now a.bn.now
    (checks-give a.aw.now a.an.now a.bw.now a.bn.now c.both_of.ensures c.check.ensures.answers c.check-2.ensures.answers) c.in_ok-found.was c.in-Nodes.is in
    let s = g.1.starts in
    omega arith

pub write_nodes-requires : goal.write_nodes-requires
write_nodes-requires c =
    let a = c.args in
    let g = given-nodes-both a.aw.now a.an.now a.bw.now a.bn.now
    (checks-give a.aw.now a.an.now a.bw.now a.bn.now c.both_of.ensures c.check.ensures.answers c.check-2.ensures.answers) c.in_ok-found.was c.in-Nodes.is in
    rw (whole, whole) (rooted (nodes-part g.0), rooted (nodes-part g.1))

pub returns-in_err-found : goal.returns-in_err-found
returns-in_err-found c = let a = c.args in let p = write-refused a.all a.aw.now a.an.now a.bw.now a.bn.now a.out.now (given-refused-both a.aw.now a.an.now a.bw.now a.bn.now
    (checks-give a.aw.now a.an.now a.bw.now a.bn.now c.both_of.ensures c.check.ensures.answers c.check-2.ensures.answers) c.in_err-found.was) in
    let k = p.0 in
    record { answers = search rules; writes = p.1 }

pub returns-in-Codes : goal.returns-in-Codes
returns-in-Codes c = let a = c.args in
    let g = given-codes a.aw.now a.an.now a.bw.now a.bn.now
    (checks-give a.aw.now a.an.now a.bw.now a.bn.now c.both_of.ensures c.check.ensures.answers c.check-2.ensures.answers) c.in_ok-found.was c.in-Codes.is in
    let e = c.write_codes.ensures in let p = write-codes a.all _ _ _ _ a.out.now g (e.answers a.all) (e.writes a.all) in record { answers = p.0; writes = p.1 }

pub returns-in-Nodes : goal.returns-in-Nodes
returns-in-Nodes c = let a = c.args in
    let g = given-nodes-both a.aw.now a.an.now a.bw.now a.bn.now
    (checks-give a.aw.now a.an.now a.bw.now a.bn.now c.both_of.ensures c.check.ensures.answers c.check-2.ensures.answers) c.in_ok-found.was c.in-Nodes.is in
    let e = c.write_nodes.ensures in let p = write-nodes a.all _ _ _ _ a.out.now (nodes-part g.0) (nodes-part g.1) (rw (whole, whole) at e.answers) (rw (whole, whole) at e.writes) in record { answers = p.0; writes = p.1 }
