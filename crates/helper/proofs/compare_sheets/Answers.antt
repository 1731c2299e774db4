use borrow.Author.Rules.{rules}
use native.Mathlib.Omega.{arith}
use Rattle.kinds.proofs.ListLaws.{whole}
use Rattle.sheet.proofs.GivenLaws.{given-refused-both, given-codes, given-nodes-both, nodes-part}
use Rattle.helper.proofs.AnswerLaws.{compare-refused, compare-codes, compare-nodes}
use Rattle.helper.proofs.compare_sheets.Goals as goal

pub offset_bounds-aw-f : goal.offset_bounds-aw-f
offset_bounds-aw-f c =
    let a = c.args in
    let g = given-nodes-both a.aw.now a.an.now a.bw.now a.bn.now c.check_both.ensures.gives c.in_ok-found.was c.in-Nodes.is in
    let s = g.0.starts in
    omega arith

pub slice_bounds-compare_fields-count : goal.slice_bounds-compare_fields-count
slice_bounds-compare_fields-count c =
    let a = c.args in
    let g = given-nodes-both a.aw.now a.an.now a.bw.now a.bn.now c.check_both.ensures.gives c.in_ok-found.was c.in-Nodes.is in
    let s = g.0.starts in
    omega arith

pub slice_bounds-compare_fields-start : goal.slice_bounds-compare_fields-start
slice_bounds-compare_fields-start c =
    let a = c.args in
    let g = given-nodes-both a.aw.now a.an.now a.bw.now a.bn.now c.check_both.ensures.gives c.in_ok-found.was c.in-Nodes.is in
    let s = g.0.starts in
    omega arith

pub offset_bounds-bw-g : goal.offset_bounds-bw-g
offset_bounds-bw-g c =
    let a = c.args in
    let g = given-nodes-both a.aw.now a.an.now a.bw.now a.bn.now c.check_both.ensures.gives c.in_ok-found.was c.in-Nodes.is in
    let s = g.1.starts in
    omega arith

pub slice_bounds-compare_fields-count-in-Nodes-2 : goal.slice_bounds-compare_fields-count-in-Nodes-2
slice_bounds-compare_fields-count-in-Nodes-2 c =
    let a = c.args in
    let g = given-nodes-both a.aw.now a.an.now a.bw.now a.bn.now c.check_both.ensures.gives c.in_ok-found.was c.in-Nodes.is in
    let s = g.1.starts in
    omega arith

pub slice_bounds-compare_fields-start-in-Nodes-2 : goal.slice_bounds-compare_fields-start-in-Nodes-2
slice_bounds-compare_fields-start-in-Nodes-2 c =
    let a = c.args in
    let g = given-nodes-both a.aw.now a.an.now a.bw.now a.bn.now c.check_both.ensures.gives c.in_ok-found.was c.in-Nodes.is in
    let s = g.1.starts in
    omega arith

pub compare_fields-same-requires : goal.compare_fields-same-requires
compare_fields-same-requires c = let a = c.args in
    let g = given-nodes-both a.aw.now a.an.now a.bw.now a.bn.now c.check_both.ensures.gives c.in_ok-found.was c.in-Nodes.is in
    let v = nodes-part g.0 in
    let u = nodes-part g.1 in
    rw (whole, whole) (record { trees_at = (v.whole, u.whole); kinds_and_names = (v.lent-names, u.lent-names) })

pub returns-in_err-found : goal.returns-in_err-found
returns-in_err-found c =
    let a = c.args in
    let k = compare-refused a.all _ _ _ _ (given-refused-both a.aw.now a.an.now a.bw.now a.bn.now c.check_both.ensures.gives c.in_err-found.was) in
    search rules

pub returns-in-Codes : goal.returns-in-Codes
returns-in-Codes c =
    let a = c.args in
    let g = given-codes a.aw.now a.an.now a.bw.now a.bn.now c.check_both.ensures.gives c.in_ok-found.was c.in-Codes.is in
    compare-codes a.all _ _ _ _ g c.equivalent_kinds.ensures

pub returns-in-Nodes : goal.returns-in-Nodes
returns-in-Nodes c =
    let a = c.args in
    let g = given-nodes-both a.aw.now a.an.now a.bw.now a.bn.now c.check_both.ensures.gives
    c.in_ok-found.was c.in-Nodes.is in
    compare-nodes a.all _ _ _ _ (nodes-part g.0) (nodes-part g.1) c.new-top.ensures (rw (whole, whole) at c.compare_fields-same.ensures)
