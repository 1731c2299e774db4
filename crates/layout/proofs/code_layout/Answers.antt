use native.Mathlib.Omega.{arith}
use Rattle.std.proofs.lemmas.Bool.Decides.{nat_tests}
use mathlib.Core.List.{[]}
use mathlib.Core.Path.{ap, ◌∙◌}
use lib.ListN.{get_or}
use Rattle.kinds.specs.Primitive.{size_rows}
use Rattle.kinds.specs.Tree.{end, node, primitive}
use Rattle.helper.proofs.NodeSizeLaws.{table-row}
use Rattle.layout.proofs.AnswerLaws.{no-row-answer, short-answer, code-nothing, code-bytes, lone-count}
use Rattle.layout.proofs.ExtentLaws.{part-below}
use Rattle.layout.proofs.RoomLaws.{table-powers}
use Rattle.layout.proofs.code_layout.Goals as goal

pub returns-then-row-ge-ROWS : goal.returns-then-row-ge-ROWS
returns-then-row-ge-ROWS c = let a = c.args in let p = no-row-answer a.row (node (primitive a.kind) end end) a.offsets.now c.if-row-ge-ROWS.true in record { answers = p.0; fills = p.1 }

pub returns-then-is_empty : goal.returns-then-is_empty
returns-then-is_empty c = let a = c.args in let p = short-answer a.row (node (primitive a.kind) end end) a.offsets.now c.if-row-ge-ROWS.false (lone-count a.row a.kind (grind (arith, nat_tests))) in record { answers = p.0; fills = p.1 }

pub returns-then-bytes-eq0 : goal.returns-then-bytes-eq0
returns-then-bytes-eq0 c = let a = c.args in
    let h = c.if-row-ge-ROWS.false in let p = code-nothing a.row a.kind h c.requires (get_or size_rows a.row []) (table-row a.row h) c.from-bytes.ensures a.offsets.now (grind (arith, nat_tests))
    c.if-bytes-eq0.true in record { answers = p.0; fills = p.1 }

pub bounds-sizes-part_kind : goal.bounds-sizes-part_kind
bounds-sizes-part_kind c =
    part-below c.args.kind c.requires c.part_kind.ensures

pub returns : goal.returns
returns c = let a = c.args in
    let h = c.if-row-ge-ROWS.false in
    let sizes = get_or size_rows a.row [] in let p = code-bytes a.row a.kind h c.requires sizes (table-row a.row h) c.from-bytes.ensures a.offsets.now (grind (arith, nat_tests)) c.if-bytes-eq0.false
    (table-powers a.row h) (c.from-alignment.ensures ∙ ap (λ k. get_or sizes k 0) c.part_kind.ensures) in record { answers = p.0; fills = p.1 }
