use borrow.Author.Rules.{rules}
use native.Mathlib.Omega.{arith}
use Rattle.kinds.proofs.ListLaws.{whole}
use Rattle.sheet.proofs.GivenLaws.{given-refused, given-code, given-nodes, nodes-part}
use Rattle.static_str.proofs.AnswerLaws.{len-refused, len-code, len-nodes}
use Rattle.static_str.proofs.static_encoding_str_len.Goals as goal

pub code_len-requires : goal.code_len-requires
code_len-requires c =
    (given-code _ _ (rw (whole, whole) at c.check.ensures.gives) c.in-Ok-Code.is c.in-Ok-Code.field-0-is).code

pub offset_bounds-words-first : goal.offset_bounds-words-first
offset_bounds-words-first c =
    let h = (given-nodes _ _ (rw (whole, whole) at c.check.ensures.gives) c.in-Ok-Nodes.is c.in-Ok-Nodes.field-0-is) in omega (arith, h.starts)

pub slice_bounds-trees_len-count : goal.slice_bounds-trees_len-count
slice_bounds-trees_len-count c =
    let h = (given-nodes _ _ (rw (whole, whole) at c.check.ensures.gives) c.in-Ok-Nodes.is c.in-Ok-Nodes.field-0-is) in omega (arith, h.starts)

pub slice_bounds-trees_len-start : goal.slice_bounds-trees_len-start
slice_bounds-trees_len-start c =
    let h = (given-nodes _ _ (rw (whole, whole) at c.check.ensures.gives) c.in-Ok-Nodes.is c.in-Ok-Nodes.field-0-is) in omega (arith, h.starts)

pub trees_len-requires : goal.trees_len-requires
trees_len-requires c = let h = (nodes-part (given-nodes _ _ (rw (whole, whole) at c.check.ensures.gives) c.in-Ok-Nodes.is c.in-Ok-Nodes.field-0-is)) in record { trees_at = (h.whole, h.few); kinds_and_names = h.short-names }

pub returns-in-Err : goal.returns-in-Err
returns-in-Err c =
    let k = len-refused c.args.words.now c.args.names.now (given-refused _ _ (rw (whole, whole) at c.check.ensures.gives) c.in-Err.is) in search rules

pub returns-in-Ok-Code : goal.returns-in-Ok-Code
returns-in-Ok-Code c =
    len-code c.args.words.now c.args.names.now (given-code _ _ (rw (whole, whole) at c.check.ensures.gives) c.in-Ok-Code.is c.in-Ok-Code.field-0-is)
    c.code_len.ensures.0

pub returns-in-Ok-Nodes : goal.returns-in-Ok-Nodes
returns-in-Ok-Nodes c =
    len-nodes c.args.words.now c.args.names.now _ _
    (nodes-part (given-nodes _ _ (rw (whole, whole) at c.check.ensures.gives) c.in-Ok-Nodes.is c.in-Ok-Nodes.field-0-is)) c.new.ensures c.trees_len.ensures.0
