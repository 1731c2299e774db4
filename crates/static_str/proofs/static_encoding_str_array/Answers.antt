use borrow.Author.Rules.{rules}
use native.Mathlib.Omega.{arith}
use Rattle.kinds.proofs.ListLaws.{whole}
use Rattle.sheet.proofs.GivenLaws.{given-refused, given-code, given-nodes, nodes-part}
use Rattle.static_str.proofs.AnswerLaws.{print-refused, print-code-held, print-held}
use Rattle.static_str.proofs.static_encoding_str_array.Goals as goal

pub print_code-requires : goal.print_code-requires
print_code-requires c =
    (given-code _ _ (rw (whole, whole) at c.check.ensures.gives) c.in-Ok-Code.is c.in-Ok-Code.field-0-is).code

pub offset_bounds-words-first : goal.offset_bounds-words-first
offset_bounds-words-first c =
    let h = (given-nodes _ _ (rw (whole, whole) at c.check.ensures.gives) c.in-Ok-Nodes.is c.in-Ok-Nodes.field-0-is) in omega (arith, h.starts)

pub slice_bounds-print_tree-count : goal.slice_bounds-print_tree-count
slice_bounds-print_tree-count c =
    let h = (given-nodes _ _ (rw (whole, whole) at c.check.ensures.gives) c.in-Ok-Nodes.is c.in-Ok-Nodes.field-0-is) in omega (arith, h.starts)

pub slice_bounds-print_tree-start : goal.slice_bounds-print_tree-start
slice_bounds-print_tree-start c =
    let h = (given-nodes _ _ (rw (whole, whole) at c.check.ensures.gives) c.in-Ok-Nodes.is c.in-Ok-Nodes.field-0-is) in omega (arith, h.starts)

pub print_tree-requires : goal.print_tree-requires
print_tree-requires c = let h = (nodes-part (given-nodes _ _ (rw (whole, whole) at c.check.ensures.gives) c.in-Ok-Nodes.is c.in-Ok-Nodes.field-0-is))
    in rw whole (record { trees_at = (h.whole, h.few); kinds_and_names = (h.short-names, h.lent-names) })

pub returns-in-Err : goal.returns-in-Err
returns-in-Err c = let p = print-refused c.args.words.now c.args.names.now c.args.out.now
    (given-refused _ _ (rw (whole, whole) at c.check.ensures.gives) c.in-Err.is) in let k = p.0 in record { answers = search rules; writes = p.1 }

pub returns-in-Ok-Code : goal.returns-in-Ok-Code
returns-in-Ok-Code c = let p = print-code-held c.args.words.now c.args.names.now c.args.out.now
    (given-code _ _ (rw (whole, whole) at c.check.ensures.gives) c.in-Ok-Code.is c.in-Ok-Code.field-0-is) c.print_code.ensures.answers c.print_code.ensures.writes in record { answers = p.0; writes = p.1 }

pub returns-in-Ok-Nodes : goal.returns-in-Ok-Nodes
returns-in-Ok-Nodes c = let h = (nodes-part (given-nodes _ _ (rw (whole, whole) at c.check.ensures.gives) c.in-Ok-Nodes.is c.in-Ok-Nodes.field-0-is)) in
    let q = rw whole at c.print_tree.ensures in let p = print-held c.args.words.now c.args.names.now c.args.out.now h.holds q.answers q.writes in record { answers = p.0; writes = p.1 }
