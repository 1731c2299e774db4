use borrow.Author.Rules.{rules}
use native.Mathlib.Omega.{arith}
use Rattle.kinds.proofs.ListLaws.{whole}
use Rattle.sheet.proofs.GivenLaws.{given-refused, given-code, given-nodes, nodes-part}
use Rattle.expect.proofs.AnswerLaws.{too_long, compared-refused, compared-code, compared-nodes}
use Rattle.expect.proofs.equivalent_to_str.Goals as goal

pub returns-then-text-gt-MAX_TEXT : goal.returns-then-text-gt-MAX_TEXT
returns-then-text-gt-MAX_TEXT c =
    too_long c.args.words.now c.args.names.now c.args.text.now c.if-text-gt-MAX_TEXT.true

pub offset_bounds-words-first : goal.offset_bounds-words-first
offset_bounds-words-first c =
    let h = (given-nodes _ _ (rw (whole, whole) at c.check.ensures.gives) c.in_ok-found.was c.in-Nodes.is) in omega (arith, h.starts)

pub slice_bounds-tree_matches-count : goal.slice_bounds-tree_matches-count
slice_bounds-tree_matches-count c =
    let h = (given-nodes _ _ (rw (whole, whole) at c.check.ensures.gives) c.in_ok-found.was c.in-Nodes.is) in omega (arith, h.starts)

pub slice_bounds-tree_matches-start : goal.slice_bounds-tree_matches-start
slice_bounds-tree_matches-start c =
    let h = (given-nodes _ _ (rw (whole, whole) at c.check.ensures.gives) c.in_ok-found.was c.in-Nodes.is) in omega (arith, h.starts)

pub tree_matches-requires : goal.tree_matches-requires
tree_matches-requires c =
    let h = (nodes-part (given-nodes _ _ (rw (whole, whole) at c.check.ensures.gives) c.in_ok-found.was c.in-Nodes.is)) in rw whole (h.whole, h.lent-names)

pub returns-in_err-found : goal.returns-in_err-found
returns-in_err-found c =
    let k = compared-refused c.args.words.now c.args.names.now c.args.text.now c.if-text-gt-MAX_TEXT.false
    (given-refused _ _ (rw (whole, whole) at c.check.ensures.gives) c.in_err-found.was) in
    search rules

pub returns-in-Code : goal.returns-in-Code
returns-in-Code c =
    compared-code c.args.words.now c.args.names.now c.args.text.now c.if-text-gt-MAX_TEXT.false
    (given-code _ _ (rw (whole, whole) at c.check.ensures.gives) c.in_ok-found.was c.in-Code.is) (rw whole at c.code_matches.ensures)

pub returns-in-Nodes : goal.returns-in-Nodes
returns-in-Nodes c =
    compared-nodes c.args.words.now c.args.names.now c.args.text.now c.if-text-gt-MAX_TEXT.false _ _
    (nodes-part (given-nodes _ _ (rw (whole, whole) at c.check.ensures.gives) c.in_ok-found.was c.in-Nodes.is)) (rw (whole, whole) at c.tree_matches.ensures)
