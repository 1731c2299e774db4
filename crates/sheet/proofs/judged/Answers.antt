use native.Mathlib.Omega.{arith}
use mathlib.Core.Path.{sym, ◌∙◌}
use Rattle.kinds.specs.Sheet.{header_words}
use Rattle.kinds.proofs.ListLaws.{part-rest, whole}
use Rattle.kinds.proofs.SheetLaws.{header-says}
use Rattle.sheet.proofs.AnswerLaws.{verdict-header, verdict-count, part_room, verdict-pass}
use Rattle.sheet.proofs.judged.Goals as goal

pub returns-then-not-header_ok : goal.returns-then-not-header_ok
returns-then-not-header_ok c = sym (verdict-header _ _ (sym c.header_ok.ensures ∙ c.if-not-header_ok.true))

pub bounds-words-0 : goal.bounds-words-0
bounds-words-0 c = let h = header-says _ _ (sym c.header_ok.ensures ∙ c.if-not-header_ok.false) in omega arith

pub bounds-words : goal.bounds-words
bounds-words c = let h = header-says _ _ (sym c.header_ok.ensures ∙ c.if-not-header_ok.false) in omega arith

pub returns-then-words-nodes : goal.returns-then-words-nodes
returns-then-words-nodes c =
    sym (verdict-count _ _ (sym c.header_ok.ensures ∙ c.if-not-header_ok.false) c.if-words-nodes.true)

pub bounds-words-2 : goal.bounds-words-2
bounds-words-2 c =
    let h = header-says _ _ (sym c.header_ok.ensures ∙ c.if-not-header_ok.false) in omega arith

pub slice_bounds-check_nodes-count : goal.slice_bounds-check_nodes-count
slice_bounds-check_nodes-count c =
    let h = header-says _ _ (sym c.header_ok.ensures ∙ c.if-not-header_ok.false) in omega arith

pub slice_bounds-check_nodes-start : goal.slice_bounds-check_nodes-start
slice_bounds-check_nodes-start c =
    let h = header-says _ _ (sym c.header_ok.ensures ∙ c.if-not-header_ok.false) in omega arith

pub check_nodes-pass-requires : goal.check_nodes-pass-requires
check_nodes-pass-requires c =
    let a = c.args in
    let p = sym c.header_ok.ensures ∙ c.if-not-header_ok.false in
    let h = header-says _ _ p in
    (part_room _ a.names.now p _ (part-rest a.words.now header_words), omega arith, rw whole h.bytes)

pub returns : goal.returns
returns c =
    let p = sym c.header_ok.ensures ∙ c.if-not-header_ok.false in
    c.answer_of.ensures
    ∙ verdict-pass _ _ p _ (part-rest c.args.words.now header_words)
    c.if-words-nodes.false _ (rw whole at c.check_nodes-pass.ensures)
