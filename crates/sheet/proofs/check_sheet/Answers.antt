use borrow.Author.Rules.{rules}
use native.Mathlib.Omega.{arith}
use mathlib.Core.Path.{sym, ◌∙◌}
use Rattle.sheet.proofs.GivenLaws.{verdict-checked, good-room, good-code, good-nodes}
use Rattle.sheet.proofs.check_sheet.Goals as goal

pub bounds-words-4 : goal.bounds-words-4
bounds-words-4 c = let r = good-room _ _ (sym c.judged.ensures ∙ c.in_ok-judged.was) in omega arith

pub returns-then-kind-lt-PRIMITIVES : goal.returns-then-kind-lt-PRIMITIVES
returns-then-kind-lt-PRIMITIVES c = good-code _ _ (sym c.judged.ensures ∙ c.in_ok-judged.was) c.if-kind-lt-PRIMITIVES.true

pub bounds-words-0 : goal.bounds-words-0
bounds-words-0 c = let r = good-room _ _ (sym c.judged.ensures ∙ c.in_ok-judged.was) in omega arith

pub returns-in_err-judged : goal.returns-in_err-judged
returns-in_err-judged c = let k = verdict-checked _ _ (sym c.judged.ensures ∙ c.in_err-judged.was) in search rules

pub returns : goal.returns
returns c = good-nodes _ _ (sym c.judged.ensures ∙ c.in_ok-judged.was) c.if-kind-lt-PRIMITIVES.false
