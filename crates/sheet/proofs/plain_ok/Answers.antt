use native.Mathlib.Omega.{arith}
use mathlib.Core.Path.{sym, ◌∙◌}
use Rattle.kinds.proofs.KindLaws.{indirection-range}
use Rattle.sheet.specs.Walked.{node_fits}
use Rattle.sheet.proofs.WalkLaws.{node-code, node-indirection}
use Rattle.sheet.proofs.plain_ok.Goals as goal

pub returns-then-no_numbers : goal.returns-then-no_numbers
returns-then-no_numbers c =
    λ p e. sym (node-code _ _ _ p e c.requires.1 c.if-kind-lt-PRIMITIVES.true ∙ rw (sym c.no_numbers.ensures ∙ c.if-no_numbers.true))

pub returns-else-no_numbers : goal.returns-else-no_numbers
returns-else-no_numbers c =
    λ p e. c.if-no_numbers.false ∙ sym (node-code _ _ _ p e c.requires.1 c.if-kind-lt-PRIMITIVES.true ∙ rw (sym c.no_numbers.ensures ∙ c.if-no_numbers.false))

pub returns-then-no_numbers-2 : goal.returns-then-no_numbers-2
returns-then-no_numbers-2 c =
    λ p e. let k = indirection-range _ (sym c.is_indirection.ensures ∙ c.if-is_indirection.true) in
    sym (node-indirection _ _ _ p e k.0 k.1 ∙ rw (sym c.no_numbers-then-is_indirection.ensures ∙ c.if-no_numbers-2.true) (sym (c.child_ok.ensures _ (omega arith) (omega arith))))

pub returns-else-no_numbers-2 : goal.returns-else-no_numbers-2
returns-else-no_numbers-2 c =
    λ p e. let k = indirection-range _ (sym c.is_indirection.ensures ∙ c.if-is_indirection.true) in
    c.if-no_numbers-2.false ∙ sym (node-indirection _ _ _ p e k.0 k.1 ∙ rw (sym c.no_numbers-then-is_indirection.ensures ∙ c.if-no_numbers-2.false))

pub returns-then-numbers_ok : goal.returns-then-numbers_ok
unfolding node_fits
returns-then-numbers_ok c = λ p e. rw (sym (c.numbers_ok.ensures p e) ∙ c.if-numbers_ok.true) c.arity_ok.ensures

pub returns-else-numbers_ok : goal.returns-else-numbers_ok
unfolding node_fits
returns-else-numbers_ok c = λ p e. c.if-numbers_ok.false ∙ rw (sym (c.numbers_ok.ensures p e) ∙ c.if-numbers_ok.false)
