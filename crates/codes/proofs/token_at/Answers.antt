use mathlib.Core.List.{[]}
use mathlib.Core.Path.{◌≡◌, refl, sym, ap, ◌∙◌}
use native.Mathlib.Omega.{arith}
use Rattle.kinds.specs.Parse.{start, begin, leaf}
use Rattle.kinds.specs.Strict.{numbers_of}
use Rattle.codes.specs.Answer.{start_of, has_parts, digits_in, token_from}
use Rattle.codes.proofs.TokenLaws.{answer-kind, answer-refused, answer-array-end, answer-container-end, token_begins, token_end}
use Rattle.codes.proofs.CodeLaws.{indirection-parts}
use Rattle.codes.proofs.token_at.Goals as goal

pub returns-then-text-at : goal.returns-then-text-at
returns-then-text-at c = token_end _ _ c.if-text-at.true

pub returns-in-Single : goal.returns-in-Single
unfolding start_of token_from has_parts numbers_of begin leaf
returns-in-Single c = answer-kind _ _ (omega arith) _ _ _ _ c.kind.ensures refl ∙ sym (token_begins _ _ c.if-text-at.false (sym c.start-begun.ensures ∙ ap start_of c.in-Single.is))

pub returns-in-Complex : goal.returns-in-Complex
unfolding start_of token_from has_parts numbers_of begin
returns-in-Complex c = c.parse_complex.ensures ∙ sym (token_begins _ _ c.if-text-at.false (sym c.start-begun.ensures ∙ ap start_of c.in-Complex.is))

pub returns-in-Object : goal.returns-in-Object
unfolding start_of token_from has_parts numbers_of begin
returns-in-Object c = c.parse_object.ensures ∙ sym (token_begins _ _ c.if-text-at.false (sym c.start-begun.ensures ∙ ap start_of c.in-Object.is))

pub returns-in-Bits : goal.returns-in-Bits
unfolding start_of token_from has_parts numbers_of begin
returns-in-Bits c = c.parse_bits.ensures ∙ sym (token_begins _ _ c.if-text-at.false (sym c.start-begun.ensures ∙ ap start_of c.in-Bits.is))

pub returns-in-Indirection : goal.returns-in-Indirection
unfolding token_from
returns-in-Indirection c =
    sym (token_begins _ _ c.if-text-at.false (sym c.start-begun.ensures ∙ ap start_of c.in-Indirection.is) ∙ rw (indirection-parts c.in-Indirection.field-0) refl)

pub returns-in-OpenArray : goal.returns-in-OpenArray
unfolding start_of token_from has_parts
returns-in-OpenArray c = sym (token_begins _ _ c.if-text-at.false (sym c.start-begun.ensures ∙ ap start_of c.in-OpenArray.is))

pub returns-in-CloseArray : goal.returns-in-CloseArray
unfolding start_of token_from has_parts numbers_of begin
returns-in-CloseArray c =
    answer-array-end _ _ (omega arith) (digits_in []) ∙ sym (token_begins _ _ c.if-text-at.false (sym c.start-begun.ensures ∙ ap start_of c.in-CloseArray.is))

pub returns-in-OpenContainer : goal.returns-in-OpenContainer
unfolding start_of token_from has_parts
returns-in-OpenContainer c = sym (token_begins _ _ c.if-text-at.false (sym c.start-begun.ensures ∙ ap start_of c.in-OpenContainer.is))

pub returns-in-CloseContainer : goal.returns-in-CloseContainer
unfolding start_of token_from has_parts numbers_of begin
returns-in-CloseContainer c =
    answer-container-end _ _ (omega arith) (digits_in []) _ ∙ sym (token_begins _ _ c.if-text-at.false (sym c.start-begun.ensures ∙ ap start_of c.in-CloseContainer.is))

pub returns-in-Nothing : goal.returns-in-Nothing
unfolding start_of token_from has_parts numbers_of begin
returns-in-Nothing c =
    c.refused.ensures ∙ answer-refused _ _ (omega arith) _ _ _ refl ∙ sym (token_begins _ _ c.if-text-at.false (sym c.start-begun.ensures ∙ ap start_of c.in-Nothing.is))
