use borrow.Author.Rules.{rules}
use mathlib.Core.Path.{sym, ap, ◌∙◌}
use Rattle.codes.specs.Answer.{token_of}
use native.Mathlib.Omega.{arith}
use Rattle.codes.proofs.TokenLaws.{object-end, object-block, object-quoted, object-bare, answer-kind}
use Rattle.codes.proofs.parse_object.Goals as goal

pub returns-then-text-at : goal.returns-then-text-at
returns-then-text-at c = answer-kind _ _ (search rules) _ _ _ _ c.kind.ensures (object-end _ _ c.if-text-at.true)

pub returns-in-63 : goal.returns-in-63
returns-in-63 c =
    answer-kind _ _ (omega arith) _ _ _ _ c.kind-in-63.ensures (object-block _ _ c.if-text-at.false c.in-63.is)

pub returns-in-34 : goal.returns-in-34
returns-in-34 c =
    c.parse_quoted.ensures ∙ ap (token_of _ _) (sym (object-quoted _ _ c.if-text-at.false c.in-34.is))

pub returns-in_default : goal.returns-in_default
returns-in_default c =
    answer-kind _ _ (omega arith) _ _ _ _ c.kind-in_default.ensures (object-bare _ _ c.if-text-at.false c.in_default.in_default-own.rest.0.1 c.in_default.in_default-own.rest.1)
