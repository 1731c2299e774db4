use Rattle.std.proofs.Common.{◌∙◌, arith}
use Rattle.kinds.specs.Parse.{parse_quoted}
use Rattle.parser.proofs.RunLaws.{quoted-run}
use Rattle.codes.proofs.TokenLaws.{answer-kind, answer-refused, quoted-more, quoted-stop, quoted-end}
use Rattle.codes.proofs.parse_quoted.Goals as goal

pub returns-then-end-text : goal.returns-then-end-text
returns-then-end-text c =
    let q = quoted-run parse_quoted _ _ _ (quoted-more _) c.requires c.quote_end-end.ensures in
    answer-kind _ _ (omega arith) _ _ _ _ c.kind.ensures (q.passed ∙ quoted-stop _ _ c.if-end-text.true (q.stopped c.if-end-text.true))

pub returns : goal.returns
returns c =
    let q = quoted-run parse_quoted _ _ _ (quoted-more _) c.requires c.quote_end-end.ensures in
    c.refused.ensures ∙ answer-refused _ _ q.within _ _ _ (q.passed ∙ quoted-end _ _ c.if-end-text.false)
