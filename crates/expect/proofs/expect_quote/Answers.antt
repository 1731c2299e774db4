use Rattle.std.proofs.Common.{◌∙◌, arith}
use Rattle.kinds.specs.Expect.{expect_quote}
use Rattle.parser.proofs.RunLaws.{quoted-run}
use Rattle.expect.proofs.TextLaws.{quote-more, quote-stop, quote-end}
use Rattle.expect.proofs.expect_quote.Goals as goal

pub returns-then-end-text : goal.returns-then-end-text
returns-then-end-text c =
    let q = quoted-run expect_quote _ _ _ (quote-more _) c.requires c.quote_end-end.ensures in
    (q.passed ∙ quote-stop _ _ c.if-end-text.true (q.stopped c.if-end-text.true), omega arith)

pub returns : goal.returns
returns c =
    let q = quoted-run expect_quote _ _ _ (quote-more _) c.requires c.quote_end-end.ensures in
    q.passed ∙ quote-end _ _ c.if-end-text.false
