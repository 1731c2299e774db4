use borrow.Author.Rules.{rules}
use mathlib.Core.Path.{◌≡◌}
use Rattle.std.specs.Prelude.{None}
use Rattle.expect.proofs.TextLaws.{same_outcome, then-mismatch, then-remaining}
use Rattle.expect.proofs.close_node.Goals as goal

pub expect_closing-requires : goal.expect_closing-requires
expect_closing-requires c =
    rw c.in_ok-to.was at c.requires

pub returns-in_err-to : goal.returns-in_err-to
returns-in_err-to c =
    let q : c.from_residual.result ≡ None = search rules in
    rw q (λ q h. then-mismatch q _ (rw c.in_err-to.was at h))

pub returns : goal.returns
returns c = λ q h. let n = rw c.in_ok-to.was at h in same_outcome _ c.expect_closing.result _ _ (then-remaining q _ _ n.0)
    c.expect_closing.ensures
