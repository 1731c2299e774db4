use borrow.Author.Rules.{rules}
use mathlib.Core.Path.{◌≡◌}
use Rattle.std.specs.Prelude.{None}
use Rattle.expect.proofs.TextLaws.{same_outcome, opening-off, opening-more}
use Rattle.expect.proofs.expect_opening.Goals as goal

pub returns-in_err-to : goal.returns-in_err-to
returns-in_err-to c =
    let q : c.from_residual.result ≡ None = search rules in
    rw q (let n = rw c.in_err-to.was at c.expect_byte.ensures in opening-off _ _ _ (rw c.opening_byte.ensures at n))

pub expect_u64-requires : goal.expect_u64-requires
expect_u64-requires c =
    let n = rw c.in_ok-to.was at c.expect_byte.ensures in n.1

pub returns : goal.returns
returns c =
    let n = rw c.in_ok-to.was at c.expect_byte.ensures in same_outcome _ c.expect_u64.result _ _
    (opening-more _ _ _ _ (rw c.opening_byte.ensures at n.0)) c.expect_u64.ensures
