use borrow.Author.Rules.{rules}
use mathlib.Core.Path.{◌≡◌}
use Rattle.std.specs.Prelude.{None}
use native.Mathlib.Omega.{arith}
use borrow.Author.Tests.{le-leb, lt-leb}
use Rattle.expect.proofs.TextLaws.{same_outcome, then-mismatch, then-remaining}
use Rattle.expect.proofs.expect_leaf.Goals as goal

pub returns-then-kind-lt-PRIMITIVES : goal.returns-then-kind-lt-PRIMITIVES
returns-then-kind-lt-PRIMITIVES c =
    same_outcome _ c.expect_primitive.result _ _ (rw (le-leb c.args.kind 23 (omega (arith, c.if-kind-lt-PRIMITIVES.true)))) c.expect_primitive.ensures

pub returns-in_err-to : goal.returns-in_err-to
returns-in_err-to c =
    let q : c.from_residual.result ≡ None = search rules in
    rw q (let n = rw c.in_err-to.was at c.expect_byte.ensures in rw (lt-leb c.args.kind 23 (omega (arith, c.if-kind-lt-PRIMITIVES.false))) (then-mismatch _ _ n))

pub expect_u8-requires : goal.expect_u8-requires
expect_u8-requires c =
    let n = rw c.in_ok-to.was at c.expect_byte.ensures in n.1

pub returns : goal.returns
returns c =
    let n = rw c.in_ok-to.was at c.expect_byte.ensures in same_outcome _ c.expect_u8.result _ _
    (rw (lt-leb c.args.kind 23 (omega (arith, c.if-kind-lt-PRIMITIVES.false))) (then-remaining _ _ _ n.0)) c.expect_u8.ensures
