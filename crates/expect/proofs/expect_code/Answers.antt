use borrow.Author.Rules.{rules}
use mathlib.Core.Path.{◌≡◌}
use Rattle.std.specs.Prelude.{None}
use lib.ListN.{drop}
use mathlib.Core.Path.{ap, ◌∙◌}
use Rattle.kinds.specs.Expect.{expect_bytes}
use Rattle.kinds.specs.Primitive.{code_bytes}
use Rattle.kinds.specs.declared.Code.{Code}
use Rattle.expect.proofs.TextLaws.{code-none, same_outcome, code_one, code_off, code-two}
use Rattle.expect.proofs.expect_code.Goals as goal

pub returns-in-Empty : goal.returns-in-Empty
returns-in-Empty c =
    (ap (λ (k : Code). expect_bytes (code_bytes k) (drop c.args.at c.args.text.now)) c.in-Empty.is ∙ code-none _, c.requires)

pub returns-in-One : goal.returns-in-One
returns-in-One c =
    same_outcome _ c.expect_byte.result _ _ (ap (λ (k : Code). expect_bytes (code_bytes k) (drop c.args.at c.args.text.now)) c.in-One.is
    ∙ code_one _ _) c.expect_byte.ensures

pub returns-in_err-to-in-Two : goal.returns-in_err-to-in-Two
returns-in_err-to-in-Two c =
    let q : c.from_residual.result ≡ None = search rules in
    rw q (let n = rw c.in_err-to-in-Two.was at c.expect_byte-in-Two.ensures in ap
    (λ (k : Code). expect_bytes (code_bytes k) (drop c.args.at c.args.text.now)) c.in-Two.is ∙ code_off _ _ _ n)

pub returns-in_ok-to-in-Two : goal.returns-in_ok-to-in-Two
returns-in_ok-to-in-Two c =
    let n = rw c.in_ok-to-in-Two.was at c.expect_byte-in-Two.ensures in same_outcome _ c.expect_byte-in-Two-2.result _ _
    (ap (λ (k : Code). expect_bytes (code_bytes k) (drop c.args.at c.args.text.now)) c.in-Two.is ∙ code-two _ _ _ _ n.0)
    c.expect_byte-in-Two-2.ensures
