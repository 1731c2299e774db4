use borrow.Author.Rules.{rules}
use mathlib.Core.Path.{◌≡◌}
use Rattle.std.specs.Prelude.{None}
use lib.ListN.{drop}
use mathlib.Core.Path.{sym, ap, ◌∙◌}
use Prim.Native.Nat.{ℕ}
use mathlib.Core.List.{List}
use Rattle.kinds.specs.Expect.{expect_bytes}
use Rattle.expect.proofs.TextLaws.{same_outcome, primitive-alone, primitive-off, primitive-object, primitive-other}
use Rattle.expect.proofs.expect_primitive.Goals as goal

pub returns-then-not-is_object : goal.returns-then-not-is_object
returns-then-not-is_object c =
    same_outcome _ c.expect_code.result _ _ (primitive-alone _ _ (sym c.is_object.ensures ∙ c.if-not-is_object.true)
    ∙ ap (λ (b : List ℕ). expect_bytes b (drop c.args.at c.args.text.now)) (sym c.primitive_code.ensures)) c.expect_code.ensures

pub returns-in_err-to : goal.returns-in_err-to
returns-in_err-to c =
    let q : c.from_residual.result ≡ None = search rules in
    rw q (let n = rw c.in_err-to.was at c.expect_object.ensures in primitive-off _ _ (sym c.is_object.ensures ∙ c.if-not-is_object.false) n)

pub class_name-requires : goal.class_name-requires
class_name-requires c =
    let n = rw c.in_ok-to.was at c.expect_object.ensures in n.1

pub returns-then-kind-eq19 : goal.returns-then-kind-eq19
returns-then-kind-eq19 c =
    let n = rw c.in_ok-to.was at c.expect_object.ensures in same_outcome _ c.class_name.result _ _
    (primitive-object _ _ (sym c.is_object.ensures ∙ c.if-not-is_object.false) _ n.0 c.if-kind-eq19.true) c.class_name.ensures

pub returns : goal.returns
returns c =
    let n = rw c.in_ok-to.was at c.expect_object.ensures
    in (primitive-other _ _ (sym c.is_object.ensures ∙ c.if-not-is_object.false) _ n.0 c.if-kind-eq19.false, n.1)
