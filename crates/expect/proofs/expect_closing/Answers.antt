use lib.ListN.{drop}
use mathlib.Core.Path.{sym, ap, ◌∙◌}
use Prim.Native.Nat.{ℕ}
use Rattle.kinds.specs.Container.{end_byte}
use Rattle.kinds.specs.Expect.{expect_byte}
use Rattle.expect.proofs.TextLaws.{same_outcome, closing-bits, closing-array, closing-container}
use Rattle.expect.proofs.expect_closing.Goals as goal

pub returns-then-kind-eq-ARRAY : goal.returns-then-kind-eq-ARRAY
returns-then-kind-eq-ARRAY c = same_outcome _ c.expect_byte.result _ _ (closing-array _ _ _ c.if-kind-eq-ARRAY.true) c.expect_byte.ensures

pub returns-then-kind-ne-TYPED_BIT_FIELD : goal.returns-then-kind-ne-TYPED_BIT_FIELD
returns-then-kind-ne-TYPED_BIT_FIELD c =
    same_outcome _ c.expect_byte-then-kind-ne-TYPED_BIT_FIELD.result _ _ (closing-container _ _ _ c.if-kind-ne-TYPED_BIT_FIELD.true c.if-kind-eq-ARRAY.false
    ∙ ap (λ (b : ℕ). expect_byte b (drop c.args.at c.args.text.now))
    (sym (c.end_byte.ensures ∙ ap end_byte c.container_of.ensures))) c.expect_byte-then-kind-ne-TYPED_BIT_FIELD.ensures

pub returns : goal.returns
returns c = same_outcome _ c.expect_u8.result _ _ (closing-bits _ _ _ c.if-kind-ne-TYPED_BIT_FIELD.false) c.expect_u8.ensures
