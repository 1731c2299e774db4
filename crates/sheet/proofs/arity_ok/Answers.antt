use Rattle.kinds.proofs.SheetLaws.{arity-low, arity-high}
use Rattle.sheet.proofs.WalkLaws.{fits-leaf}
use Rattle.sheet.proofs.arity_ok.Goals as goal

pub returns-then-kind-lt-TYPED_BIT_FIELD : goal.returns-then-kind-lt-TYPED_BIT_FIELD
returns-then-kind-lt-TYPED_BIT_FIELD c = fits-leaf _ _ _ _ c.requires.1 (arity-low _ _ _ c.if-kind-lt-TYPED_BIT_FIELD.true)

pub returns-then-kind-gt-ARRAY : goal.returns-then-kind-gt-ARRAY
returns-then-kind-gt-ARRAY c = fits-leaf _ _ _ _ c.requires.1 (arity-high _ _ _ c.if-kind-gt-ARRAY.true c.requires.0)

pub returns : goal.returns
returns c = c.child_ok.ensures _ c.if-kind-lt-TYPED_BIT_FIELD.false c.if-kind-gt-ARRAY.false
