use mathlib.Core.Path.{refl, sym}
use Rattle.expect.specs.Agree.{code_byte}
use Rattle.expect.proofs.FieldLaws.{code-beyond}
use Rattle.expect.proofs.code_byte.Goals as goal

pub returns-then-kind-ge-PRIMITIVES : goal.returns-then-kind-ge-PRIMITIVES
returns-then-kind-ge-PRIMITIVES c = sym (code-beyond _ c.if-kind-ge-PRIMITIVES.true)

pub returns : goal.returns
unfolding code_byte
returns c = refl
