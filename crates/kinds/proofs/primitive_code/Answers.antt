use mathlib.Core.Path.{sym}
use Rattle.kinds.proofs.PrimitiveLaws.{code-beyond, code_one, code-two}
use borrow.Author.Rules.{rules}
use Rattle.kinds.proofs.primitive_code.Goals as goal

pub returns-then-kind-ge-PRIMITIVES : goal.returns-then-kind-ge-PRIMITIVES
returns-then-kind-ge-PRIMITIVES c = sym (code-beyond _ c.if-kind-ge-PRIMITIVES.true)

pub returns-then-b-eq32 : goal.returns-then-b-eq32
returns-then-b-eq32 c = code_one c.args.kind (search rules) c.if-b-eq32.true

pub returns : goal.returns
returns c = code-two c.args.kind (search rules) c.if-b-eq32.false
