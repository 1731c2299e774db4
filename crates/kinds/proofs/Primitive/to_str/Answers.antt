use mathlib.Core.Path.{ap, ◌∙◌}
use Rattle.kinds.specs.Primitive.{code}
use Rattle.kinds.proofs.Primitive.to_str.Goals as goal

pub returns : goal.returns
returns c = c.primitive_code.ensures ∙ ap code c.kind.ensures
