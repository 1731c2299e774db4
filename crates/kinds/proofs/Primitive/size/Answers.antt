use mathlib.Core.Path.{ap, ◌∙◌}
use Rattle.kinds.specs.Primitive.{size_in}
use Rattle.kinds.proofs.Primitive.size.Goals as goal

pub returns : goal.returns
returns c = c.primitive_size.ensures ∙ ap (size_in _) c.kind.ensures
