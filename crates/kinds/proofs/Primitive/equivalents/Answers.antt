use mathlib.Core.Path.{ap₂, ◌∙◌}
use Rattle.kinds.specs.Primitive.{equivalent}
use Rattle.kinds.proofs.Primitive.equivalents.Goals as goal

pub returns : goal.returns
returns c =
    c.equivalent_kinds.ensures ∙ ap₂ equivalent c.kind.ensures c.kind-2.ensures
