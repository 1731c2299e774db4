use mathlib.Core.Path.{ap, sym, ◌∙◌}
use Rattle.kinds.specs.Kind.{children_level}
use Rattle.std.specs.Prelude.{Some}
use Rattle.kinds.proofs.NestingLevel.children.Goals as goal

pub returns-then-is_container : goal.returns-then-is_container
unfolding children_level
returns-then-is_container c = rw (sym c.is_container.ensures ∙ c.if-is_container.true) c.container_include_fields.ensures

pub returns : goal.returns
unfolding children_level
returns c = rw (sym c.is_container.ensures ∙ c.if-is_container.false) (ap Some c.inside.ensures)
