use mathlib.Core.Path.{refl, ◌∙◌}
use Rattle.parse.proofs.put_none_under.Goals as goal

pub returns : goal.returns
returns c = c.put_node-2.ensures ∙ rw c.put_node.ensures refl
