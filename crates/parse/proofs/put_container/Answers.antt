use mathlib.Core.Path.{refl, ◌∙◌}
use Rattle.parse.proofs.put_container.Goals as goal

pub overflow_sub-k : goal.overflow_sub-k
overflow_sub-k c =
    rw c.in-Ok.is at c.requires.1

pub returns-in-Ok : goal.returns-in-Ok
returns-in-Ok c =
    rw c.in-Ok.is (refl, c.put_node.ensures ∙ rw c.kind.ensures refl)

pub returns-in-Err : goal.returns-in-Err
returns-in-Err c = rw c.in-Err.is (refl, refl)
