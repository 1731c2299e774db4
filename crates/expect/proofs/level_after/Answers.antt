use mathlib.Core.Path.{sym, ◌∙◌}
use Rattle.expect.specs.Agree.{level_after}
use Rattle.expect.proofs.level_after.Goals as goal

pub returns-then-is_indirection : goal.returns-then-is_indirection
unfolding level_after
returns-then-is_indirection c =
    rw (sym c.is_indirection.ensures ∙ c.if-is_indirection.true) c.inside.ensures

pub returns : goal.returns
unfolding level_after
returns c = rw (sym c.is_indirection.ensures ∙ c.if-is_indirection.false)
