use mathlib.Core.Path.{sym, ◌∙◌}
use Rattle.kinds.proofs.KindLaws.{inside-low, inside-plain}
use Rattle.static_str.proofs.keeps_level.Goals as goal

pub returns-then-kind-lt-POINTER : goal.returns-then-kind-lt-POINTER
returns-then-kind-lt-POINTER c =
    λ e. inside-low c.args.kind c.args.level c.if-kind-lt-POINTER.true

pub returns : goal.returns
returns c =
    λ e. inside-plain c.args.kind c.args.level (sym c.is_container.ensures ∙ c.if-is_container.false)
    (sym c.is_indirection.ensures ∙ c.if-is_indirection.false)
