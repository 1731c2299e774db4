use borrow.Author.Tests.{eqb-true}
use mathlib.Core.Bool.{false≢true}
use mathlib.Core.Path.{sym, ◌∙◌}
use Rattle.kinds.proofs.KindLaws.{indirection-range}
use Rattle.static_str.proofs.walked_on.Goals as goal

pub returns-then-not-is_indirection : goal.returns-then-not-is_indirection
returns-then-not-is_indirection c = λ e h. absurd (false≢true e)

pub returns : goal.returns
returns c =
    λ e h. let k = indirection-range c.args.kind (sym c.is_indirection.ensures ∙ c.if-not-is_indirection.false) in (k.0, k.1, eqb-true _ _ e)
