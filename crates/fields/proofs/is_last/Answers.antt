use mathlib.Core.Path.{ap₂}
use Prim.Native.Nat.{◌-◌}
use lib.Dec.{leb}
use Rattle.fields.specs.Answer.{is_last}
use Rattle.fields.proofs.FieldLaws.{last-past}
use Rattle.fields.proofs.is_last.Goals as goal

pub returns-then-before-count : goal.returns-then-before-count
unfolding is_last
returns-then-before-count c = ap₂ leb (ap₂ ◌-◌ c.count_of-count.ensures c.behind-before.ensures) c.count_of.ensures

pub returns : goal.returns
unfolding is_last
returns c = last-past _ _ _ c.count_of-count.ensures c.behind-before.ensures c.if-before-count.false
