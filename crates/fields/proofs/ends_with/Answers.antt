use mathlib.Core.Path.{ap, ap₂}
use native.Mathlib.Omega.{arith}
use Prim.Native.Nat.{ℕ, ◌+◌}
use lib.Dec.{eqb}
use Rattle.fields.specs.Answer.{ends_with}
use Rattle.fields.proofs.ends_with.Goals as goal

pub overflow_add-result : goal.overflow_add-result
overflow_add-result c = let e = c.behind.ensures in omega arith

pub returns : goal.returns
unfolding ends_with
returns c = ap₂ eqb c.count_of.ensures (ap (λ (k : ℕ). k + 1) c.behind.ensures)
