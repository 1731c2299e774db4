use native.Mathlib.Omega.{arith}
use Rattle.parse.proofs.surplus_place.Goals as goal

pub overflow_add-result : goal.overflow_add-result
overflow_add-result c = omega (arith, c.requires.0 c.if-first.true, c.well_formed)

pub returns-then-first : goal.returns-then-first
returns-then-first c = rw c.if-first.true

pub overflow_add-result-then-second : goal.overflow_add-result-then-second
overflow_add-result-then-second c = omega (arith, c.requires.1 c.if-second.true, c.well_formed)

pub overflow_add-result-then-second-2 : goal.overflow_add-result-then-second-2
overflow_add-result-then-second-2 c = omega (arith, c.requires.1 c.if-second.true, c.well_formed)

pub returns-then-second : goal.returns-then-second
returns-then-second c = rw (c.if-first.false, c.if-second.true)

pub returns : goal.returns
returns c = rw (c.if-first.false, c.if-second.false)
