-- `static_str::static_int_str_len` meets its contract. Assumes nothing.
use native.Mathlib.Omega.{arith}
use Rattle.static_str.proofs.NumberLaws.{decimal-more-four, decimal-more-eight, decimal-more-twelve, decimal-more-sixteen}
use Rattle.static_str.proofs.static_int_str_len.Goals as goal

pub returns-then-n-lt100000000 : goal.returns-then-n-lt100000000
returns-then-n-lt100000000 c = omega (arith, decimal-more-four _ c.if-n-lt10000.false)

pub returns-then-n-lt1000000000000 : goal.returns-then-n-lt1000000000000
returns-then-n-lt1000000000000 c = omega (arith, decimal-more-eight _ c.if-n-lt100000000.false)

pub returns-then-n-lt10000000000000000 : goal.returns-then-n-lt10000000000000000
returns-then-n-lt10000000000000000 c = omega (arith, decimal-more-twelve _ c.if-n-lt1000000000000.false)

pub returns : goal.returns
returns c = omega (arith, decimal-more-sixteen _ c.if-n-lt10000000000000000.false)
