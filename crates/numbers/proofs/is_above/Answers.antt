use Prim.Native.Nat.{◌+◌, ◌*◌}
use mathlib.Core.Path.{sym}
use native.Mathlib.Omega.{arith}
use borrow.Author.Rules.{rules}
use borrow.Author.Tests.{le-ltb}
use Rattle.numbers.proofs.NumberLaws.{above-is}
use Rattle.numbers.proofs.is_above.Goals as goal

pub returns-then-acc-limit : goal.returns-then-acc-limit
returns-then-acc-limit c =
    let a = c.args in
    sym (le-ltb a.limit (a.acc * 10 + a.d) (omega (arith, c.if-acc-limit.true)))

pub returns : goal.returns
returns c =
    let a = c.args in
    above-is a.acc a.d a.limit (search rules) (search rules)
