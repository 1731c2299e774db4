use native.Mathlib.Omega.{arith}
use Rattle.layout.proofs.ExtentLaws.{rounded-sum}
use native.Mathlib.Nat.{mod-le}
use Prim.Native.Nat.{◌+◌, ◌-◌}
use Rattle.layout.proofs.place.rounded_up.Goals as goal

pub overflow_sub-result : goal.overflow_sub-result
overflow_sub-result c =
    let e = c.remainder.ensures in
    let l = mod-le (c.args.n + (c.from-most.result - 1)) c.args.alignment in
    omega arith

pub returns-then-n-most : goal.returns-then-n-most
returns-then-n-most c =
    rounded-sum c.args.alignment c.args.n c.requires c.from-most.ensures c.remainder.ensures (omega arith)

pub returns : goal.returns
returns c = c.rounded_last.ensures
