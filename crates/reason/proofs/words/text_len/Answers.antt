use Prim.Native.Nat.{ℕ, ◌+◌, ◌≤◌}
use mathlib.Core.Path.{ap}
use native.Mathlib.Omega.{arith}
use Rattle.static_str.proofs.NumberLaws.{decimal-fits}
use Rattle.reason.proofs.words.text_len.Goals as goal

pub overflow_add-result : goal.overflow_add-result
overflow_add-result c = omega (arith, c.static_int_str_len.ensures, decimal-fits c.args.n (omega arith))

pub overflow_add-result-2 : goal.overflow_add-result-2
overflow_add-result-2 c = omega (arith, c.static_int_str_len.ensures, decimal-fits c.args.n (omega arith))

pub returns : goal.returns
returns c =
    let a = c.args in
    let short : 2 + c.static_int_str_len.result + a.n ≤ 3000 = omega (arith, c.static_int_str_len.ensures, decimal-fits a.n (omega arith)) in
    (ap (λ (d : ℕ). 2 + d + a.n) c.static_int_str_len.ensures, short)
