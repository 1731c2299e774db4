-- `static_str::put_number` meets its contract. Assumes nothing.
use Prim.Native.Nat.{ℕ, ◌+◌, ◌/◌, ◌%◌, ◌≤◌}
use mathlib.Core.Path.{sym, subst, ◌∙◌}
use mathlib.Core.List.{List, [], ◌∷◌}
use native.Mathlib.Omega.{arith}
use lib.ListN.{length}
use Rattle.kinds.specs.Print.{decimal}
use Rattle.static_str.proofs.OutputLaws.{wrote-same, wrote-append}
use Rattle.kinds.proofs.DecimalLaws.{decimal-low, decimal-high}
use Rattle.static_str.proofs.NumberLaws.{decimal-one, decimal-more}
use Rattle.static_str.proofs.+put_number.Goals as goal

pub put-requires : goal.put-requires
put-requires t c =
    omega (arith, decimal-one c.args.n c.if-n-lt10.true, c.requires)

pub returns-then-n-lt10 : goal.returns-then-n-lt10
returns-then-n-lt10 t c =
    wrote-same (sym (decimal-low c.args.n c.if-n-lt10.true)) c.put.ensures

pub put_number-next-requires : goal.put_number-next-requires
put_number-next-requires t c =
    let l = decimal-more c.args.n c.if-n-lt10.false in let h = c.requires in (omega arith, omega arith)

pub put-requires-2 : goal.put-requires-2
put-requires-2 t c =
    omega (arith, decimal-more c.args.n c.if-n-lt10.false, c.requires, c.put_number-next.ensures.place, c.put_number-next.auto.out)

pub shape_of-out : goal.shape_of-out
shape_of-out t c =
    c.put-2.auto.out ∙ c.put_number-next.auto.out

pub returns : goal.returns
returns t c =
    let a = c.args in let hi = decimal-high a.n c.if-n-lt10.false in wrote-same (sym hi)
    (wrote-append (decimal (a.n / 10)) ((48 + a.n % 10) ∷ []) (subst (λ (xs : List ℕ). a.at + length xs ≤ length a.out.now) hi c.requires)
    c.put_number-next.ensures c.put-2.ensures)
