use mathlib.Core.Path.{ap, sym, ◌∙◌}
use native.Mathlib.Omega.{arith}
use Rattle.layout.proofs.MultipleLaws.{mask-remainder}
use Prim.Native.Nat.{◌%◌, ◌-◌}
use lib.Bits.{bit_and}
use Rattle.layout.proofs.place.remainder.Goals as goal

pub returns-then-a-mask-eq0 : goal.returns-then-a-mask-eq0
returns-then-a-mask-eq0 c =
    let a = c.args in
    let w = c.from-a.ensures in
    ap (λ x. bit_and a.n (x - 1)) w ∙ mask-remainder a.n a.alignment c.requires (omega arith) (ap (λ x. bit_and x (x - 1)) (sym w) ∙ c.if-a-mask-eq0.true)

pub returns : goal.returns
returns c =
    ap (λ x. c.args.n % x) c.from-a.ensures
