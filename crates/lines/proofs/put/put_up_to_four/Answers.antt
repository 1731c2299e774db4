-- `lines::put::put_up_to_four` meets its contract. Assumes nothing.
use mathlib.Core.Path.{ap, ◌∙◌}
use native.Mathlib.Omega.{arith}
use lib.ListN.{length, length-set}
use Rattle.lines.specs.Digits.{two_bytes, four_bytes}
use Rattle.lines.proofs.PutLaws.{put_one, put-append, put_same}
use Rattle.lines.proofs.DigitLaws.{short-one, short-two, short-three, short-four}
use Rattle.lines.proofs.put.put_up_to_four.Goals as goal

pub bounds-out-at : goal.bounds-out-at
bounds-out-at c = omega (arith, ap length (short-one _ _ c.requires.1 c.if-n-lt10.true))

pub returns-then-n-lt10 : goal.returns-then-n-lt10
returns-then-n-lt10 c =
    let e = short-one _ _ c.requires.1 c.if-n-lt10.true in
    put_same e (put_one _ _ _ (omega (arith, ap length e)))

pub put_two-requires : goal.put_two-requires
unfolding two_bytes
put_two-requires c =
    omega (arith, ap length (short-two _ _ c.requires.1 c.if-n-lt10.false c.if-n-lt100.true))

pub returns-then-n-lt100 : goal.returns-then-n-lt100
returns-then-n-lt100 c =
    put_same (short-two _ _ c.requires.1 c.if-n-lt10.false c.if-n-lt100.true) c.put_two.ensures

pub bounds-out-at-then-n-lt1000 : goal.bounds-out-at-then-n-lt1000
unfolding two_bytes
bounds-out-at-then-n-lt1000 c =
    omega (arith, ap length (short-three _ _ c.requires.1 c.if-n-lt100.false c.if-n-lt1000.true))

pub put_two-requires-then-n-lt1000 : goal.put_two-requires-then-n-lt1000
unfolding two_bytes
put_two-requires-then-n-lt1000 c =
    simp length-set (omega (arith, ap length (short-three _ _ c.requires.1 c.if-n-lt100.false c.if-n-lt1000.true)))

pub shape_of-out-then-n-lt1000 : goal.shape_of-out-then-n-lt1000
shape_of-out-then-n-lt1000 c = c.put_two-then-n-lt1000.auto.out ∙ simp length-set

pub returns-then-n-lt1000 : goal.returns-then-n-lt1000
unfolding two_bytes
returns-then-n-lt1000 c =
    let e = short-three _ _ c.requires.1 c.if-n-lt100.false c.if-n-lt1000.true in
    put_same e (put-append _ _ (put_one _ _ _ (omega (arith, ap length e))) c.put_two-then-n-lt1000.ensures)

pub put_four-requires : goal.put_four-requires
unfolding four_bytes two_bytes
put_four-requires c =
    omega (arith, ap length (short-four _ _ c.requires.1 c.if-n-lt1000.false c.requires.0))

pub returns : goal.returns
returns c =
    put_same (short-four _ _ c.requires.1 c.if-n-lt1000.false c.requires.0) c.put_four.ensures
