-- `lines::put::put_up_to_sixteen` meets its contract. Assumes nothing.
use native.Mathlib.Omega.{arith}
use Rattle.static_str.proofs.NumberLaws.{decimal-more-eight}
use Rattle.lines.proofs.DigitLaws.{eight-room, eight-put}
use Rattle.lines.proofs.put.put_up_to_sixteen.Goals as goal

pub put_up_to_eight-next-requires : goal.put_up_to_eight-next-requires
put_up_to_eight-next-requires c = (omega arith, omega (arith, decimal-more-eight _ c.if-n-lt100000000.false))

pub put_eight-requires : goal.put_eight-requires
put_eight-requires c =
    eight-room _ c.if-n-lt100000000.false c.put_up_to_eight-next.ensures c.requires.1 c.put_up_to_eight-next.auto.out

pub returns : goal.returns
returns c =
    eight-put _ c.if-n-lt100000000.false c.put_up_to_eight-next.ensures _ c.eight_digits.ensures c.put_eight.ensures
