-- `lines::put::put_any` meets its contract. Assumes nothing.
use native.Mathlib.Omega.{arith}
use Rattle.static_str.proofs.NumberLaws.{decimal-more-eight}
use Rattle.lines.proofs.DigitLaws.{eight-room, eight-put}
use Rattle.lines.proofs.put.put_any.Goals as goal

pub put_up_to_sixteen-next-requires : goal.put_up_to_sixteen-next-requires
put_up_to_sixteen-next-requires c = (omega arith, omega (arith, decimal-more-eight _ c.if-n-lt100000000.false))

pub put_eight-requires : goal.put_eight-requires
put_eight-requires c =
    eight-room _ c.if-n-lt100000000.false c.put_up_to_sixteen-next.ensures c.requires c.put_up_to_sixteen-next.auto.out

pub returns : goal.returns
returns c =
    eight-put _ c.if-n-lt100000000.false c.put_up_to_sixteen-next.ensures _ c.eight_digits.ensures c.put_eight.ensures
