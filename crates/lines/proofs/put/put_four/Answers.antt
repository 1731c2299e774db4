-- `lines::put::put_four` meets its contract. Assumes nothing.
use native.Mathlib.Omega.{arith}
use Rattle.lines.specs.Digits.{four_bytes, two_bytes}
use Rattle.lines.proofs.PutLaws.{put_next, put-append}
use Rattle.lines.proofs.put.put_four.Goals as goal

pub put_two-requires : goal.put_two-requires
unfolding two_bytes
put_two-requires c =
    let p = put_next c.put_two-next.ensures (omega arith) in omega (arith, c.put_two-next.auto.out)

pub returns : goal.returns
unfolding four_bytes
returns c =
    put-append _ _ c.put_two-next.ensures c.put_two.ensures
