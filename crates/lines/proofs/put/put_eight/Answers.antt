-- `lines::put::put_eight` meets its contract. Assumes nothing.
use native.Mathlib.Omega.{arith}
use Rattle.lines.specs.Digits.{eight_bytes, four_bytes, two_bytes}
use Rattle.lines.proofs.PutLaws.{put_next, put-append}
use Rattle.lines.proofs.put.put_eight.Goals as goal

pub put_four-requires : goal.put_four-requires
unfolding four_bytes two_bytes
put_four-requires c =
    let p = put_next c.put_four-next.ensures (omega arith) in omega (arith, c.put_four-next.auto.out)

pub returns : goal.returns
unfolding eight_bytes
returns c =
    put-append _ _ c.put_four-next.ensures c.put_four.ensures
