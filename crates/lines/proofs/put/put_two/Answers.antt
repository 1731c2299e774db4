-- `lines::put::put_two` meets its contract. Assumes nothing.
use native.Mathlib.Omega.{arith}
use lib.ListN.{length-set}
use Rattle.lines.specs.Digits.{two_bytes}
use Rattle.lines.proofs.PutLaws.{put-pair}
use Rattle.lines.proofs.put.put_two.Goals as goal

pub bounds-out-at-2 : goal.bounds-out-at-2
bounds-out-at-2 c = simp length-set (omega arith)

pub returns : goal.returns
unfolding two_bytes
returns c = put-pair _ _ _ _ c.requires
