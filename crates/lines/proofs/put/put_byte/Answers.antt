-- `lines::put::put_byte` meets its contract. Assumes nothing.
use Rattle.lines.proofs.PutLaws.{put_full}
use Rattle.lines.proofs.put.put_byte.Goals as goal

pub returns-then-out-at : goal.returns-then-out-at
returns-then-out-at c = put_full _ _ _ c.if-out-at.true
