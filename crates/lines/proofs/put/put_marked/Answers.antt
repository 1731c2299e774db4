-- `lines::put::put_marked` meets its contract. Assumes nothing.
use mathlib.Core.List.{[], ◌∷◌}
use Rattle.kinds.specs.Print.{decimal}
use Rattle.lines.proofs.PutLaws.{put-append}
use Rattle.lines.proofs.put.put_marked.Goals as goal

pub returns : goal.returns
returns c =
    put-append (c.args.mark ∷ []) (decimal c.args.n) c.put_byte-next.ensures c.put_number.ensures
