-- `static_str::put_tagged` meets its contract. Assumes nothing.
use mathlib.Core.List.{[], ◌∷◌}
use Rattle.kinds.specs.Print.{decimal}
use Rattle.static_str.proofs.OutputLaws.{wrote-append}
use Rattle.static_str.proofs.put_tagged.Goals as goal

pub returns : goal.returns
returns c =
    wrote-append (c.args.b ∷ []) (decimal c.args.n) c.requires c.put-next.ensures c.put_number.ensures
