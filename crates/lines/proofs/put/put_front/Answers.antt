use Prim.Native.Nat.{◌+◌}
use mathlib.Core.Path.{◌∙◌}
use mathlib.Core.List.{[], ◌∷◌}
use lib.ListN.{drop, get_or}
use Rattle.lines.proofs.PutLaws.{then-put}
use Rattle.kinds.proofs.ListLaws.{unread}
use Rattle.lines.proofs.put.put_front.Goals as goal

pub loop-b-preserved : goal.loop-b-preserved
loop-b-preserved c = (
  then-put (get_or c.args.s.now c.loop-b.b-index 0 ∷ []) (drop (c.loop-b.b-index + 1) c.args.s.now)
      (unread c.args.s.now c.loop-b.b-index c.loop-b-test.true) c.loop-b.invariant.0 c.put_byte-to.ensures,
  c.put_byte-to.auto.out ∙ c.loop-b.invariant.1,
)
