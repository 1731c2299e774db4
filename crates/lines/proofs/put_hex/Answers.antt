use Prim.Native.Nat.{◌+◌}
use mathlib.Core.Path.{◌∙◌}
use lib.ListN.{drop, get_or}
use Rattle.lines.specs.Answer.{hex_pair, each}
use Rattle.lines.proofs.PutLaws.{then-put, all-put, each_more, each-end}
use Rattle.lines.proofs.put_hex.Goals as goal

pub loop-b-preserved : goal.loop-b-preserved
loop-b-preserved c = (
  then-put (hex_pair (get_or c.args.s.now c.loop-b.b-index 0)) (each hex_pair (drop (c.loop-b.b-index + 1) c.args.s.now))
      (each_more hex_pair c.args.s.now c.loop-b.b-index c.loop-b-test.true) c.loop-b.invariant.0 c.put_pair-to.ensures,
  c.put_pair-to.auto.out ∙ c.loop-b.invariant.1,
)

pub returns : goal.returns
returns c =
    all-put (each-end hex_pair c.args.s.now c.loop-b.b-index c.loop-b-test.false) c.loop-b.invariant.0
