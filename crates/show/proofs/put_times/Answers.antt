use Prim.Native.Nat.{◌+◌, ◌-◌}
use mathlib.Core.Path.{◌∙◌}
use native.Mathlib.Omega.{arith}
use Rattle.lines.proofs.PutLaws.{then-put, all-put}
use Rattle.show.specs.Answer.{times}
use Rattle.show.proofs.ShowLaws.{times_more, times_none}
use Rattle.show.proofs.put_times.Goals as goal

pub loop-preserved : goal.loop-preserved
loop-preserved c = (
  then-put c.args.s.now (times (c.args.n - (c.loop.counter + 1)) c.args.s.now) (times_more c.args.n c.loop.counter c.args.s.now (omega arith))
      c.loop.invariant.0 c.put_bytes-to.ensures,
  c.put_bytes-to.auto.out ∙ c.loop.invariant.1,
)

pub returns : goal.returns
returns c =
    all-put (times_none (c.args.n - c.loop.counter) c.args.s.now (omega arith)) c.loop.invariant.0
