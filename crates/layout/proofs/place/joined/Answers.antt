use Rattle.layout.proofs.EndLaws.{joined-more}
use Rattle.layout.proofs.place.joined.Goals as goal

pub loop-n-preserved : goal.loop-n-preserved
loop-n-preserved c =
    joined-more c.args.numbers.now c.loop-n.n-index c.loop-n.all c.loop-n.invariant
