use Rattle.layout.specs.Walking.{Walking}
use Rattle.layout.proofs.WalkLaws.{rank}
use Rattle.layout.proofs.quick.walk.Given as goal

abbrev pub invariant-loop-o : goal.invariant-loop-o
invariant-loop-o l = Walking l.tree.sizes.now l.tree.nodes.now l.numbers l.o

abbrev pub decreases-loop-o : goal.decreases-loop-o
decreases-loop-o l = rank l.tree.nodes.now l.o
