use borrow.Author.Tests.{lt-ltb, le-ltb}
use Rattle.layout.specs.Placing.{ended_by}
use Rattle.layout.proofs.place.Placed.ended_by.Goals as goal

pub returns-then-kind-lt-STRUCT : goal.returns-then-kind-lt-STRUCT
unfolding ended_by
returns-then-kind-lt-STRUCT c = rw (lt-ltb _ 29 c.if-kind-lt-STRUCT.true) c.held_by.ensures

pub returns : goal.returns
unfolding ended_by
returns c = rw (le-ltb _ 29 c.if-kind-lt-STRUCT.false) c.closed.ensures
