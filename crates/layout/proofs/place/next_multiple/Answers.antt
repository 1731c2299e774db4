use Rattle.layout.specs.Placing.{next_measured}
use Rattle.layout.proofs.place.next_multiple.Goals as goal

pub returns-in-Nothing : goal.returns-in-Nothing
unfolding next_measured
returns-in-Nothing c = rw c.in-Nothing.is

pub returns-in-TooLarge : goal.returns-in-TooLarge
unfolding next_measured
returns-in-TooLarge c = rw c.in-TooLarge.is

pub returns-in-Bytes : goal.returns-in-Bytes
unfolding next_measured
returns-in-Bytes c = rw c.in-Bytes.is c.rounded_up.ensures
