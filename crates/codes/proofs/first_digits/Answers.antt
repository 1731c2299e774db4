use Rattle.codes.proofs.first_digits.Goals as goal

pub returns : goal.returns
returns c = rw c.no_digits-second.ensures
