use Rattle.codes.proofs.refused.Goals as goal

pub returns : goal.returns
returns c = rw (c.first_digits-none.ensures, c.no_digits.ensures)
