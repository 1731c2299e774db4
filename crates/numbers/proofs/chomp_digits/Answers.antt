use Rattle.numbers.proofs.chomp_digits.Goals as goal

pub returns : goal.returns
returns c = c.run_end.ensures
