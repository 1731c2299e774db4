use Rattle.kinds.proofs.Refusal.values.Goals as goal

pub returns : goal.returns
returns c = rw c.words-row.ensures
