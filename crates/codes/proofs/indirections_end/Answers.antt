use Rattle.codes.proofs.indirections_end.Goals as goal

pub returns : goal.returns
returns c = c.run_end.ensures
