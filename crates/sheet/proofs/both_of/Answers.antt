use Rattle.sheet.proofs.both_of.Goals as goal
