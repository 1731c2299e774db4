-- `lines::word_at` meets its contract. Assumes nothing.
use mathlib.Core.Path.{sym}
use native.Mathlib.Omega.{arith}
use lib.ListN.{get_or-eq_default}
use Rattle.lines.proofs.word_at.Goals as goal

pub returns : goal.returns
returns c = let past = c.if-i-words.false in sym (get_or-eq_default c.args.words.now 0 (omega (arith, past)))
