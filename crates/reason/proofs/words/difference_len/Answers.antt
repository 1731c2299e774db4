use native.Mathlib.Omega.{arith}
use Rattle.reason.specs.Spot.{difference_length}
use Rattle.reason.proofs.words.difference_len.Goals as goal

pub returns : goal.returns
unfolding difference_length
returns c =
    let w = c.word_len.ensures in
    let f = c.value_len.ensures in
    let g = c.value_len-2.ensures in
    (omega arith, omega arith)
