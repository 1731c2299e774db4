use mathlib.Core.Path.{refl}
use native.Mathlib.Omega.{arith}
use Rattle.reason.specs.Spot.{word_of}
use Rattle.reason.proofs.words.word_len.Goals as goal

pub returns-in-Kind : goal.returns-in-Kind
unfolding word_of
returns-in-Kind c = rw c.in-Kind.is (refl, omega arith)

pub returns-in-Size : goal.returns-in-Size
unfolding word_of
returns-in-Size c = rw c.in-Size.is (refl, omega arith)

pub returns-in-Offset : goal.returns-in-Offset
unfolding word_of
returns-in-Offset c = rw c.in-Offset.is (refl, omega arith)

pub returns-in-Length : goal.returns-in-Length
unfolding word_of
returns-in-Length c = rw c.in-Length.is (refl, omega arith)

pub returns-in-Name : goal.returns-in-Name
unfolding word_of
returns-in-Name c = rw c.in-Name.is (refl, omega arith)

pub returns-in-Count : goal.returns-in-Count
unfolding word_of
returns-in-Count c = rw c.in-Count.is (refl, omega arith)
