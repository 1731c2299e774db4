use native.Mathlib.Omega.{arith}
use Rattle.sheet.proofs.GivenLaws.{lone_is, lone-none}
use Rattle.sheet.proofs.code_alone.Goals as goal

pub bounds-words-4 : goal.bounds-words-4
bounds-words-4 c = let r = (c.lone_code.ensures.holds c.if-lone_code.true).room in omega arith

pub returns-then-lone_code : goal.returns-then-lone_code
returns-then-lone_code c = lone_is _ (c.lone_code.ensures.holds c.if-lone_code.true)

pub returns : goal.returns
returns c = lone-none _ (c.lone_code.ensures.fails c.if-lone_code.false)
