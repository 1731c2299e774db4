use native.Mathlib.Omega.{arith}
use Rattle.kinds.proofs.ListLaws.{whole}
use Rattle.sheet.proofs.GivenLaws.{check-gives, good-code, lone-good}
use Rattle.sheet.proofs.check.Goals as goal

pub bounds-words-4 : goal.bounds-words-4
bounds-words-4 c = let l = c.lone_code.ensures.holds c.if-lone_code.true in let r = l.room in omega arith

pub returns-then-lone_code : goal.returns-then-lone_code
returns-then-lone_code c = let a = c.args in
    let l = c.lone_code.ensures.holds c.if-lone_code.true in let p = check-gives a.words.now a.names.now (good-code _ _ (lone-good _ _ l) l.kind) in record { answers = p.0; gives = p.1.0; number = p.1.1 }

pub returns : goal.returns
returns c = let a = c.args in let p = check-gives a.words.now a.names.now (rw (whole, whole) at c.check_sheet.ensures) in record { answers = p.0; gives = p.1.0; number = p.1.1 }
