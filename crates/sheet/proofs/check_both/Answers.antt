use mathlib.Core.Path.{refl}
use native.Mathlib.Omega.{arith}
use lib.ListN.{get_or}
use Rattle.kinds.specs.Sheet.{header_words}
use Rattle.kinds.proofs.ListLaws.{whole}
use Rattle.std.specs.Prelude.{Ok}
use Rattle.sheet.specs.declared.Found.{Found}
use Rattle.sheet.specs.declared.Found.TheVariants as Found
use Rattle.sheet.proofs.GivenLaws.{both-gives, good-code, lone-good}
use Rattle.sheet.proofs.check_both.Goals as goal

pub bounds-aw-4 : goal.bounds-aw-4
bounds-aw-4 c = let r = (c.lone_code.ensures.holds c.if-lone_code.true).room in omega arith

pub bounds-bw-4 : goal.bounds-bw-4
bounds-bw-4 c = let r = (c.lone_code-then-lone_code.ensures.holds c.if-lone_code-2.true).room in omega arith

pub returns-then-lone_code-2 : goal.returns-then-lone_code-2
returns-then-lone_code-2 c = let a = c.args in
    let l = c.lone_code.ensures.holds c.if-lone_code.true in
    let m = c.lone_code-then-lone_code.ensures.holds c.if-lone_code-2.true in let p = both-gives a.aw.now a.an.now a.bw.now a.bn.now {x = Ok (Found.Code header_words (get_or a.aw.now header_words 0))} {y = Ok (Found.Code header_words (get_or a.bw.now header_words 0))} refl
    (good-code _ _ (lone-good _ _ l) l.kind)
    (good-code _ _ (lone-good _ _ m) m.kind) in record { answers = p.0; gives = p.1.0; number = p.1.1 }

pub bounds-aw-4-then-lone_code : goal.bounds-aw-4-then-lone_code
bounds-aw-4-then-lone_code c = let r = (c.lone_code.ensures.holds c.if-lone_code.true).room in omega arith

pub returns-then-lone_code : goal.returns-then-lone_code
returns-then-lone_code c = let a = c.args in
    let l = c.lone_code.ensures.holds c.if-lone_code.true in let p = both-gives a.aw.now a.an.now a.bw.now a.bn.now c.both_of.ensures
    (good-code _ _ (lone-good _ _ l) l.kind)
    (rw (whole, whole) at c.check_sheet.ensures) in record { answers = p.0; gives = p.1.0; number = p.1.1 }

pub returns : goal.returns
returns c = let a = c.args in let p = both-gives a.aw.now a.an.now a.bw.now a.bn.now c.both_of-2.ensures
    (rw (whole, whole) at c.check_sheet-2.ensures)
    (rw (whole, whole) at c.check.ensures.answers) in record { answers = p.0; gives = p.1.0; number = p.1.1 }
