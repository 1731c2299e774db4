use mathlib.Core.Path.{sym, ◌∙◌}
use Rattle.kinds.proofs.ListLaws.{whole}
use Rattle.sheet.proofs.GivenLaws.{lone-gives}
use Rattle.helper.proofs.AnswerLaws.{compare-codes}
use Rattle.helper.proofs.compare_encodings.Goals as goal

pub returns-in-Some-code_alone : goal.returns-in-Some-code_alone
returns-in-Some-code_alone c =
    let a = c.args in
    let k = lone-gives a.aw.now (sym c.code_alone.ensures ∙ c.in-Some.is) a.an.now in
    let j = lone-gives a.bw.now (sym c.code_alone-in-Some.ensures ∙ c.in-Some-code_alone.is) a.bn.now in
    compare-codes a.all _ _ _ _ (k, j) c.equivalent_kinds.ensures

pub returns : goal.returns
returns c = rw (whole, whole, whole, whole) at c.compare_sheets.ensures
