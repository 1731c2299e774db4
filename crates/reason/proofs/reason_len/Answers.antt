use mathlib.Core.Path.{sym, ◌∙◌}
use Rattle.kinds.proofs.ListLaws.{whole}
use Rattle.sheet.proofs.GivenLaws.{lone-gives}
use Rattle.reason.proofs.ReasonLaws.{len-codes}
use Rattle.reason.proofs.reason_len.Goals as goal

pub returns-in-Some-code_alone : goal.returns-in-Some-code_alone
returns-in-Some-code_alone c =
    let a = c.args in
    let k = lone-gives a.aw.now (sym c.code_alone.ensures ∙ c.in-Some.is) a.an.now in
    let j = lone-gives a.bw.now (sym c.code_alone-in-Some.ensures ∙ c.in-Some-code_alone.is) a.bn.now in
    len-codes a.all _ _ _ _ (k, j) (c.codes_len.ensures a.all)

pub returns : goal.returns
returns c = rw (whole, whole, whole, whole) at c.sheets_len.ensures
