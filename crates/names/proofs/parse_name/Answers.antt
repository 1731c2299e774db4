use mathlib.Core.Path.{sym, ◌∙◌}
use Rattle.names.proofs.NameLaws.{name-ends, bad-name, answer-ended, answer-refused, answer-equals, answer-closes}
use Rattle.names.proofs.parse_name.Goals as goal

pub returns-then-n-at : goal.returns-then-n-at
returns-then-n-at c = answer-ended _ _ _ c.if-n-at.true

pub returns-then-n-e : goal.returns-then-n-e
returns-then-n-e c =
    let e = c.name_end-e.ensures in
    answer-refused _ _ _ _ _ e.within (e.scanned ∙ name-ends _ _ _ _ c.if-n-e.true)

pub returns-then-not-verify_name : goal.returns-then-not-verify_name
returns-then-not-verify_name c =
    let e = c.name_end-e.ensures in
    let bad = sym c.verify_name.ensures ∙ c.if-not-verify_name.true in
    answer-refused _ _ _ _ _ e.within (e.scanned ∙ bad-name _ _ _ _ e c.if-n-e.false bad)

pub returns-then-text-e-eq61 : goal.returns-then-text-e-eq61
returns-then-text-e-eq61 c =
    answer-equals _ _ _ _ c.name_end-e.ensures c.if-n-e.false (sym c.verify_name.ensures ∙ c.if-not-verify_name.false) c.if-text-e-eq61.true

pub returns : goal.returns
returns c =
    answer-closes _ _ _ _ c.name_end-e.ensures c.if-n-e.false (sym c.verify_name.ensures ∙ c.if-not-verify_name.false) c.if-text-e-eq61.false
