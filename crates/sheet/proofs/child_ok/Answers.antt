use mathlib.Core.Path.{sym}
use Rattle.sheet.proofs.WalkLaws.{fits-few, fits-over, fits-child}
use Rattle.sheet.proofs.child_ok.Goals as goal

pub returns-then-count-lt2 : goal.returns-then-count-lt2
returns-then-count-lt2 c = λ k p q. sym (fits-few _ k _ _ p q c.if-count-lt2.true)

pub returns-then-left-count : goal.returns-then-left-count
returns-then-left-count c = λ k p q. sym (fits-over _ k _ _ p q c.if-count-lt2.false c.if-left-count.true)

pub returns : goal.returns
returns c = λ k p q. fits-child _ k _ _ p q c.if-count-lt2.false c.if-left-count.false
