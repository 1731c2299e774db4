use native.Mathlib.Omega.{arith}
use Rattle.expect.proofs.TextLaws.{object-end, object-class, object-other, object-last, object-block, object-bare}
use Rattle.expect.proofs.expect_object.Goals as goal

pub returns-then-text-at : goal.returns-then-text-at
returns-then-text-at c = object-end _ _ c.if-text-at.true

pub returns-then-text-next : goal.returns-then-text-next
returns-then-text-next c =
    (object-last _ _ c.if-text-at.false c.if-b-eq64.true c.if-text-next.true, omega arith)

pub returns-then-text-next-eq63 : goal.returns-then-text-next-eq63
returns-then-text-next-eq63 c =
    (object-block _ _ c.if-text-at.false c.if-b-eq64.true c.if-text-next.false c.if-text-next-eq63.true, omega arith)

pub returns-then-b-eq64 : goal.returns-then-b-eq64
returns-then-b-eq64 c =
    (object-bare _ _ c.if-text-at.false c.if-b-eq64.true c.if-text-next.false c.if-text-next-eq63.false, omega arith)

pub returns-then-b-eq35 : goal.returns-then-b-eq35
returns-then-b-eq35 c = (object-class _ _ c.if-text-at.false c.if-b-eq35.true, omega arith)

pub returns : goal.returns
returns c =
    object-other _ _ c.if-text-at.false c.if-b-eq35.false c.if-b-eq64.false
