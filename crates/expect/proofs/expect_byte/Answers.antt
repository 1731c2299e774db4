use native.Mathlib.Omega.{arith}
use Rattle.expect.proofs.TextLaws.{byte-end, byte-other, byte-taken}
use Rattle.expect.proofs.expect_byte.Goals as goal

pub returns-then-text-at : goal.returns-then-text-at
returns-then-text-at c = byte-end _ _ _ c.if-text-at.true

pub returns-then-text-at-2 : goal.returns-then-text-at-2
returns-then-text-at-2 c = byte-other _ _ _ c.if-text-at.false c.if-text-at-2.true

pub returns : goal.returns
returns c = (byte-taken _ _ _ c.if-text-at.false (omega (arith, c.if-text-at-2.false)), omega arith)
