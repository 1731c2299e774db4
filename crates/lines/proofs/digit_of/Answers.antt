use native.Mathlib.Omega.{arith}
use mathlib.Core.Path.{◌∙◌}
use Prim.Native.Nat.{◌≤◌, ◌<◌}
use Rattle.lines.proofs.HexLaws.{digit_low, digit-number, digit-between, digit-letter, digit-high, digit_some, digit_none}
use Rattle.lines.proofs.digit_of.Goals as goal

pub returns-in-48-to-57 : goal.returns-in-48-to-57
returns-in-48-to-57 c = digit_some _ _ (digit-number _ (omega arith) (omega arith)) (omega arith)

pub returns-in-97-to-102 : goal.returns-in-97-to-102
returns-in-97-to-102 c = digit_some _ _ (digit-letter _ (omega arith) (omega arith) ∙ omega arith) (omega arith)

pub returns-in_default : goal.returns-in_default
returns-in_default c = digit_none _ (digit_low _ (omega arith))

pub returns-in_default-2 : goal.returns-in_default-2
returns-in_default-2 c = digit_none _ (digit-between _ (omega arith) (omega arith))

pub returns-in_default-3 : goal.returns-in_default-3
returns-in_default-3 c = digit_none _ (digit-high _ (omega arith))
