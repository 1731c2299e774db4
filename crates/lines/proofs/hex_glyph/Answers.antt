-- `lines::hex_glyph` meets its contract. Assumes nothing.
use native.Mathlib.Omega.{arith}
use Rattle.lines.proofs.HexLaws.{glyph-number, glyph-letter}
use Rattle.lines.proofs.hex_glyph.Goals as goal

pub returns-then-d-lt10 : goal.returns-then-d-lt10
returns-then-d-lt10 c = glyph-number _ (omega arith)

pub returns-else-d-lt10 : goal.returns-else-d-lt10
returns-else-d-lt10 c = glyph-letter _ (omega arith)
