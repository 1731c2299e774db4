-- `lines::put_pair` meets its contract. Assumes nothing.
use mathlib.Core.List.{[], ◌∷◌}
use Rattle.lines.proofs.HexLaws.{hex_pair-is}
use Rattle.lines.proofs.PutLaws.{put_same, put-append}
use Rattle.lines.proofs.put_pair.Goals as goal

pub returns : goal.returns
returns c =
    put_same (hex_pair-is _ _ _ c.hex_glyph.ensures c.hex_glyph-2.ensures)
    (put-append (c.hex_glyph.result ∷ []) (c.hex_glyph-2.result ∷ []) c.put_byte-next.ensures c.put_byte.ensures)
