-- What the program prints, computed.
use mathlib.Core.Path.{◌≡◌, refl}
use mathlib.Core.List.{◌++◌}
use Rattle.kinds.specs.Byte.{bytes}
use Rattle.kinds.specs.Print.{digits, decimal}
use Rattle.lines.specs.Answer.{each, space_number}
use Rattle.rows.specs.Answer.{spaced, row_text, rows_text, table_text}

pub printed : table_text
    ≡ bytes "1 2 4 8 8 1 2 4 8 8 4 8 8 8 16 16 1 0 8 8 8 8 8 0\n"
    ++ (bytes "1 2 4 8 8 1 2 4 8 8 4 8 16 8 16 32 1 0 8 8 8 8 8 0\n"
    ++ (bytes "1 2 4 4 8 1 2 4 4 8 4 8 8 8 16 16 1 0 4 4 4 4 4 0\n"
    ++ bytes "1 2 4 4 8 1 2 4 8 8 4 8 8 8 16 16 1 0 8 8 8 8 8 0\n"))
unfolding table_text rows_text row_text spaced each space_number decimal digits
printed = refl
