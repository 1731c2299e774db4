-- The rows of primitive sizes as the generating program prints them (02, N5 and N6): a row a line, single spaces between, 0 for none.
use Rattle.std.specs.Prelude.{ℕ, List, [], ◌∷◌, ◌++◌}
use Rattle.kinds.specs.Byte.{bytes}
use Rattle.kinds.specs.Primitive.{Widths, size_rows}
use Rattle.kinds.specs.Print.{decimal}
use Rattle.lines.specs.Answer.{each, space_number}

-- The widths of long, unsigned long, pointer and long double.
abbrev pub four : Widths → List ℕ
four w = w.long ∷ w.unsigned-long ∷ w.pointer ∷ w.long-double ∷ []

-- Numbers in decimal with single spaces between.
unfoldable pub spaced : List ℕ → List ℕ
spaced [] = []
spaced (n ∷ ns) = decimal n ++ each space_number ns

-- The line of a row, with its end.
unfoldable pub row_text : List ℕ → List ℕ
row_text r = spaced r ++ bytes "\n"

-- The lines of several rows.
unfoldable pub rows_text : List (List ℕ) → List ℕ
rows_text [] = []
rows_text (r ∷ rs) = row_text r ++ rows_text rs

-- All that the program prints.
unfoldable pub table_text : List ℕ
table_text = rows_text size_rows
