-- A struct's fields and a union's members as the theorems speak of them: by their place among them, from 0.
use Rattle.std.specs.Prelude.{ℕ, zero, suc, ◌+◌, ◌<◌, List, [], ◌∷◌, get_or, drop}
use Rattle.kinds.specs.Primitive.{Widths}
use Rattle.kinds.specs.Tree.{Trees, end, node, count}
use Rattle.layout.specs.Layout.{Extent, no_room, next_multiple}

-- A machine on which nothing that has a width has none.
pub record Positive (w : Widths) : Type 0 where
  pub long : 0 < w.long
  pub unsigned-long : 0 < w.unsigned-long
  pub pointer : 0 < w.pointer
  pub long-double : 0 < w.long-double

-- The padded size and the alignment of a field.
abbrev pub bytes_at : List Extent → ℕ → ℕ
bytes_at xs i = (get_or xs i no_room).bytes

abbrev pub alignment_at : List Extent → ℕ → ℕ
alignment_at xs i = (get_or xs i no_room).alignment

-- Where fields begin, if the one before them ends at `e`.
unfoldable pub field_offsets : ℕ → List Extent → List ℕ
field_offsets e [] = []
field_offsets e (x ∷ xs) = next_multiple x.alignment e ∷ field_offsets (next_multiple x.alignment e + x.bytes) xs

-- Where a struct's field begins and ends, and where the field before it ends: at 0 if there is none.
abbrev pub offset_at : List Extent → ℕ → ℕ
offset_at xs i = get_or (field_offsets 0 xs) i 0

abbrev pub end_at : List Extent → ℕ → ℕ
end_at xs i = offset_at xs i + bytes_at xs i

abbrev pub end_before : List Extent → ℕ → ℕ
end_before xs zero = 0
end_before xs (suc i) = end_at xs i

-- Of the numbers of trees' nodes, those of the trees themselves.
unfoldable pub own_numbers : Trees → List ℕ → List ℕ
own_numbers end ns = []
own_numbers (node l cs ts) ns = get_or ns 0 0 ∷ own_numbers ts (drop (suc (count cs)) ns)
