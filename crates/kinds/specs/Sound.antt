-- Valid trees and bad names (01, "The sheet", and refusal 4).
use Rattle.std.specs.Prelude.{Bool, true, ◌&&◌, leb, ltb}
use Rattle.kinds.specs.Name.{verify_name}
use Rattle.kinds.specs.Parse.{max_u64, max_u8}
use Rattle.kinds.specs.Tree.{Label, Trees, end, node, primitive, bit_field, typed_bit_field, pointer, atomic, array, struct, union, none, is_end, is_one}

-- A label's numbers are those that a sheet can hold.
unfoldable pub valid_label : Label → Bool
valid_label (primitive p) = ltb p 24
valid_label (bit_field n) = leb n max_u8
valid_label (typed_bit_field o n) = leb o max_u64 && leb n max_u8
valid_label pointer = true
valid_label atomic = true
valid_label (array n) = leb n max_u64
valid_label (struct s) = true
valid_label (union s) = true
valid_label none = true

-- A label has as many children as its kind takes.
unfoldable pub valid_count : Label → Trees → Bool
valid_count (primitive p) cs = is_end cs
valid_count (bit_field n) cs = is_end cs
valid_count (typed_bit_field o n) cs = is_one cs
valid_count pointer cs = is_one cs
valid_count atomic cs = is_one cs
valid_count (array n) cs = is_one cs
valid_count (struct s) cs = true
valid_count (union s) cs = true
valid_count none cs = is_end cs

unfoldable pub valid : Trees → Bool
valid end = true
valid (node l cs ts) = (valid_label l && valid_count l cs) && (valid cs && valid ts)

unfoldable pub good_name : Label → Bool
good_name (primitive p) = true
good_name (bit_field n) = true
good_name (typed_bit_field o n) = true
good_name pointer = true
good_name atomic = true
good_name (array n) = true
good_name (struct s) = verify_name s
good_name (union s) = verify_name s
good_name none = true

-- No container, hidden ones included, has a bad name.
unfoldable pub good_names : Trees → Bool
good_names end = true
good_names (node l cs ts) = good_name l && (good_names cs && good_names ts)
