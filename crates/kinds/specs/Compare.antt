-- Tree against tree (01, "Equivalence"; helper.rs, `compare_encodings`).
use Rattle.std.specs.Prelude.{ℕ, Bool, true, false, ◌&&◌, ◌||◌, cond, eqb}
use Rattle.kinds.specs.Byte.{same_bytes}
use Rattle.kinds.specs.Primitive.{equivalent}
use Rattle.kinds.specs.Tree.{Label, Trees, end, node, primitive, bit_field, typed_bit_field, pointer, atomic, array, struct, union, none, is_end, kind, name, is_container, inside, shows}
use Rattle.kinds.specs.declared.NestingLevel.{NestingLevel}
use Rattle.kinds.specs.declared.NestingLevel.TheVariants.{Top}

-- An array's length or a typed bitfield's offset.
unfoldable pub length_or_offset : Label → ℕ
length_or_offset (primitive p) = 0
length_or_offset (bit_field n) = 0
length_or_offset (typed_bit_field o n) = o
length_or_offset pointer = 0
length_or_offset atomic = 0
length_or_offset (array n) = n
length_or_offset (struct s) = 0
length_or_offset (union s) = 0
length_or_offset none = 0

-- A bitfield's size.
unfoldable pub bits : Label → ℕ
bits (primitive p) = 0
bits (bit_field n) = n
bits (typed_bit_field o n) = n
bits pointer = 0
bits atomic = 0
bits (array n) = 0
bits (struct s) = 0
bits (union s) = 0
bits none = 0

-- Two nodes match, their children aside.
unfoldable pub compare_labels : Label → Label → Bool
compare_labels l m = equivalent (kind l) (kind m) && (eqb (length_or_offset l) (length_or_offset m) && (eqb (bits l) (bits m) && same_bytes (name l) (name m)))

-- What the children add: a container's hidden fields nothing, and one without fields matches any.
unfoldable pub compare_children : Bool → Bool → Bool → Bool → Bool
compare_children container shown empty same = cond container (cond shown (empty || same) true) same

-- With all fields every node counts as top.
abbrev pub level_for : Bool → NestingLevel → NestingLevel
level_for true v = Top
level_for false v = v

unfoldable pub compare_encodings : Bool → NestingLevel → Trees → Trees → Bool
compare_encodings all v end end = true
compare_encodings all v end (node m ds us) = false
compare_encodings all v (node l cs ts) end = false
compare_encodings all v (node l cs ts) (node m ds us) =
    compare_labels l m
    && (compare_children (is_container l) (shows l (level_for all v)) (is_end cs || is_end ds) (compare_encodings all (inside l (level_for all v)) cs ds)
    && compare_encodings all v ts us)

-- `equivalent_to` and `equivalent_to_box`: by levels.
unfoldable pub equivalent_to : Trees → Trees → Bool
equivalent_to t u = compare_encodings false Top t u
