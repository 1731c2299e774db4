-- Where each field lies (02, N7) on a machine, in numbers of any length.
use Rattle.std.specs.Prelude.{ℕ, suc, ◌+◌, ◌-◌, ◌*◌, ◌/◌, max, Bool, true, false, cond, not, ◌&&◌, ◌||◌, List, [], ◌∷◌, ◌++◌, map, get_or, replicate}
use Rattle.std.specs.Prelude.{Option, Some, None, unwrap_or}
use Rattle.kinds.specs.Primitive.{Widths, width, primitives, primitive_size}
use Rattle.kinds.specs.Size.{is_none}
use Rattle.kinds.specs.Tree as T
use Rattle.kinds.specs.Tree.{Label, Trees, end, node, primitive, bit_field, typed_bit_field, pointer, atomic, array, struct, union, is_end, count, inside, shows}
use Rattle.kinds.specs.declared.NestingLevel.{NestingLevel}
use Rattle.kinds.specs.declared.Primitive.{Primitive}
use Rattle.kinds.specs.declared.Primitive.TheVariants as P

-- ---- Which nodes are laid out, and which of them have no size.

unfoldable pub is_pointer : Label → Bool
is_pointer (primitive p) = false
is_pointer (bit_field n) = false
is_pointer (typed_bit_field o n) = false
is_pointer pointer = true
is_pointer atomic = false
is_pointer (array n) = false
is_pointer (struct s) = false
is_pointer (union s) = false
is_pointer T.none = false

-- A node that is laid out: its number, its label, whether what it holds is shown, and whether it holds nothing.
pub record Part : Type 0 where
  pub number : ℕ
  pub label : Label
  pub showing : Bool
  pub empty : Bool

-- Shown nodes not behind a pointer are laid out; `i` is the number of the first of the trees.
unfoldable pub laid_out : NestingLevel → ℕ → Trees → List Part
laid_out v i end = []
laid_out v i (node l cs ts) =
    record { number = i; label = l; showing = shows l v; empty = is_end cs }
    ∷ (cond (shows l v && not (is_pointer l)) (laid_out (inside l v) (i + 1) cs) [] ++ laid_out v (i + 1 + count cs) ts)

-- A bitfield, with or without a type.
unfoldable pub is_bit_field : Label → Bool
is_bit_field (primitive p) = false
is_bit_field (bit_field n) = true
is_bit_field (typed_bit_field o n) = true
is_bit_field pointer = false
is_bit_field atomic = false
is_bit_field (array n) = false
is_bit_field (struct s) = false
is_bit_field (union s) = false
is_bit_field T.none = false

-- The number of the first bitfield that is laid out: the lowest, as the nodes stand in the order of their numbers.
unfoldable pub first_bit_field : List Part → Option ℕ
first_bit_field [] = None
first_bit_field (p ∷ ps) = cond (is_bit_field p.label) (Some p.number) (first_bit_field ps)

-- A node has no size of its own: void, Unknown and None, an empty union, and a container that does not show its fields. An array and an atomic have
-- none if what they hold has none, and that is laid out too.
unfoldable pub sizeless : Widths → Label → Bool → Bool → Bool
sizeless w (primitive p) showing empty = is_none (primitive_size w p)
sizeless w (bit_field n) showing empty = false
sizeless w (typed_bit_field o n) showing empty = false
sizeless w pointer showing empty = false
sizeless w atomic showing empty = false
sizeless w (array n) showing empty = false
sizeless w (struct s) showing empty = not showing
sizeless w (union s) showing empty = not showing || empty
sizeless w T.none showing empty = true

-- One of them has no size.
unfoldable pub any_sizeless : Widths → List Part → Bool
any_sizeless w [] = false
any_sizeless w (p ∷ ps) = sizeless w p.label p.showing p.empty || any_sizeless w ps

-- ---- Sizes with padding, and alignments. They are asked for only where every laid-out node has a size and none is a bitfield: what a node without one
-- counts for is left open by 02; here void, Unknown and None take no room, and a container at bottom that of its fields.

-- The next multiple of `a` at or after `n`.
unfoldable pub next_multiple : ℕ → ℕ → ℕ
next_multiple a n = (n + (a - 1)) / a * a

-- A padded size and an alignment.
pub record Extent : Type 0 where
  pub bytes : ℕ
  pub alignment : ℕ

abbrev pub no_room : Extent
no_room = record { bytes = 0; alignment = 1 }

-- A complex number's part; any other primitive is its own.
abbrev pub part : Primitive → Primitive
part P.Char = P.Char
part P.Short = P.Short
part P.Int = P.Int
part P.Long = P.Long
part P.LongLong = P.LongLong
part P.UChar = P.UChar
part P.UShort = P.UShort
part P.UInt = P.UInt
part P.ULong = P.ULong
part P.ULongLong = P.ULongLong
part P.Float = P.Float
part P.Double = P.Double
part P.LongDouble = P.LongDouble
part P.FloatComplex = P.Float
part P.DoubleComplex = P.Double
part P.LongDoubleComplex = P.LongDouble
part P.Bool = P.Bool
part P.Void = P.Void
part P.String = P.String
part P.Object = P.Object
part P.Block = P.Block
part P.Class = P.Class
part P.Sel = P.Sel
part P.Unknown = P.Unknown

-- A primitive's alignment is its size, a complex number's that of its part.
unfoldable pub primitive_alignment : Widths → ℕ → Option ℕ
primitive_alignment w p = get_or (map (λ q. width w (part q)) primitives) p None

unfoldable pub primitive_extent : Widths → ℕ → Extent
primitive_extent w p = record { bytes = unwrap_or (primitive_size w p) 0; alignment = unwrap_or (primitive_alignment w p) 1 }

-- The largest alignment, 1 if there is none.
unfoldable pub alignments : List Extent → ℕ
alignments [] = 1
alignments (x ∷ xs) = max x.alignment (alignments xs)

-- The end of a struct's last field, where the field before these ends at `e`: each begins at the next multiple of its alignment.
unfoldable pub fields_end : ℕ → List Extent → ℕ
fields_end e [] = e
fields_end e (x ∷ xs) = fields_end (next_multiple x.alignment e + x.bytes) xs

-- The end of a union's largest member: each begins at 0.
unfoldable pub members_end : List Extent → ℕ
members_end [] = 0
members_end (x ∷ xs) = max x.bytes (members_end xs)

-- What a node with one child holds.
unfoldable pub only_extent : List Extent → Extent
only_extent [] = no_room
only_extent (x ∷ xs) = x

-- A node's extent from its children's.
unfoldable pub node_extent : Widths → Label → List Extent → Extent
node_extent w (primitive p) xs = primitive_extent w p
node_extent w (bit_field n) xs = no_room
node_extent w (typed_bit_field o n) xs = no_room
node_extent w pointer xs = record { bytes = w.pointer; alignment = w.pointer }
node_extent w atomic xs = only_extent xs
node_extent w (array n) xs = record { bytes = n * (only_extent xs).bytes; alignment = (only_extent xs).alignment }
node_extent w (struct s) xs = record { bytes = next_multiple (alignments xs) (fields_end 0 xs); alignment = alignments xs }
node_extent w (union s) xs = record { bytes = next_multiple (alignments xs) (members_end xs); alignment = alignments xs }
node_extent w T.none xs = no_room

-- The extent of each of the trees.
unfoldable pub extents : Widths → Trees → List Extent
extents w end = []
extents w (node l cs ts) = node_extent w l (extents w cs) ∷ extents w ts

-- The extent of a tree.
unfoldable pub extent : Widths → Trees → Extent
extent w t = only_extent (extents w t)

-- ---- The answer: one number for each node.

-- What trees side by side are: a struct's fields, or anything else.
pub data Side : Type 0 where
  fields : Side
  others : Side

-- What the children of a node are.
unfoldable pub in_node : Label → Side
in_node (primitive p) = others
in_node (bit_field n) = others
in_node (typed_bit_field o n) = others
in_node pointer = others
in_node atomic = others
in_node (array n) = others
in_node (struct s) = fields
in_node (union s) = others
in_node T.none = others

-- Where a tree begins: a struct's field at the next multiple of its alignment, where the one before it ends at `e`; a union's member at 0; the number of
-- whatever is no field is 0 too.
abbrev pub begins : Side → ℕ → Extent → ℕ
begins fields e x = next_multiple x.alignment e
begins others e x = 0

-- What a node holds lies in the node itself; not so what a pointer points to.
unfoldable pub holds_inside : Label → Bool
holds_inside (primitive p) = false
holds_inside (bit_field n) = false
holds_inside (typed_bit_field o n) = false
holds_inside pointer = false
holds_inside atomic = true
holds_inside (array n) = true
holds_inside (struct s) = true
holds_inside (union s) = true
holds_inside T.none = false

-- The numbers of the trees' nodes, in the order of the sheet.
unfoldable pub offsets : Widths → Side → ℕ → Trees → List ℕ
offsets w k e end = []
offsets w k e (node l cs ts) =
    begins k e (node_extent w l (extents w cs))
    ∷ (cond (holds_inside l) (offsets w (in_node l) 0 cs) (replicate (count cs) 0)
    ++ offsets w k (begins k e (node_extent w l (extents w cs)) + (node_extent w l (extents w cs)).bytes) ts)
