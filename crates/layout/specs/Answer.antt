-- What `layout` answers for a sheet (02, N7), and what it leaves in the lent list of offsets. The refusals: 3, 4, 20, 2, 21; then none; then 6. And what
-- `extents` answers and leaves.
use Rattle.std.specs.Prelude.{ℕ, ◌*◌, Bool, true, false, cond, ◌&&◌, List, [], ◌∷◌, ◌++◌, leb, length, drop}
use Rattle.std.specs.Prelude.{Option, Some, None}
use Rattle.kinds.specs.Primitive.{Widths, is_row, widths}
use Rattle.kinds.specs.Tree.{Trees, end, node, count}
use Rattle.kinds.specs.declared.NestingLevel.TheVariants.{Top}
use Rattle.kinds.specs.declared.Refusal.TheVariants.{ListTooShort, SizeTooLarge, NoSuchRow, BitFieldInLayout}
use Rattle.helper.specs.Answer.{max_size}
use Rattle.sheet.specs.Answer.{of_sheet}
use Rattle.layout.specs.Layout.{Extent, laid_out, first_bit_field, any_sizeless, node_extent, extents, extent, others, offsets}
use Rattle.std.specs.Prelude.{Result, Ok, Err}
use Rattle.kinds.specs.declared.Refusal.{Refusal}

-- The numbers of a tree's nodes in a row.
unfoldable pub offsets_in : ℕ → Trees → List ℕ
offsets_in row t = offsets (widths row) others 0 t

unfoldable pub all_within : ℕ → List ℕ → Bool
all_within limit [] = true
all_within limit (n ∷ ns) = leb n limit && all_within limit ns

-- Refusal 6 covers the padded size of the whole tree and every offset.
unfoldable pub fitted : ℕ → Extent → List ℕ → Result (Option (ℕ × ℕ)) Refusal
fitted limit x ns = cond (leb x.bytes limit && all_within limit ns) (Ok (Some (x.bytes, x.alignment))) (Err SizeTooLarge)

-- Refused by the first bitfield's number, or this.
abbrev pub unless_bit_field : Option ℕ → Result (Option (ℕ × ℕ)) Refusal → Result (Option (ℕ × ℕ)) Refusal
unless_bit_field (Some i) a = Err (BitFieldInLayout i)
unless_bit_field None a = a

-- A tree's layout in a row: refusal 21, none, and refusal 6 in this order.
unfoldable pub layout_of : ℕ → Trees → Result (Option (ℕ × ℕ)) Refusal
layout_of row t =
    unless_bit_field (first_bit_field (laid_out Top 0 t))
    (cond (any_sizeless (widths row) (laid_out Top 0 t)) (Ok None) (fitted (max_size row) (extent (widths row) t) (offsets_in row t)))

-- The same for a list of `room` offsets, before it refusals 20 and 2.
unfoldable pub layout_in : ℕ → ℕ → Trees → Result (Option (ℕ × ℕ)) Refusal
layout_in row room t = cond (is_row row) (cond (leb (count t) room) (layout_of row t) (Err ListTooShort)) (Err NoSuchRow)

-- `layout`: why the lists or the row are turned away, or the layout of the tree in them.
unfoldable pub layout_answer : ℕ → List ℕ → List ℕ → List ℕ → Result (Option (ℕ × ℕ)) Refusal
layout_answer row words names list = of_sheet Err (layout_in row (length list)) words names

-- The list after an answer: the numbers stand in it where there is a layout, and else it is as it was.
abbrev pub list_after : Result (Option (ℕ × ℕ)) Refusal → List ℕ → List ℕ → List ℕ
list_after (Err r) ns list = list
list_after (Ok None) ns list = list
list_after (Ok (Some (n, a))) ns list = ns ++ drop (length ns) list

unfoldable pub list_in : ℕ → Trees → List ℕ → List ℕ
list_in row t list = list_after (layout_in row (length list) t) (offsets_in row t) list

unfoldable pub layout_list : ℕ → List ℕ → List ℕ → List ℕ → List ℕ
layout_list row words names list = of_sheet (λ r. list) (λ t. list_in row t list) words names

-- ---- What each node takes, with what it holds.

-- A padded size and its alignment, or 0 twice where the size is above the limit. Such a node can stand in a tree that has a layout: in an array of length 0.
unfoldable pub extent_words : ℕ → Extent → List ℕ
extent_words limit x = cond (leb x.bytes limit) (x.bytes ∷ x.alignment ∷ []) (0 ∷ 0 ∷ [])

-- These two of each node, in the order of the sheet.
unfoldable pub extents_of : Widths → ℕ → Trees → List ℕ
extents_of w limit end = []
extents_of w limit (node l cs ts) = extent_words limit (node_extent w l (extents w cs)) ++ (extents_of w limit cs ++ extents_of w limit ts)

-- `extents` answers whether there are such a row and room for two words a node, and then they stand in the list.
unfoldable pub extents_fit : ℕ → ℕ → Trees → Bool
extents_fit row room t = is_row row && leb (2 * count t) room

unfoldable pub extents_answer : ℕ → List ℕ → List ℕ → List ℕ → Bool
extents_answer row words names list = of_sheet (λ r. false) (extents_fit row (length list)) words names

unfoldable pub extents_in : ℕ → Trees → List ℕ → List ℕ
extents_in row t list = cond (extents_fit row (length list) t) (extents_of (widths row) (max_size row) t ++ drop (2 * count t) list) list

unfoldable pub extents_list : ℕ → List ℕ → List ℕ → List ℕ → List ℕ
extents_list row words names list = of_sheet (λ r. list) (λ t. extents_in row t list) words names
