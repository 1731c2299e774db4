-- What the functions below the entry point answer: extents cut off at 2^64 - 1, nodes by their place in the words, and what stands in a list of numbers.
use Rattle.std.specs.Prelude.{ℕ, ◌+◌, ◌-◌, ◌*◌, ◌≤◌, ◌<◌, max, ◌≡◌, Bool, true, false, cond, ◌&&◌, ◌||◌, List, [], ◌∷◌, map, leb, ltb, eqb, length, get_or, replicate}
use Rattle.std.specs.Prelude.{Option, Some, None}
use Rattle.std.proofs.lemmas.List.Edits.{sets}
use Rattle.kinds.specs.Parse.{max_u64}
use Rattle.kinds.specs.Primitive.{Widths}
use Rattle.kinds.specs.Sheet.{kind_at, first_at, count_at, label_at, trees}
use Rattle.kinds.specs.Tree.{Trees, count}
use Rattle.kinds.specs.declared.NestingLevel.TheVariants.{Top}
use Rattle.kinds.specs.declared.Refusal.TheVariants.{SizeTooLarge, BitFieldInLayout}
use Rattle.helper.specs.Measure.{fit, plus_measured, larger_measured, times_measured, RowOf}
use Rattle.helper.specs.declared.Measured.{Measured}
use Rattle.helper.specs.declared.Measured.TheVariants.{Nothing, Bytes, TooLarge}
use Rattle.layout.specs.Answer.{all_within, fitted, list_after}
use Rattle.layout.specs.Layout.{Part, laid_out, first_bit_field, any_sizeless, next_multiple, Extent, no_room, node_extent, extents, in_node, holds_inside, offsets}
use Rattle.layout.specs.declared.find.Found.{Found}
use Rattle.layout.specs.declared.find.Found.TheVariants as F
use Rattle.std.specs.Prelude.{Result, Ok, Err}
use Rattle.kinds.specs.declared.Refusal.{Refusal}
use Rattle.layout.specs.declared.place.Placed.{Placed}

-- ---- Extents.

unfoldable pub next_measured : ℕ → Measured → Measured
next_measured a Nothing = Nothing
next_measured a (Bytes n) = fit (next_multiple a n)
next_measured a TooLarge = TooLarge

-- An extent as the walk hands it out; `f` says whether the offsets below fit.
unfoldable pub placed_of : Extent → Bool → Placed
placed_of x f = record { bytes = fit x.bytes; alignment = x.alignment; fits = f }

-- A number as it stands in the list: one that does not fit is left out.
unfoldable pub stored : ℕ → ℕ
stored n = cond (leb n max_u64) n 0

abbrev pub stored_of : Measured → ℕ
stored_of Nothing = 0
stored_of (Bytes n) = n
stored_of TooLarge = 0

-- What stands in the list of extents of a node: its size, if that is within the limit, and its alignment.
abbrev pub room_words : ℕ → Measured → ℕ → List ℕ
room_words limit Nothing a = 0 ∷ 0 ∷ []
room_words limit (Bytes n) a = cond (leb n limit) (n ∷ a ∷ []) (0 ∷ 0 ∷ [])
room_words limit TooLarge a = 0 ∷ 0 ∷ []

abbrev pub is_bytes : Measured → Bool
is_bytes Nothing = false
is_bytes (Bytes n) = true
is_bytes TooLarge = false

-- A kind whose node holds nothing inside: a primitive, a bitfield, a pointer, None.
unfoldable pub is_plain : ℕ → Bool
is_plain k = ltb k 27 || ltb 30 k

-- The kind of a complex number's part, which stands three before it; any other primitive's own.
unfoldable pub part_kind : ℕ → ℕ
part_kind k = cond (leb 13 k && leb k 15) (k - 3) k

-- The extent of a node of such a kind by a row of the table, in which a pointer's size is that of the string.
unfoldable pub plain_extent : List ℕ → ℕ → Extent
plain_extent row k =
    cond (ltb k 24) (record { bytes = get_or row k 0; alignment = max 1 (get_or row (part_kind k) 0) })
    (cond (eqb k 26) (record { bytes = get_or row 18 0; alignment = max 1 (get_or row 18 0) }) no_room)

-- Where a field begins in a container of kind `k`, the last one ending at `e`.
unfoldable pub begin_measured : ℕ → Measured → ℕ → Measured
begin_measured k e a = cond (eqb k 29) (next_measured a e) (Bytes 0)

-- What a container of kind `k` takes with a field more.
unfoldable pub with_field : ℕ → Placed → Placed → Placed
with_field k run x =
    record {
      bytes = cond (eqb k 29) (plus_measured (begin_measured k run.bytes x.alignment) x.bytes) (larger_measured run.bytes x.bytes);
      alignment = max run.alignment x.alignment;
      fits = run.fits && (x.fits && is_bytes (begin_measured k run.bytes x.alignment));
    }

unfoldable pub closed : Placed → Placed
closed run = record { bytes = next_measured run.alignment run.bytes; alignment = run.alignment; fits = run.fits }

-- What an atomic, or an array of `n`, makes of what it holds.
unfoldable pub held_by : ℕ → ℕ → Placed → Placed
held_by k n x = record { bytes = cond (eqb k 28) (times_measured n x.bytes) x.bytes; alignment = x.alignment; fits = x.fits }

-- What a node of kind `k` that holds something inside makes of what its children take together: a container is closed.
unfoldable pub ended_by : ℕ → ℕ → Placed → Placed
ended_by k n run = cond (ltb k 29) (held_by k n run) (closed run)

-- ---- Nodes by their place: `w` is the words from the first node on, and `at` a node's first word in it.

-- A node that holds nothing inside, or an atomic or an array of one; and what it takes.
unfoldable pub is_simple : List ℕ → ℕ → Bool
is_simple w at = is_plain (kind_at w at) || (leb (kind_at w at) 28 && is_plain (kind_at w (at + 4)))

unfoldable pub simple_placed : List ℕ → List ℕ → ℕ → Placed
simple_placed row w at =
    cond (is_plain (kind_at w at)) (placed_of (plain_extent row (kind_at w at)) true)
    (held_by (kind_at w at) (first_at w at) (placed_of (plain_extent row (kind_at w (at + 4))) true))

-- What stands below the node at `at`.
abbrev pub inside_at : List ℕ → List ℕ → ℕ → Trees
inside_at s w at = trees s w (count_at w at - 1) (at + 4)

unfoldable pub extent_at : Widths → List ℕ → List ℕ → ℕ → Extent
extent_at m s w at = node_extent m (label_at s w at) (extents m (inside_at s w at))

-- The numbers of the nodes below it.
unfoldable pub offsets_below : Widths → List ℕ → List ℕ → ℕ → List ℕ
offsets_below m s w at =
    cond (holds_inside (label_at s w at)) (offsets m (in_node (label_at s w at)) 0 (inside_at s w at)) (replicate (count (inside_at s w at)) 0)

-- The `n` numbers from `i` on are 0.
abbrev pub Zeros : List ℕ → ℕ → ℕ → Type 0
Zeros l i n = (k : ℕ) → k < n → get_or l (i + k) 0 ≡ 0

-- What the walk of node `i` answers and leaves: the numbers below the node, at their places.
pub record LaidBelow (m : Widths) (s w : List ℕ) (i : ℕ) (entry exit : List ℕ) (r : Placed) : Type 0 where
  pub takes : r ≡ placed_of (extent_at m s w (4 * i)) (all_within max_u64 (offsets_below m s w (4 * i)))
  pub list : exit ≡ sets entry (i + 1) (map stored (offsets_below m s w (4 * i)))

-- The same on every machine whose sizes the row has, with what does not depend on the machine.
pub record Laid (row w : List ℕ) (i : ℕ) (entry exit : List ℕ) (r : Placed) : Type 0 where
  pub aligned : 0 < r.alignment
  pub as_long : length exit ≡ length entry
  pub beyond : (k : ℕ) → i + count_at w (4 * i) ≤ k → get_or exit k 0 ≡ get_or entry k 0
  pub below : (m : Widths) → RowOf row m → (s : List ℕ) → LaidBelow m s w i entry exit r

-- ---- The pass for bitfields and nodes without a size, and the end.

-- A bitfield goes before all else that is found.
abbrev pub unless_found : Option ℕ → Found → Found
unless_found (Some i) f = F.BitField i
unless_found None f = f

-- What the node's kind and count say of it, where the row of the table has 0 for no size.
unfoldable pub sizeless_kind : List ℕ → ℕ → ℕ → Bool → Bool
sizeless_kind row k c bottom =
    cond (ltb k 24) (eqb (get_or row k 0) 0) (cond (ltb k 29) false (cond (ltb 30 k) true (bottom || (eqb k 30 && eqb c 1))))

-- What a node of this kind holds is passed over: a pointer's, and that of a container at bottom.
unfoldable pub passes_kind : ℕ → Bool → Bool
passes_kind k bottom = eqb k 26 || (leb 29 k && bottom)

-- What it holds is at bottom: an atomic's, and an array's that is at bottom itself.
unfoldable pub bottom_after : ℕ → Bool → Bool
bottom_after k bottom = eqb k 27 || (eqb k 28 && bottom)

-- What a pass finds in laid-out nodes; `b` says whether one before them has no size.
unfoldable pub found_in : Widths → Bool → List Part → Found
found_in m b ps = unless_found (first_bit_field ps) (cond (b || any_sizeless m ps) F.Nothing F.Sized)

-- No number is above the limit, where each is at most 2^64 - 1.
unfoldable pub within_limit : ℕ → List ℕ → Bool
within_limit limit ns = eqb limit max_u64 || all_within limit ns

-- The answer for a whole tree and the numbers of its nodes.
abbrev pub finish_by : ℕ → ℕ → List ℕ → Bool → Measured → Result (Option (ℕ × ℕ)) Refusal
finish_by limit a ns false b = Err SizeTooLarge
finish_by limit a ns true Nothing = Err SizeTooLarge
finish_by limit a ns true (Bytes n) = cond (leb n limit && within_limit limit ns) (Ok (Some (n, a))) (Err SizeTooLarge)
finish_by limit a ns true TooLarge = Err SizeTooLarge

unfoldable pub finished : ℕ → Placed → List ℕ → Result (Option (ℕ × ℕ)) Refusal
finished limit x ns = finish_by limit x.alignment ns x.fits x.bytes

-- The same of the tree of the nodes `w`, and the list after it.
unfoldable pub numbers_at : Widths → List ℕ → List ℕ → List ℕ
numbers_at m s w = 0 ∷ offsets_below m s w 0

unfoldable pub fitted_at : Widths → List ℕ → List ℕ → ℕ → Result (Option (ℕ × ℕ)) Refusal
fitted_at m s w limit = fitted limit (extent_at m s w 0) (numbers_at m s w)

unfoldable pub list_at : Widths → List ℕ → List ℕ → ℕ → List ℕ → List ℕ
list_at m s w limit list = list_after (fitted_at m s w limit) (numbers_at m s w) list

-- The same by what the pass found: the layout of any tree of the nodes `w`.
abbrev pub by_found : Found → Result (Option (ℕ × ℕ)) Refusal → Result (Option (ℕ × ℕ)) Refusal
by_found (F.BitField i) a = Err (BitFieldInLayout i)
by_found F.Nothing a = Ok None
by_found F.Sized a = a

unfoldable pub answer_at : Widths → List ℕ → List ℕ → ℕ → Result (Option (ℕ × ℕ)) Refusal
answer_at m s w limit = by_found (found_in m false (laid_out Top 0 (trees s w (count_at w 0) 0))) (fitted_at m s w limit)

unfoldable pub list_for : Widths → List ℕ → List ℕ → ℕ → List ℕ → List ℕ
list_for m s w limit list = list_after (answer_at m s w limit) (numbers_at m s w) list
