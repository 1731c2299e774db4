-- What the functions below the entry points answer: sizes cut off at 2^64 - 1, and the comparison of fields.
use Rattle.std.specs.Prelude.{ℕ, ◌+◌, ◌-◌, ◌*◌, ◌<◌, max, ◌≡◌, Bool, cond, ◌||◌, List, leb, eqb, get_or}
use Rattle.std.specs.Prelude.{Option, Some, None}
use Rattle.kinds.specs.Compare.{compare_encodings, level_for}
use Rattle.kinds.specs.Kind.{inside_kind}
use Rattle.kinds.specs.Level.{shows_fields}
use Rattle.kinds.specs.Parse.{max_u64}
use Rattle.kinds.specs.Primitive.{Widths, primitive_size, is_row, widths, entry}
use Rattle.kinds.specs.Sheet.{count_at, label_at, trees, has_one_child}
use Rattle.kinds.specs.Size.{node_size, sizes, plus, larger, times, bit_bytes, sum, largest}
use Rattle.kinds.specs.Tree.{Trees, is_end, inside}
use Rattle.kinds.specs.declared.NestingLevel.{NestingLevel}
use Rattle.kinds.specs.declared.NestingLevel.TheVariants.{Top}
use Rattle.kinds.specs.declared.Refusal.TheVariants.{SizeTooLarge, NoSuchRow}
use Rattle.helper.specs.Answer.{max_size, sized}
use Rattle.helper.specs.declared.Measured.{Measured}
use Rattle.helper.specs.declared.Measured.TheVariants.{Nothing, Bytes, TooLarge}
use Rattle.std.specs.Prelude.{Result, Ok, Err}
use Rattle.kinds.specs.declared.Refusal.{Refusal}

-- ---- Sizes.

unfoldable pub fit : ℕ → Measured
fit n = cond (leb n max_u64) (Bytes n) TooLarge

unfoldable pub clip : Option ℕ → Measured
clip None = Nothing
clip (Some n) = fit n

-- A size as `size` hands it out, where sizes are at most `limit`.
abbrev pub measured : ℕ → Measured → Result (Option ℕ) Refusal
measured limit Nothing = Ok None
measured limit (Bytes n) = cond (leb n limit) (Ok (Some n)) (Err SizeTooLarge)
measured limit TooLarge = Err SizeTooLarge

-- The sum of two sizes: none goes before too large.
unfoldable pub plus_measured : Measured → Measured → Measured
plus_measured Nothing y = Nothing
plus_measured (Bytes a) Nothing = Nothing
plus_measured (Bytes a) (Bytes b) = fit (a + b)
plus_measured (Bytes a) TooLarge = TooLarge
plus_measured TooLarge Nothing = Nothing
plus_measured TooLarge (Bytes b) = TooLarge
plus_measured TooLarge TooLarge = TooLarge

unfoldable pub larger_measured : Measured → Measured → Measured
larger_measured Nothing y = y
larger_measured (Bytes a) Nothing = Bytes a
larger_measured (Bytes a) (Bytes b) = Bytes (max a b)
larger_measured (Bytes a) TooLarge = TooLarge
larger_measured TooLarge y = TooLarge

-- 0 times too large is 0.
unfoldable pub times_measured : ℕ → Measured → Measured
times_measured n Nothing = Nothing
times_measured n (Bytes a) = fit (n * a)
times_measured n TooLarge = cond (eqb n 0) (Bytes 0) TooLarge

-- What a container of kind `k` makes of two of its fields' sizes: a struct the sum, a union the larger.
unfoldable pub join_measured : ℕ → Measured → Measured → Measured
join_measured k x y = cond (eqb k 29) (plus_measured x y) (larger_measured x y)

unfoldable pub join : ℕ → Option ℕ → Option ℕ → Option ℕ
join k x y = cond (eqb k 29) (plus x y) (larger x y)

-- What it makes of all of them.
unfoldable pub fold : ℕ → List (Option ℕ) → Option ℕ
fold k xs = cond (eqb k 29) (sum xs) (largest xs)

-- What a typed bitfield, an atomic or an array with the numbers `a` and `b` makes of the size of what it holds.
unfoldable pub holding_measured : ℕ → ℕ → ℕ → Measured → Measured
holding_measured k a b x = cond (eqb k 25) (larger_measured (fit (bit_bytes b)) x) (cond (eqb k 28) (times_measured a x) x)

unfoldable pub holding : ℕ → ℕ → ℕ → Option ℕ → Option ℕ
holding k a b x = cond (eqb k 25) (larger (Some (bit_bytes b)) x) (cond (eqb k 28) (times a x) x)

-- A node whose size does not depend on what it holds: a primitive, a bitfield without a type, a pointer, None.
unfoldable pub is_leaf : ℕ → Bool
is_leaf k = leb k 24 || (eqb k 26 || leb 31 k)

-- The size of such a node with the second number `b`.
unfoldable pub leaf_size : Widths → ℕ → ℕ → Option ℕ
leaf_size m k b = cond (leb k 23) (primitive_size m k) (cond (eqb k 24) (Some (bit_bytes b)) (cond (eqb k 26) (Some m.pointer) None))

-- The size of such a node by a row of the table, in which a pointer's is that of the string.
unfoldable pub leaf_entry : List ℕ → ℕ → ℕ → Option ℕ
leaf_entry row k b = cond (leb k 23) (entry (get_or row k 0)) (cond (eqb k 24) (Some (bit_bytes b)) (cond (eqb k 26) (entry (get_or row 18 0)) None))

-- The row has the sizes of a machine.
pub record RowOf (row : List ℕ) (m : Widths) : Type 0 where
  pub codes : (k : ℕ) → k < 24 → entry (get_or row k 0) ≡ primitive_size m k
  pub pointers : entry (get_or row 18 0) ≡ Some m.pointer

-- The size of the node at `at`.
unfoldable pub size_at : Widths → List ℕ → List ℕ → ℕ → NestingLevel → Option ℕ
size_at m names w at v = node_size m (label_at names w at) v (sizes m (inside (label_at names w at) v) (trees names w (count_at w at - 1) (at + 4)))

-- The answer for the tree of the nodes `w`, as of `sized_in`.
unfoldable pub answer_at : ℕ → List ℕ → List ℕ → Result (Option ℕ) Refusal
answer_at row names w = cond (is_row row) (sized (max_size row) (size_at (widths row) names w 0 Top)) (Err NoSuchRow)

-- ---- Comparison.

-- A container's shown fields: one without fields matches any.
unfoldable pub compare_fields : Bool → NestingLevel → Trees → Trees → Bool
compare_fields all v t u = (is_end t || is_end u) || compare_encodings all v t u

-- How many of a container's `n` field nodes are shown at a level.
unfoldable pub shown_count : NestingLevel → ℕ → ℕ
shown_count v n = cond (shows_fields v) n 0

-- The level after a node that is no container of kind `k`: what it holds comes next, or the next tree at the level `v`.
unfoldable pub level_after : Bool → ℕ → NestingLevel → NestingLevel → NestingLevel
level_after all k v here = cond (has_one_child k) (inside_kind k (level_for all here)) v
