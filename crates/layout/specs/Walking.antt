-- What a walk over the nodes of a tree has done so far: the fields of a container that are put, the laid-out nodes that are passed, and the containers that
-- are open.
use Rattle.std.specs.Prelude.{ℕ, zero, suc, ◌+◌, ◌-◌, ◌*◌, ◌≤◌, ◌<◌, max, ◌≡◌, Bool, true, false, cond, not, ◌&&◌, List, [], ◌∷◌, ◌++◌, map, ◌⊎◌, eqb, length, get_or, set}
use Rattle.std.specs.Int.Bits.{bit_and}
use Rattle.std.proofs.lemmas.List.Edits.{sets}
use Rattle.kinds.specs.Parse.{max_u64}
use Rattle.kinds.specs.Primitive.{Widths}
use Rattle.kinds.specs.Sheet.{kind_at, count_at, trees}
use Rattle.kinds.specs.Tree.{Label, Trees, end, node, is_end, count, inside, shows}
use Rattle.kinds.specs.Walk.{NodeAt, TreesAt}
use Rattle.kinds.specs.declared.NestingLevel.{NestingLevel}
use Rattle.kinds.specs.declared.NestingLevel.TheVariants.{Top, Within, Bottom}
use Rattle.helper.specs.Measure.{RowOf}
use Rattle.helper.specs.declared.Measured.TheVariants.{Bytes}
use Rattle.layout.specs.Answer.{all_within}
use Rattle.layout.specs.Layout.{Part, is_pointer, laid_out, Extent, alignments, fields_end, members_end, only_extent, extents, Side, fields, others, offsets}
use Rattle.layout.specs.Placing.{placed_of, stored, stored_of, part_kind, plain_extent, is_simple, simple_placed, begin_measured, with_field, ended_by, Zeros, Laid, found_in}
use Rattle.layout.specs.declared.find.Found.TheVariants as F
use Rattle.layout.specs.declared.quick.Open.{Open}
use Rattle.layout.specs.declared.place.Placed.{Placed}
use Rattle.layout.specs.declared.quick.Room.{Room}

-- ---- A container of kind `k`: what its fields make together.

unfoldable pub side_of : ℕ → Side
side_of k = cond (eqb k 29) fields others

-- Where the container ends, where it ended at `e` before these fields.
unfoldable pub end_of : ℕ → ℕ → List Extent → ℕ
end_of k e xs = cond (eqb k 29) (fields_end e xs) (max e (members_end xs))

-- What is gathered of a container's fields: those before node `j`, which ended at `ended`, with the `n` nodes from there on make the whole of the `total`
-- nodes from `first` on.
pub record Gathers (m : Widths) (s w : List ℕ) (k first total : ℕ) (entry now : List ℕ) (j n : ℕ) (run : Placed) : Type 0 where
  pub ended : ℕ
  pub aligned : ℕ
  pub fitted : Bool
  pub takes : run ≡ placed_of (record { bytes = ended; alignment = aligned }) fitted
  pub ends : end_of k ended (extents m (trees s w n (4 * j))) ≡ end_of k 0 (extents m (trees s w total (4 * first)))
  pub aligns : max aligned (alignments (extents m (trees s w n (4 * j)))) ≡ alignments (extents m (trees s w total (4 * first)))
  pub fits : (fitted && all_within max_u64 (offsets m (side_of k) ended (trees s w n (4 * j)))) ≡ all_within max_u64 (offsets m (side_of k) 0 (trees s w total (4 * first)))
  pub leads : n < total → 0 < (only_extent (extents m (trees s w total (4 * first)))).alignment
  pub list : sets now j (map stored (offsets m (side_of k) ended (trees s w n (4 * j)))) ≡ sets entry first (map stored (offsets m (side_of k) 0 (trees s w total (4 * first))))

-- The same for every machine of the row, with what the walk goes by.
pub record Filling (row w : List ℕ) (k first total : ℕ) (entry now : List ℕ) (j n : ℕ) (run : Placed) : Type 0 where
  pub there : TreesAt w (4 * j) n
  pub begun : first ≤ j
  pub goes_on : j + n ≡ first + total
  pub room : first + total ≤ length entry
  pub as_long : length now ≡ length entry
  pub beyond : (i : ℕ) → first + total ≤ i → get_or now i 0 ≡ get_or entry i 0
  pub zeros : Zeros now j n
  pub positive : 0 < run.alignment
  pub gathers : (m : Widths) → RowOf row m → (s : List ℕ) → Gathers m s w k first total entry now j n run

-- ---- Trees side by side of which the first may stand at the bottom level.

abbrev pub level_of : Bool → NestingLevel
level_of b = cond b Bottom Within

-- A node's own part, and those of what it holds.
unfoldable pub own_part : NestingLevel → ℕ → Label → Trees → Part
own_part v i l cs = record { number = i; label = l; showing = shows l v; empty = is_end cs }

unfoldable pub inner_parts : NestingLevel → ℕ → Label → Trees → List Part
inner_parts v i l cs = cond (shows l v && not (is_pointer l)) (laid_out (inside l v) (i + 1) cs) []

-- The laid-out parts of trees, the first at bottom if `b` and else within, the others within.
unfoldable pub laid_from : Bool → ℕ → Trees → List Part
laid_from b i end = []
laid_from b i (node l cs ts) = own_part (level_of b) i l cs ∷ (inner_parts (level_of b) i l cs ++ laid_out Within (i + 1 + count cs) ts)

-- The nodes before `i` are passed: `none` says whether one of them has no size, and with what is laid out from there on the whole is found. The first
-- tree there stands at bottom if `bottom`.
pub record Sought (row w : List ℕ) (n i : ℕ) (bottom none : Bool) : Type 0 where
  pub within : i ≤ n
  pub there : TreesAt w (4 * i) (n - i)
  pub rest : (m : Widths) → RowOf row m → (s : List ℕ) → found_in m none (laid_from bottom i (trees s w (n - i) (4 * i)))
      ≡ found_in m false (laid_out Top 0 (trees s w n 0))

-- ---- Rooms: what small trees take, all numbers of which fit.

abbrev pub room_placed : Room → Placed
room_placed x = record { bytes = Bytes x.bytes; alignment = x.alignment; fits = true }

-- A power of two below 256.
abbrev pub IsPower : ℕ → Type 0
IsPower a = (0 < a) × (a < 256) × (bit_and a (a - 1) ≡ 0)

-- So is the alignment of each code of the row that has a size, which is as small.
abbrev pub Powers : List ℕ → Type 0
Powers row = (k : ℕ) → k < 24 → 0 < get_or row k 0 → IsPower (get_or row (part_kind k) 0) × (get_or row k 0 < 256)

-- The largest end that the quick walk goes by.
abbrev pub most : ℕ
most = 2147483647

-- A code that has a size, or a pointer.
abbrev pub IsSized : List ℕ → ℕ → Type 0
IsSized row k = ((k < 24) × (0 < get_or row k 0)) ⊎ (k ≡ 26)

-- What it takes.
pub record PlainRoom (row : List ℕ) (k : ℕ) (x : Room) : Type 0 where
  pub sized : IsSized row k
  pub power : IsPower x.alignment
  pub small : x.bytes ≤ 255
  pub takes : room_placed x ≡ placed_of (plain_extent row k) true

-- What such a node takes, or an atomic or an array of one.
pub record SimpleRoom (row w : List ℕ) (at : ℕ) (x : Room) : Type 0 where
  pub simple : is_simple w at ≡ true
  pub sized : IsSized row (kind_at w at) ⊎ ((27 ≤ kind_at w at) × (kind_at w at ≤ 28) × IsSized row (kind_at w (at + 4)))
  pub power : IsPower x.alignment
  pub small : x.bytes ≤ most * most
  pub takes : room_placed x ≡ simple_placed row w at

-- What a node takes whose children take `run` together.
pub record EndedRoom (k n : ℕ) (run x : Room) : Type 0 where
  pub power : IsPower x.alignment
  pub small : x.bytes ≤ most * most
  pub takes : room_placed x ≡ ended_by k n (room_placed run)

-- What a container takes with a field more, node `j`, and the list with the field's number.
pub record AddedRoom (k : ℕ) (run x : Room) (entry exit : List ℕ) (j : ℕ) (y : Room) : Type 0 where
  pub some-room : 0 < x.alignment
  pub power : IsPower y.alignment
  pub small : y.bytes ≤ most
  pub takes : room_placed y ≡ with_field k (room_placed run) (room_placed x)
  pub list : exit ≡ set entry j (stored_of (begin_measured k (Bytes run.bytes) x.alignment))

-- ---- Open containers. While one is open the word in its place tells the one around it, with what that took before.

unfoldable pub frame : Room → ℕ → ℕ
frame run i = (256 * run.bytes + run.alignment) * 2048 + i

-- An array, a struct, or a union that has members.
abbrev pub Enters : List ℕ → ℕ → Type 0
Enters w at = (28 ≤ kind_at w at) × (kind_at w at ≤ 30) × (kind_at w at ≡ 30 → 1 < count_at w at)

-- Container `c`, which was entered with the list `entry`, is open: its nodes before `j` are put, and `left` nodes are left.
pub record Level (row w : List ℕ) (c : ℕ) (entry now : List ℕ) (j left : ℕ) (run : Room) : Type 0 where
  pub stands : NodeAt w (4 * c)
  pub enters : Enters w (4 * c)
  pub within : c + count_at w (4 * c) ≤ count_at w 0
  pub power : IsPower run.alignment
  pub small : run.bytes ≤ most
  pub filling : Filling row w (kind_at w (4 * c)) (c + 1) (count_at w (4 * c) - 1) entry now j left (room_placed run)
  pub kept : (i : ℕ) → i ≤ c → get_or now i 0 ≡ get_or entry i 0

-- The container around container `c`, which waits for it; `rest` tells of those around that.
pub record Around (row w : List ℕ) (rest : ℕ → List ℕ → Type 0) (c : ℕ) (entry : List ℕ) : Type 0 where
  pub parent : ℕ
  pub before : List ℕ
  pub list : List ℕ
  pub left : ℕ
  pub run : Room
  pub above : parent < c
  pub some_left : 0 < left
  pub level : Level row w parent before list c left run
  pub puts : entry ≡ set list c (frame run parent)
  pub around : rest parent before

-- All containers around container `c`, so many; the outermost was entered with the list `first`.
unfoldable pub Stack : List ℕ → List ℕ → List ℕ → ℕ → ℕ → List ℕ → Type 0
Stack row w first zero c entry = (c ≡ 0) × (entry ≡ first)
Stack row w first (suc d) c entry = Around row w (Stack row w first d) c entry

-- The walk of the whole tree.
pub record Walking (row w numbers : List ℕ) (o : Open) : Type 0 where
  pub first : List ℕ
  pub depth : ℕ
  pub entry : List ℕ
  pub long : length first ≡ count_at w 0
  pub zeros : Zeros first 0 (count_at w 0)
  pub few : count_at w 0 ≤ 2001
  pub room : length numbers ≡ count_at w 0
  pub stack : Stack row w first depth o.container entry
  pub kind : o.kind ≡ kind_at w (4 * o.container)
  pub stops : o.stop ≡ o.container + count_at w (4 * o.container)
  pub level : Level row w o.container entry numbers o.next (o.stop - o.next) o.run
  pub sought : Sought row w (count_at w 0) o.next false false

-- What it leaves where it comes to the end: the whole tree has a layout.
pub record Settled (row w numbers : List ℕ) (x : Room) : Type 0 where
  pub first : List ℕ
  pub long : length first ≡ count_at w 0
  pub zeros : Zeros first 0 (count_at w 0)
  pub power : IsPower x.alignment
  pub laid : Laid row w 0 first numbers (room_placed x)
  pub sized : (m : Widths) → RowOf row m → (s : List ℕ) → F.Sized ≡ found_in m false (laid_out Top 0 (trees s w (count_at w 0) 0))
