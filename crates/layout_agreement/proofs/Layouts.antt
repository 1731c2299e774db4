-- What holds of layouts on all machines, and of the call `layout` in all rows: the statements over the definitions of layout (Layout.antt, Answer.antt) and this crate.
-- The work is in the files below this one.
use Prim.Native.Nat.{ℕ, ◌*◌, ◌+◌, ◌≤◌, ◌<◌}
use native.Mathlib.Omega.{arith}
use mathlib.Core.Bool.{true, false}
use mathlib.Core.List.{List}
use mathlib.Core.Logic.{◌↔◌}
use Rattle.std.specs.Prelude.{Some, None}
use mathlib.Core.Path.{◌≡◌, sym, ◌∙◌}
use lib.ListN.{length, take, drop, replicate}
use Rattle.kinds.specs.Primitive.{Widths, is_row, widths}
use Rattle.kinds.specs.Size.{size}
use Rattle.kinds.specs.Sound.{valid}
use Rattle.kinds.specs.Tree.{Trees, node, pointer, atomic, array, struct, union, is_one, count, shown}
use Rattle.kinds.specs.declared.NestingLevel.TheVariants.{Top}
use Rattle.kinds.specs.declared.Refusal.{Refusal}
use Rattle.kinds.specs.declared.Refusal.TheVariants as R
use Rattle.sheet.specs.Answer.{held, refused, holding}
use Rattle.helper.specs.Answer.{sized_in, size_answer}
use Rattle.std.specs.Prelude.{Ok, Err}
use Rattle.layout.specs.Answer.{layout_of, layout_in, layout_answer, layout_list}
use Rattle.layout.specs.Layout.{laid_out, first_bit_field, any_sizeless, next_multiple, alignments, fields_end, members_end, node_extent, extents, extent, Side, fields, others, holds_inside, in_node, offsets}
use Rattle.layout.proofs.FillLaws.{offsets-length, alignments-positive}
use Rattle.layout.proofs.MultipleLaws as M
use Rattle.layout_agreement.specs.Cases.{AllHold, cases}
use Rattle.layout_agreement.specs.Fields.{Positive, bytes_at, alignment_at, field_offsets, offset_at, end_at, end_before, own_numbers}
use Rattle.layout_agreement.specs.Laid.{BitFieldAt, Fits}
use Rattle.layout_agreement.specs.Shown.{shown_only, shown_numbers, number_in}
use Rattle.layout_agreement.proofs.AlikeLaws.{bits-alike, sizeless-alike, extent-alike, offsets-alike, layout-alike}
use Rattle.layout_agreement.proofs.BitFieldLaws.{first-is-least, none-is-first}
use Rattle.layout_agreement.proofs.CallLaws.{refused-answer, room-answer, answer-no-row, answer-short, answer-bits, answer-nothing, answer-bytes, answer-large, list_length, list-refused, list-nothing, list-bytes}
use Rattle.layout_agreement.proofs.CasesHold.{all_hold}
use Rattle.layout_agreement.proofs.ExtentLaws.{rows-positive, alignment-below, alignments-least, aligned_at, extents-aligned, extent-aligned}
use Rattle.layout_agreement.proofs.FieldLaws.{field_next, fields-apart, fields-held, fields-reach, members-held, members-reach}
use Rattle.layout_agreement.proofs.OffsetLaws.{own-fields, own-others, numbers-below}
use Rattle.layout_agreement.proofs.ShownLaws.{bits-shown}
use Rattle.layout_agreement.proofs.SizeLaws.{size_below, sized-below, answer-below}
use Rattle.layout_agreement.proofs.WholeLaws.{extent-whole}

-- ---- The next multiple of a positive number: a multiple, at or after the number, less than a step away, and no smaller one lies there.

module _ (a n : ℕ) where
  pub next-is-multiple : (k : ℕ) × (next_multiple a n ≡ k * a)
  next-is-multiple = (M.times-of a n, M.is-multiple a n)

  module _ (p : 0 < a) where
    pub next-at-or-after : n ≤ next_multiple a n
    next-at-or-after = M.at_or_after a n p

    pub next-within-a-step : next_multiple a n < n + a
    next-within-a-step = M.within-a-step a n p

    pub next-least : (k : ℕ) → n ≤ k * a → next_multiple a n ≤ k * a
    next-least = M.least a n p

-- ---- Machines: in every row all widths are positive.

pub widths-positive : (row : ℕ) → Positive (widths row)
widths-positive = rows-positive

-- Whatever the tree, its padded size is a multiple of its alignment: laid side by side, such trees are all aligned.
pub tree-is-multiple : (w : Widths) (t : Trees) → (k : ℕ) × ((extent w t).bytes ≡ k * (extent w t).alignment)
tree-is-multiple = extent-whole

module _ (w : Widths) (p : Positive w) where
  -- Every alignment is positive.
  pub tree-alignment : (t : Trees) → 0 < (extent w t).alignment
  tree-alignment = extent-aligned w p

  pub field-alignment : (cs : Trees) (i : ℕ) → 0 < alignment_at (extents w cs) i
  field-alignment cs = aligned_at (extents w cs) (extents-aligned w p cs)

  -- ---- A struct's fields, `cs`: field `i` lies from `offset_at` to `end_at`.

  module _ (cs : Trees) where
    -- No two fields overlap: each ends at or before any later one begins.
    pub no-overlap : (i j : ℕ) → i < j → j < length (extents w cs) → end_at (extents w cs) i ≤ offset_at (extents w cs) j
    no-overlap = fields-apart (extents w cs) (extents-aligned w p cs)

    module _ (i : ℕ) (l : i < length (extents w cs)) where
      -- Each begins at a multiple of its alignment, at or after the end of the field before it, and no smaller multiple lies there.
      pub field-is-multiple : (k : ℕ) × (offset_at (extents w cs) i ≡ k * alignment_at (extents w cs) i)
      field-is-multiple =
          let m = next-is-multiple (alignment_at (extents w cs) i) (end_before (extents w cs) i) in
          (m.0, field_next (extents w cs) i l ∙ m.1)

      pub field-after : end_before (extents w cs) i ≤ offset_at (extents w cs) i
      field-after = rw (field_next (extents w cs) i l) (next-at-or-after (alignment_at (extents w cs) i) (end_before (extents w cs) i) (field-alignment cs i))

      pub field-least : (k : ℕ) → end_before (extents w cs) i ≤ k * alignment_at (extents w cs) i → offset_at (extents w cs) i ≤ k * alignment_at (extents w cs) i
      field-least k h = rw (field_next (extents w cs) i l) (next-least (alignment_at (extents w cs) i) (end_before (extents w cs) i) (field-alignment cs i) k h)

    -- ---- What a struct takes: the largest alignment of its fields, and the least multiple of it that holds them all.

    module _ (s : List ℕ) where
      pub struct-is-multiple : (k : ℕ) × ((node_extent w (struct s) (extents w cs)).bytes ≡ k * (node_extent w (struct s) (extents w cs)).alignment)
      unfolding node_extent
      struct-is-multiple = next-is-multiple (alignments (extents w cs)) (fields_end 0 (extents w cs))

      pub struct_holds : (i : ℕ) → i < length (extents w cs) → end_at (extents w cs) i ≤ (node_extent w (struct s) (extents w cs)).bytes
      unfolding node_extent
      struct_holds i l =
          let h = fields-held (extents w cs) (extents-aligned w p cs) i l in
          omega (arith, next-at-or-after (alignments (extents w cs)) (fields_end 0 (extents w cs)) (alignments-positive (extents w cs)))

      pub struct-least : (k : ℕ) → ((i : ℕ) → i < length (extents w cs) → end_at (extents w cs) i ≤ k * (node_extent w (struct s) (extents w cs)).alignment)
          → (node_extent w (struct s) (extents w cs)).bytes ≤ k * (node_extent w (struct s) (extents w cs)).alignment
      unfolding node_extent
      struct-least k h =
          next-least (alignments (extents w cs)) (fields_end 0 (extents w cs)) (alignments-positive (extents w cs)) k (fields-reach (extents w cs) (k * alignments (extents w cs)) h)

      pub struct-alignment : (i : ℕ) → alignment_at (extents w cs) i ≤ (node_extent w (struct s) (extents w cs)).alignment
      unfolding node_extent
      struct-alignment = alignment-below (extents w cs)

      pub struct-alignment-least : (k : ℕ) → 0 < k → ((i : ℕ) → i < length (extents w cs) → alignment_at (extents w cs) i ≤ k) → (node_extent w (struct s) (extents w cs)).alignment ≤ k
      unfolding node_extent
      struct-alignment-least = alignments-least (extents w cs)

      -- ---- What a union takes: the same of its members, each of which begins at 0.

      pub union-is-multiple : (k : ℕ) × ((node_extent w (union s) (extents w cs)).bytes ≡ k * (node_extent w (union s) (extents w cs)).alignment)
      unfolding node_extent
      union-is-multiple = next-is-multiple (alignments (extents w cs)) (members_end (extents w cs))

      pub union-holds : (i : ℕ) → bytes_at (extents w cs) i ≤ (node_extent w (union s) (extents w cs)).bytes
      unfolding node_extent
      union-holds i =
          let h = members-held (extents w cs) i in
          omega (arith, next-at-or-after (alignments (extents w cs)) (members_end (extents w cs)) (alignments-positive (extents w cs)))

      pub union-least : (k : ℕ) → ((i : ℕ) → i < length (extents w cs) → bytes_at (extents w cs) i ≤ k * (node_extent w (union s) (extents w cs)).alignment)
          → (node_extent w (union s) (extents w cs)).bytes ≤ k * (node_extent w (union s) (extents w cs)).alignment
      unfolding node_extent
      union-least k h =
          next-least (alignments (extents w cs)) (members_end (extents w cs)) (alignments-positive (extents w cs)) k (members-reach (extents w cs) (k * alignments (extents w cs)) h)

      pub union-alignment : (i : ℕ) → alignment_at (extents w cs) i ≤ (node_extent w (union s) (extents w cs)).alignment
      unfolding node_extent
      union-alignment = alignment-below (extents w cs)

      pub union-alignment-least : (k : ℕ) → 0 < k → ((i : ℕ) → i < length (extents w cs) → alignment_at (extents w cs) i ≤ k) → (node_extent w (union s) (extents w cs)).alignment ≤ k
      unfolding node_extent
      union-alignment-least = alignments-least (extents w cs)

  -- ---- Padding only adds: a tree that is laid out has a size without padding too (N5), and it is not the larger.

  pub size-never-above : (t : Trees) → is_one t ≡ true → valid t ≡ true → first_bit_field (laid_out Top 0 t) ≡ None → any_sizeless w (laid_out Top 0 t) ≡ false
      → (n : ℕ) × (size w t ≡ Some n) × (n ≤ (extent w t).bytes)
  size-never-above = size_below w p

-- ---- The numbers of the nodes.

module _ (w : Widths) where
  -- There is one for each node.
  pub as-many-as-nodes : (k : Side) (e : ℕ) (ts : Trees) → length (offsets w k e ts) ≡ count ts
  as-many-as-nodes = offsets-length w

  -- The numbers of what a struct holds stand right after its own, and among them those of the fields themselves are where the fields begin.
  pub struct-numbers : (k : Side) (e : ℕ) (s : List ℕ) (cs ts : Trees) → take (count cs) (drop 1 (offsets w k e (node (struct s) cs ts))) ≡ offsets w fields 0 cs
  unfolding holds_inside in_node
  struct-numbers k e s cs ts = numbers-below w k e (struct s) cs ts

  pub field-numbers : (cs : Trees) → own_numbers cs (offsets w fields 0 cs) ≡ field_offsets 0 (extents w cs)
  field-numbers = own-fields w 0

  -- The same of a union, an array and an atomic, but there the members or the item themselves have the number 0.
  pub union-numbers : (k : Side) (e : ℕ) (s : List ℕ) (cs ts : Trees) → take (count cs) (drop 1 (offsets w k e (node (union s) cs ts))) ≡ offsets w others 0 cs
  unfolding holds_inside in_node
  union-numbers k e s cs ts = numbers-below w k e (union s) cs ts

  pub array-numbers : (k : Side) (e n : ℕ) (cs ts : Trees) → take (count cs) (drop 1 (offsets w k e (node (array n) cs ts))) ≡ offsets w others 0 cs
  unfolding holds_inside in_node
  array-numbers k e n cs ts = numbers-below w k e (array n) cs ts

  pub atomic-numbers : (k : Side) (e : ℕ) (cs ts : Trees) → take (count cs) (drop 1 (offsets w k e (node atomic cs ts))) ≡ offsets w others 0 cs
  unfolding holds_inside in_node
  atomic-numbers k e cs ts = numbers-below w k e atomic cs ts

  pub member-numbers : (cs : Trees) → own_numbers cs (offsets w others 0 cs) ≡ replicate (length (extents w cs)) 0
  member-numbers = own-others w 0

  -- Behind a pointer every number is 0.
  pub pointer-numbers : (k : Side) (e : ℕ) (cs ts : Trees) → take (count cs) (drop 1 (offsets w k e (node pointer cs ts))) ≡ replicate (count cs) 0
  unfolding holds_inside
  pointer-numbers k e cs ts = numbers-below w k e pointer cs ts

-- ---- Trees with equal shown parts are laid out alike.

module _ (t u : Trees) (e : shown Top t ≡ shown Top u) where
  -- Both have a bitfield that is laid out or neither has one, and the first is the same node of the shown part.
  pub same-bit-field : (first_bit_field (laid_out Top 0 t) ≡ number_in (shown_numbers t) (first_bit_field (laid_out Top 0 (shown Top t))))
      × (first_bit_field (laid_out Top 0 u) ≡ number_in (shown_numbers u) (first_bit_field (laid_out Top 0 (shown Top t))))
  same-bit-field = (bits-shown t, bits-alike t u e)

  -- Both have a node without a size or neither has one.
  pub same-sizeless : (w : Widths) → any_sizeless w (laid_out Top 0 t) ≡ any_sizeless w (laid_out Top 0 u)
  same-sizeless = sizeless-alike t u e

  -- If neither has one, they have the same padded size and alignment, and their shown nodes the same numbers.
  pub same-extent : (w : Widths) → any_sizeless w (laid_out Top 0 t) ≡ false → extent w t ≡ extent w u
  same-extent = extent-alike t u e

  pub same_numbers : (w : Widths) → any_sizeless w (laid_out Top 0 t) ≡ false → shown_only Top t (offsets w others 0 t) ≡ shown_only Top u (offsets w others 0 u)
  same_numbers = offsets-alike t u e

  -- So in every row they are told the same, if no bitfield is laid out: none, refusal 6, or the same size and alignment.
  pub same_layout : (row : ℕ) → first_bit_field (laid_out Top 0 t) ≡ None → layout_of row t ≡ layout_of row u
  same_layout = layout-alike t u e

-- ---- The first bitfield has the lowest number of all that are laid out; there is none exactly if none is laid out.

module _ (t : Trees) where
  pub lowest-bit-field : (i : ℕ) → (first_bit_field (laid_out Top 0 t) ≡ Some i) ↔ (BitFieldAt (laid_out Top 0 t) i × ((j : ℕ) → BitFieldAt (laid_out Top 0 t) j → i ≤ j))
  lowest-bit-field = first-is-least Top 0 t

  pub no-bit-field : (first_bit_field (laid_out Top 0 t) ≡ None) ↔ ((j : ℕ) → BitFieldAt (laid_out Top 0 t) j → ⊥)
  no-bit-field = none-is-first Top 0 t

-- ---- The call, for all lists.

module _ (row : ℕ) (words names list : List ℕ) where
  -- Refusals 3 and 4 go first, whatever the row number and the lent list.
  pub lists-first : {r : Refusal} → held words names ≡ refused r → layout_answer row words names list ≡ Err r
  lists-first = refused-answer row words names list

  -- Refusal 20 comes exactly where the lists hold a tree and no row has this number.
  pub no-such-row : (layout_answer row words names list ≡ Err R.NoSuchRow) ↔ ((t : Trees) × (held words names ≡ holding t) × (is_row row ≡ false))
  no-such-row = answer-no-row row words names list

  module _ {t : Trees} (h : held words names ≡ holding t) (r : is_row row ≡ true) where
    -- In a row that there is, refusal 2 comes exactly where the lent list has fewer numbers than the tree has nodes.
    pub list-too-short : (layout_answer row words names list ≡ Err R.ListTooShort) ↔ (length list < count t)
    list-too-short = answer-short row words names list h r

    module _ (m : count t ≤ length list) where
      -- Where the list is long enough, refusal 21 comes exactly where a bitfield is laid out, and carries the number of the first.
      pub bit-field : (i : ℕ) → (layout_answer row words names list ≡ Err (R.BitFieldInLayout i)) ↔ (first_bit_field (laid_out Top 0 t) ≡ Some i)
      bit-field = answer-bits row words names list h r m

      module _ (o : first_bit_field (laid_out Top 0 t) ≡ None) where
        -- Where none is, there is no layout exactly if a node that is laid out has no size.
        pub no-layout : (layout_answer row words names list ≡ Ok None) ↔ (any_sizeless (widths row) (laid_out Top 0 t) ≡ true)
        no-layout = answer-nothing row words names list h r m o

        module _ (b : any_sizeless (widths row) (laid_out Top 0 t) ≡ false) where
          -- Where all have one, the padded size and the alignment are told exactly if that size and every offset fit the row; else refusal 6 comes.
          pub in_bytes : (n a : ℕ) → (layout_answer row words names list ≡ Ok (Some (n, a))) ↔ (((extent (widths row) t).bytes ≡ n) × ((extent (widths row) t).alignment ≡ a) × Fits row t)
          in_bytes = answer-bytes row words names list h r m o b

          pub too_large_lem : (layout_answer row words names list ≡ Err R.SizeTooLarge) ↔ (Fits row t → ⊥)
          too_large_lem = answer-large row words names list h r m o b

  -- The lent list keeps its length. A refusal and no layout leave it as it was.
  pub length-kept : length (layout_list row words names list) ≡ length list
  length-kept = list_length row words names list

  pub refusal-writes-nothing : {r : Refusal} → layout_answer row words names list ≡ Err r → layout_list row words names list ≡ list
  refusal-writes-nothing = list-refused row words names list

  pub none-writes-nothing : layout_answer row words names list ≡ Ok None → layout_list row words names list ≡ list
  none-writes-nothing = list-nothing row words names list

  -- A layout writes the numbers of the nodes, one for each, and leaves what is beyond them as it was.
  pub layout-writes : {n a : ℕ} → layout_answer row words names list ≡ Ok (Some (n, a))
      → (t : Trees) × (held words names ≡ holding t) × (take (count t) (layout_list row words names list) ≡ offsets (widths row) others 0 t)
      × (drop (count t) (layout_list row words names list) ≡ drop (count t) list)
  layout-writes = list-bytes row words names list

  -- Where the call tells a padded size, `size` tells one in the same row, and it is not above it.
  pub size-too : {b a : ℕ} → layout_answer row words names list ≡ Ok (Some (b, a)) → (n : ℕ) × (size_answer row words names ≡ Ok (Some n)) × (n ≤ b)
  size-too = answer-below row words names list

-- The same of a tree.
pub tree-size-too : (row room : ℕ) (t : Trees) → is_one t ≡ true → valid t ≡ true → {b a : ℕ} → layout_in row room t ≡ Ok (Some (b, a)) → (n : ℕ) × (sized_in row t ≡ Ok (Some n)) × (n ≤ b)
tree-size-too = sized-below

-- Two sheets whose trees have equal shown parts are answered alike in a row that there is, if each list is long enough and no bitfield is laid out.
pub sheets-alike : (row : ℕ) (aw an al bw bn bl : List ℕ) {t u : Trees} → held aw an ≡ holding t → held bw bn ≡ holding u → shown Top t ≡ shown Top u → is_row row ≡ true → count t ≤ length al
    → count u ≤ length bl → first_bit_field (laid_out Top 0 t) ≡ None → layout_answer row aw an al ≡ layout_answer row bw bn bl
sheets-alike row aw an al bw bn bl {t} {u} h k e r m n o = room-answer row aw an al h r m ∙ same_layout t u e row o ∙ sym (room-answer row bw bn bl k r n)

-- ---- Each case of the table holds.

pub layout-cases : AllHold cases
layout-cases = all_hold
