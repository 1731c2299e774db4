-- The answers of the entry point, as the code reaches them from the walk and the pass.
use Prim.Native.Nat.{ℕ, ◌+◌, ◌-◌, ◌≤◌, ◌<◌}
use native.Mathlib.Omega.{arith}
use mathlib.Core.Path.{◌≡◌, refl, ap, ap₂, sym, ◌∙◌}
use mathlib.Core.List.{List, [], ◌∷◌, ◌++◌, map, append-nil}
use Rattle.std.specs.Prelude.{Option, Some, None}
use mathlib.Core.Bool.{Bool, true, false, cond, not, ◌&&◌, ◌||◌, and-false}
use borrow.Author.Tests.{le-leb, lt-leb, leb-true, leb-false, lt-ltb, eqb-true, ne_eqb}
use lib.Dec.{leb, eqb}
use lib.ListN.{length, get_or, set, take, drop, replicate, length-append, length-replicate, drop_of_length-le, get_or-replicate}
use lib.Seq.{sets, sets-eq, take-suc, take_at, get_or-take, length-take-le}
use Rattle.kinds.specs.Parse.{max_u32, max_u64}
use Rattle.kinds.specs.Primitive.{Widths, widths, primitive_size}
use Rattle.kinds.specs.Sheet.{count_at, trees}
use Rattle.kinds.specs.Size.{is_none}
use Rattle.kinds.specs.Tree.{Trees, end, node, primitive, is_end, count, shows}
use Rattle.kinds.specs.Walk.{NodeAt}
use Rattle.kinds.specs.declared.NestingLevel.TheVariants.{Top}
use Rattle.kinds.specs.declared.Refusal.{Refusal}
use Rattle.kinds.specs.declared.Refusal.TheVariants.{SizeTooLarge, ListTooShort, NoSuchRow}
use Rattle.kinds.proofs.SheetLaws.{trees-count}
use Rattle.sheet.specs.Answer.{held, refused}
use Rattle.sheet.specs.Given.{CodeIn, NodesAre}
use Rattle.sheet.proofs.GivenLaws.{answer-refused, answer-held}
use Rattle.helper.specs.Answer.{max_size}
use Rattle.helper.specs.Measure.{fit, RowOf}
use Rattle.helper.proofs.SizeLaws.{fit-le, fit-gt}
use Rattle.layout.specs.Answer.{offsets_in, all_within, fitted, unless_bit_field, layout_of, layout_in, layout_answer, list_after, list_in, layout_list}
use Rattle.layout.specs.Layout.{Part, Extent, is_pointer, laid_out, is_bit_field, first_bit_field, sizeless, any_sizeless, primitive_extent, node_extent, extents, extent, only_extent, others, holds_inside, offsets}
use Rattle.layout.specs.Placing.{placed_of, stored, part_kind, plain_extent, extent_at, offsets_below, Zeros, LaidBelow, unless_found, found_in, within_limit, finish_by, finished, by_found, numbers_at, fitted_at, answer_at, list_at, list_for}
use Rattle.layout.specs.Walking.{Powers}
use Rattle.layout.specs.declared.find.Found.{Found}
use Rattle.layout.specs.declared.find.Found.TheVariants as F
use Rattle.std.specs.Prelude.{Result, Ok, Err}
use Rattle.layout.specs.declared.place.Placed.{Placed}
use Rattle.layout.proofs.ExtentLaws.{primitive-extent}
use Rattle.layout.proofs.FindLaws.{none-entry}
use Rattle.layout.proofs.FillLaws.{all-stored, map-length, extents-step, offsets-step, below_length, no-offsets}

-- ---- From the walk to the answer.

within-lower : (l k : ℕ) (ns : List ℕ) → l ≤ k → all_within k ns ≡ false → all_within l ns ≡ false
unfolding all_within
within-lower l k [] h e = e
within-lower l k (n ∷ ns) h e = go (leb n l) refl (leb n k) refl e (λ d. within-lower l k ns h d)
  where
    above : n ≤ l → l ≤ k → k < n → ⊥
    above p q r = omega arith

    go : (t : Bool) → leb n l ≡ t → (u : Bool) → leb n k ≡ u → (leb n k && all_within k ns) ≡ false → (all_within k ns ≡ false → all_within l ns ≡ false) → (leb n l && all_within l ns) ≡ false
    go true p true q d rec = rw (p) (rec (sym (rw q) ∙ d))
    go true p false q d rec = absurd (above (leb-true n l p) h (leb-false n k q))
    go false p u q d rec = rw p

limit-within : (limit : ℕ) (ns : List ℕ) → all_within max_u64 ns ≡ true → within_limit limit ns ≡ all_within limit ns
unfolding within_limit
limit-within limit ns h = go (eqb limit max_u64) refl
  where
    go : (t : Bool) → eqb limit max_u64 ≡ t → (t || all_within limit ns) ≡ all_within limit ns
    go true e = sym (ap (λ (l : ℕ). all_within l ns) (eqb-true limit max_u64 e) ∙ h)
    go false e = refl

-- The list that the walk leaves: a zero for the root, and the numbers below it.
module _ (entry : List ℕ) (n : ℕ) (h : length entry ≡ n) (p : 1 ≤ n) (z : Zeros entry 0 n) (vs : List ℕ) (l : length vs ≡ n - 1) where
  numbers-left : sets entry (0 + 1) vs ≡ 0 ∷ vs
  numbers-left =
      sets-eq vs entry 1 (omega arith)
      ∙ ap₂ (λ (x y : List ℕ). x ++ vs ++ y) (take-suc entry 0 0 (omega arith) ∙ ap (λ (x : ℕ). x ∷ []) (z 0 (omega arith))) (drop_of_length-le entry {i = 1 + length vs} (omega arith))
      ∙ ap (λ (x : List ℕ). 0 ∷ x) (append-nil vs)

module _ (limit : ℕ) (g : limit ≤ max_u64) (x : Extent) (below : List ℕ) where
  -- What is found with numbers that are cut off is what is so.
  finished-answer : finished limit (placed_of x (all_within max_u64 below)) (0 ∷ map stored below) ≡ fitted limit x (0 ∷ below)
  unfolding finished placed_of fitted all_within
  finished-answer = go (all_within max_u64 below) refl
    where
      zero-too : all_within max_u64 below ≡ true → all_within max_u64 (0 ∷ below) ≡ true
      zero-too e = rw (le-leb 0 max_u64 (omega arith)) e

      large : (t : Bool) → leb x.bytes max_u64 ≡ t → all_within max_u64 below ≡ true
          → finish_by limit x.alignment (0 ∷ below) true (fit x.bytes) ≡ cond (leb x.bytes limit && all_within limit (0 ∷ below)) (Ok (Some (x.bytes, x.alignment))) (Err SizeTooLarge)
      large true e f = ap (finish_by limit x.alignment (0 ∷ below) true) (fit-le x.bytes (leb-true x.bytes max_u64 e))
          ∙ ap (λ t. cond (leb x.bytes limit && t) (Ok (Some (x.bytes, x.alignment))) (Err SizeTooLarge)) (limit-within limit (0 ∷ below) (zero-too f))
      large false e f = let q = leb-false x.bytes max_u64 e in
          ap (finish_by limit x.alignment (0 ∷ below) true) (fit-gt x.bytes q) ∙ sym (rw (lt-leb x.bytes limit (omega arith)))

      go : (t : Bool) → all_within max_u64 below ≡ t → finish_by limit x.alignment (0 ∷ map stored below) t (fit x.bytes)
          ≡ cond (leb x.bytes limit && all_within limit (0 ∷ below)) (Ok (Some (x.bytes, x.alignment))) (Err SizeTooLarge)
      go true e = ap (λ (v : List ℕ). finish_by limit x.alignment (0 ∷ v) true (fit x.bytes)) (all-stored below e) ∙ large (leb x.bytes max_u64) refl e
      go false e = sym (rw (within-lower limit max_u64 below g e, and-false (leb 0 limit), and-false (leb x.bytes limit)))

  finished-list : (list : List ℕ) → list_after (finished limit (placed_of x (all_within max_u64 below)) (0 ∷ map stored below)) (0 ∷ map stored below) list
      ≡ list_after (fitted limit x (0 ∷ below)) (0 ∷ below) list
  unfolding fitted all_within
  finished-list list = ap (λ a. list_after a (0 ∷ map stored below) list) finished-answer ∙ go (all_within max_u64 below) refl
    where
      go : (t : Bool) → all_within max_u64 below ≡ t → list_after (fitted limit x (0 ∷ below)) (0 ∷ map stored below) list ≡ list_after (fitted limit x (0 ∷ below)) (0 ∷ below) list
      go true e = ap (λ (v : List ℕ). list_after (fitted limit x (0 ∷ below)) (0 ∷ v) list) (all-stored below e)
      go false e = rw (within-lower limit max_u64 below g e, and-false (leb 0 limit), and-false (leb x.bytes limit))

-- The same for the walk of the root.
module _ (m : Widths) (s w : List ℕ) (n : ℕ) (c : count_at w 0 ≡ n) (p : 1 ≤ n) (entry exit : List ℕ) (h : length entry ≡ n) (z : Zeros entry 0 n)
    (x : Placed) (l : LaidBelow m s w 0 entry exit x) (limit : ℕ) (g : limit ≤ max_u64) where
  exit-is : exit ≡ 0 ∷ map stored (offsets_below m s w 0)
  exit-is = l.list ∙ numbers-left entry n h p z (map stored (offsets_below m s w 0)) (map-length stored (offsets_below m s w 0) ∙ below_length m s w 0 ∙ ap (λ (k : ℕ). k - 1) c)

  pub walked-answer : {r : Result (Option (ℕ × ℕ)) Refusal} → r ≡ finished limit x exit → r ≡ fitted_at m s w limit
  unfolding fitted_at numbers_at
  walked-answer e = e ∙ ap₂ (finished limit) l.takes exit-is ∙ finished-answer limit g (extent_at m s w 0) (offsets_below m s w 0)

  pub walked-list : (list : List ℕ) {after : List ℕ} → after ≡ list_after (finished limit x exit) exit list → after ≡ list_at m s w limit list
  unfolding list_at fitted_at numbers_at
  walked-list list e = e ∙ ap₂ (λ (y : Placed) (v : List ℕ). list_after (finished limit y v) v list) l.takes exit-is
      ∙ finished-list limit g (extent_at m s w 0) (offsets_below m s w 0) list

-- ---- Zeros that are lent.

pub zeros-lent : (m n : ℕ) → n ≤ m → (length (take (n - 0) (replicate {A = ℕ} m 0)) ≡ n) × ((k : ℕ) → k < n → get_or (take (n - 0) (replicate {A = ℕ} m 0)) (0 + k) 0 ≡ 0)
zeros-lent m n h = (
  length-take-le (n - 0) (replicate {A = ℕ} m 0) (let e = length-replicate {A = ℕ} m 0 in omega arith) ∙ (omega arith),
  λ k g. get_or-take (n - 0) (replicate {A = ℕ} m 0) (0 + k) 0 (omega arith) ∙ get_or-replicate {A = ℕ} m (0 + k) 0 0 (omega arith),
)

-- A part of them that was lent, when it is back before the others.
module _ (n : ℕ) (xs ys : List ℕ) (e : length xs ≡ n) where
  pub back-within : n ≤ length (xs ++ ys)
  back-within = simp length-append (omega arith)

  pub back-taken : take (n - 0) (xs ++ ys) ≡ xs
  back-taken = take_at xs ys (n - 0) (omega arith)

-- ---- From the pass to the answer.

layout-found : (row : ℕ) (t : Trees) → layout_of row t ≡ by_found (found_in (widths row) false (laid_out Top 0 t)) (fitted (max_size row) (extent (widths row) t) (offsets_in row t))
unfolding layout_of found_in
layout-found row t = go (first_bit_field (laid_out Top 0 t)) (any_sizeless (widths row) (laid_out Top 0 t)) (fitted (max_size row) (extent (widths row) t) (offsets_in row t))
  where
    go : (o : Option ℕ) (b : Bool) (a : Result (Option (ℕ × ℕ)) Refusal) → unless_bit_field o (cond b (Ok None) a) ≡ by_found (unless_found o (cond (false || b) F.Nothing F.Sized)) a
    go (Some i) b a = refl
    go None true a = refl
    go None false a = refl

module _ (m : Widths) (s w : List ℕ) (limit : ℕ) {n : ℕ} (c : count_at w 0 ≡ n) {f : Found} (e : f ≡ found_in m false (laid_out Top 0 (trees s w n 0))) where
  answer-is : answer_at m s w limit ≡ by_found f (fitted_at m s w limit)
  unfolding answer_at
  answer-is = ap (λ k. by_found (found_in m false (laid_out Top 0 (trees s w k 0))) (fitted_at m s w limit)) c ∙ ap (λ g. by_found g (fitted_at m s w limit)) (sym e)

  -- The answer and the list after it, by what was found.
  pub answer-by : {r : Result (Option (ℕ × ℕ)) Refusal} → r ≡ by_found f (fitted_at m s w limit) → r ≡ answer_at m s w limit
  answer-by d = d ∙ sym answer-is

  pub list-by : (list : List ℕ) {after : List ℕ} → after ≡ list_after (by_found f (fitted_at m s w limit)) (numbers_at m s w) list → after ≡ list_for m s w limit list
  unfolding list_for
  list-by list d = d ∙ sym (ap (λ a. list_after a (numbers_at m s w) list) answer-is)

module _ (row : ℕ) (h : row < 4) (s w : List ℕ) (n : ℕ) (root : NodeAt w 0) (c : count_at w 0 ≡ n) where
  root-extent : extent (widths row) (trees s w n 0) ≡ extent_at (widths row) s w 0
  unfolding extent only_extent
  root-extent = ap only_extent (extents-step (widths row) s w 0 n root.some-node (omega arith))

  root-offsets : offsets_in row (trees s w n 0) ≡ numbers_at (widths row) s w
  unfolding offsets_in numbers_at
  root-offsets = offsets-step (widths row) s w 0 n root.some-node (omega arith) others 0
      ∙ ap (λ (xs : List ℕ). 0 ∷ (offsets_below (widths row) s w 0 ++ xs)) (no-offsets (widths row) others _ s w (n - count_at w 0) _ (omega arith))
      ∙ ap (λ (xs : List ℕ). 0 ∷ xs) (append-nil (offsets_below (widths row) s w 0))

  -- The layout by what the pass found.
  layout_is : layout_of row (trees s w n 0) ≡ by_found (found_in (widths row) false (laid_out Top 0 (trees s w n 0))) (fitted_at (widths row) s w (max_size row))
  unfolding fitted_at
  layout_is = layout-found row (trees s w n 0)
      ∙ ap₂ (λ (x : Extent) (ns : List ℕ). by_found (found_in (widths row) false (laid_out Top 0 (trees s w n 0))) (fitted (max_size row) x ns)) root-extent root-offsets

  room-answer : (room : ℕ) → n ≤ room → layout_in row room (trees s w n 0) ≡ layout_of row (trees s w n 0)
  unfolding layout_in
  room-answer room r = rw (le-leb row 3 (omega arith), trees-count s w n 0, le-leb n room r)

  module _ (list : List ℕ) (r : n ≤ length list) where
    in_row : answer_at (widths row) s w (max_size row) ≡ layout_in row (length list) (trees s w n 0)
    in_row = answer-is (widths row) s w (max_size row) c refl ∙ sym (room-answer (length list) r ∙ layout_is)

    pub row-answer : {a : Result (Option (ℕ × ℕ)) Refusal} → a ≡ answer_at (widths row) s w (max_size row) → a ≡ layout_in row (length list) (trees s w n 0)
    row-answer d = d ∙ in_row

    pub row_list : {after : List ℕ} → after ≡ list_for (widths row) s w (max_size row) list → after ≡ list_in row (trees s w n 0) list
    unfolding list_in list_for
    row_list d = d ∙ ap₂ (λ (a : Result (Option (ℕ × ℕ)) Refusal) (ns : List ℕ). list_after a ns list) in_row (sym root-offsets)

pub listed : (m : Widths) (s w : List ℕ) (limit : ℕ) (list : List ℕ) → list_at m s w limit list ≡ list_after (fitted_at m s w limit) (numbers_at m s w) list
unfolding list_at
listed m s w limit list = refl

-- No such row, or a list that is too short.
module _ (row : ℕ) (t : Trees) (list : List ℕ) where
  pub no-row-answer : 4 ≤ row → (Err NoSuchRow ≡ layout_in row (length list) t) × (list ≡ list_in row t list)
  unfolding layout_in list_in
  no-row-answer h = (sym refused, sym (ap (λ a. list_after a (offsets_in row t) list) refused))
    where
      refused : layout_in row (length list) t ≡ Err NoSuchRow
      refused = rw (lt-leb row 3 h)

  pub short-answer : row < 4 → length list < count t → (Err ListTooShort ≡ layout_in row (length list) t) × (list ≡ list_in row t list)
  unfolding layout_in list_in
  short-answer h g = (sym refused, sym (ap (λ a. list_after a (offsets_in row t) list) refused))
    where
      refused : layout_in row (length list) t ≡ Err ListTooShort
      refused = rw (le-leb row 3 (omega arith), lt-leb (count t) (length list) g)

-- ---- A tree that is one code.

small_size : (row n : ℕ) → n < 256 → n ≤ max_size row
unfolding max_size
small_size row n h = go (eqb row 2)
  where
    go : (t : Bool) → n ≤ cond t max_u32 max_u64
    go true = omega arith
    go false = omega arith

set_first : (list : List ℕ) → 0 < length list → set list 0 0 ≡ 0 ∷ drop 1 list
set_first [] h = absurd (omega arith)
set_first (x ∷ xs) h = refl

module _ (row k : ℕ) where
  abbrev lone : Trees
  lone = node (primitive k) end end

  abbrev lone-part : Part
  lone-part = record { number = 0; label = primitive k; showing = shows (primitive k) Top; empty = true }

  lone_parts : laid_out Top 0 lone ≡ lone-part ∷ []
  unfolding laid_out is_end
  lone_parts = go (shows (primitive k) Top && not (is_pointer (primitive k)))
    where
      go : (t : Bool) → lone-part ∷ (cond t [] [] ++ []) ≡ lone-part ∷ []
      go true = refl
      go false = refl

  pub lone-count : {n : ℕ} → n < 1 → n < count lone
  unfolding count
  lone-count h = h

  lone-offsets : offsets_in row lone ≡ 0 ∷ []
  unfolding offsets_in offsets holds_inside count
  lone-offsets = refl

  lone-layout : {b : Bool} → is_none (primitive_size (widths row) k) ≡ b
      → layout_of row lone ≡ cond b (Ok None) (fitted (max_size row) (primitive_extent (widths row) k) (0 ∷ []))
  unfolding layout_of first_bit_field is_bit_field any_sizeless sizeless extent only_extent extents node_extent
  lone-layout {b} e =
      ap (λ ps. unless_bit_field (first_bit_field ps) (cond (any_sizeless (widths row) ps) (Ok None) (fitted (max_size row) (extent (widths row) lone) (offsets_in row lone)))) lone_parts
      ∙ ap₂ (λ (t : Bool) (ns : List ℕ). cond (t || false) (Ok None) (fitted (max_size row) (primitive_extent (widths row) k) ns)) e lone-offsets
      ∙ go b (fitted (max_size row) (primitive_extent (widths row) k) (0 ∷ []))
    where
      go : (t : Bool) (a : Result (Option (ℕ × ℕ)) Refusal) → cond (t || false) (Ok None) a ≡ cond t (Ok None) a
      go true a = refl
      go false a = refl

  -- Its answer by a row of the table, and the list after it.
  module _ (h : row < 4) (g : k < 24) (sizes : List ℕ) (o : RowOf sizes (widths row)) {b : ℕ} (e : b ≡ get_or sizes k 0) (list : List ℕ) (l : 0 < length list) where
    lone-answer : layout_in row (length list) lone ≡ cond (eqb b 0) (Ok None) (fitted (max_size row) (plain_extent sizes k) (0 ∷ []))
    unfolding layout_in count
    lone-answer =
        rw (le-leb row 3 (omega arith), le-leb 1 (length list) l)
        (lone-layout (ap is_none (sym (o.codes k g)) ∙ none-entry (get_or sizes k 0) ∙ ap (λ n. eqb n 0) (sym e))
        ∙ ap (λ x. cond (eqb b 0) (Ok None) (fitted (max_size row) x (0 ∷ []))) (primitive-extent sizes (widths row) o k g))

    pub code-nothing : b ≡ 0 → ((Ok None) ≡ layout_in row (length list) lone) × (list ≡ list_in row lone list)
    unfolding list_in
    code-nothing z = (sym none-there, sym (ap (λ a. list_after a (offsets_in row lone) list) none-there))
      where
        none-there : layout_in row (length list) lone ≡ Ok None
        none-there = lone-answer ∙ rw z

    pub code-bytes : (b ≡ 0 → ⊥) → Powers sizes → {a : ℕ} → a ≡ get_or sizes (part_kind k) 0
        → (Ok (Some (b, a)) ≡ layout_in row (length list) lone) × (set list 0 0 ≡ list_in row lone list)
    unfolding list_in fitted all_within plain_extent
    code-bytes z p {a} f = (sym laid, set_first list l ∙ sym (ap₂ (λ (x : Result (Option (ℕ × ℕ)) Refusal) (ns : List ℕ). list_after x ns list) laid lone-offsets))
      where
        some : 0 < get_or sizes k 0
        some = omega arith

        positive : 0 < get_or sizes (part_kind k) 0
        positive = (p k g some).0.0

        low : b < 256
        low = let q = (p k g some).1 in omega arith

        takes : plain_extent sizes k ≡ record { bytes = b; alignment = a }
        takes = rw (lt-ltb k 24 g) (ap₂ (λ (x y : ℕ). record { bytes = x; alignment = y }) (sym e) (let q = positive in omega arith))

        laid : layout_in row (length list) lone ≡ Ok (Some (b, a))
        laid = lone-answer ∙ rw (ne_eqb b 0 z, takes, le-leb b (max_size row) (small_size row b low), le-leb 0 (max_size row) (omega arith))

-- ---- The call.

module _ (row : ℕ) (words names list : List ℕ) where
  pub layout-refused : {r : Refusal} → held words names ≡ refused r → (Err r ≡ layout_answer row words names list) × (list ≡ layout_list row words names list)
  unfolding layout_answer layout_list
  layout-refused h = (answer-refused Err words names (layout_in row (length list)) h, answer-refused (λ r. list) words names (λ t. list_in row t list) h)

  pub layout_code : {k : ℕ} → CodeIn words names k → {r : Result (Option (ℕ × ℕ)) Refusal} {after : List ℕ} → r ≡ layout_in row (length list) (node (primitive k) end end)
      → after ≡ list_in row (node (primitive k) end end) list → (r ≡ layout_answer row words names list) × (after ≡ layout_list row words names list)
  unfolding layout_answer layout_list
  layout_code h d e = (
    d ∙ answer-held Err words names (layout_in row (length list)) h.holds,
    e ∙ answer-held (λ r. list) words names (λ t. list_in row t list) h.holds,
  )

  pub layout-nodes : {w : List ℕ} {n : ℕ} → NodesAre words names w n → {r : Result (Option (ℕ × ℕ)) Refusal} {after : List ℕ} → r ≡ layout_in row (length list) (trees names w n 0) → after ≡ list_in row (trees names w n 0) list
      → (r ≡ layout_answer row words names list) × (after ≡ layout_list row words names list)
  unfolding layout_answer layout_list
  layout-nodes h d e = (
    d ∙ answer-held Err words names (layout_in row (length list)) h.holds,
    e ∙ answer-held (λ r. list) words names (λ t. list_in row t list) h.holds,
  )
