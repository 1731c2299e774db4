-- The answers of the entry points, as the code reaches them from what the check of a sheet gives.
use Prim.Native.Nat.{ℕ, ◌≤◌, ◌<◌}
use native.Mathlib.Omega.{arith}
use mathlib.Core.Path.{◌≡◌, refl, ap, ap₂, sym, ◌∙◌}
use mathlib.Core.List.{List, ◌∷◌}
use Rattle.std.specs.Prelude.{Option, Some, None}
use mathlib.Core.Bool.{Bool, true, false, cond, and-true}
use borrow.Author.Tests.{le-leb, lt-leb, leb-false}
use lib.Dec.{leb, eqb}
use Rattle.kinds.specs.Byte.{same_bytes}
use Rattle.kinds.specs.Compare.{compare_encodings, compare_labels, compare_children, length_or_offset, bits}
use Rattle.kinds.specs.Parse.{max_u32, max_u64}
use Rattle.kinds.specs.Primitive.{equivalent, is_row, widths, size_in}
use Rattle.kinds.specs.Sheet.{trees}
use Rattle.kinds.specs.Size.{size, sizes, node_size, only}
use Rattle.kinds.specs.Tree.{end, node, primitive, kind, name, is_container}
use Rattle.kinds.specs.declared.NestingLevel.{NestingLevel}
use Rattle.kinds.specs.declared.NestingLevel.TheVariants.{Top}
use Rattle.std.specs.Prelude.{Ok, Err}
use Rattle.kinds.specs.declared.Refusal.{Refusal}
use Rattle.kinds.specs.declared.Refusal.TheVariants as R
use Rattle.kinds.proofs.PrimitiveLaws.{size_small}
use Rattle.sheet.specs.Answer.{held, refused, held_both, refused_both}
use Rattle.sheet.specs.Given.{CodeIn, NodesAre}
use Rattle.sheet.proofs.GivenLaws.{answer-refused, answer-held, answer-refused-both, answer-held-both}
use Rattle.helper.specs.Answer.{max_size, sized, sized_in, size_answer, compare_answer}
use Rattle.helper.specs.Measure.{fit, clip, measured, size_at, answer_at, compare_fields}
use Rattle.helper.specs.declared.Measured.{Measured}
use Rattle.helper.specs.declared.Measured.TheVariants.{Bytes, TooLarge}
use Rattle.std.specs.Prelude.{Result}
use Rattle.helper.proofs.NodeSizeLaws.{sizes_step}
use Rattle.helper.proofs.CompareLaws.{fields-some}

-- ---- `size`.

max-most : (row : ℕ) → max_u32 ≤ max_size row
unfolding max_size
max-most row = go (eqb row 2)
  where
    go : (t : Bool) → max_u32 ≤ cond t max_u32 max_u64
    go true = omega arith
    go false = omega arith

-- What is cut off at 2^64 - 1 is above every row's limit.
max_least : (row : ℕ) → max_size row ≤ max_u64
unfolding max_size
max_least row = go (eqb row 2)
  where
    go : (t : Bool) → cond t max_u32 max_u64 ≤ max_u64
    go true = omega arith
    go false = omega arith

measured-clip : (row : ℕ) (x : Option ℕ) → measured (max_size row) (clip x) ≡ sized (max_size row) x
unfolding sized clip fit
measured-clip row None = refl
measured-clip row (Some n) = go (leb n max_u64) refl
  where
    above : max_u64 < n → max_size row ≤ max_u64 → max_size row < n
    above p q = omega arith

    go : (t : Bool) → leb n max_u64 ≡ t → measured (max_size row) (cond t (Bytes n) TooLarge) ≡ cond (leb n (max_size row)) (Ok (Some n)) (Err R.SizeTooLarge)
    go true e = refl
    go false e = rw (lt-leb n (max_size row) (above (leb-false n max_u64 e) (max_least row)))

module _ (row : ℕ) where
  pub no_row : 4 ≤ row → (s w : List ℕ) → Err R.NoSuchRow ≡ answer_at row s w
  unfolding answer_at
  no_row h s w = rw (lt-leb row 3 h)

  -- the walk's size, where there is the row
  pub row-answer : row < 4 → (s w : List ℕ) {l : NestingLevel} → l ≡ Top → {m : Measured} → m ≡ clip (size_at (widths row) s w 0 l) → {n : ℕ} → n ≡ max_size row
      → {r : Result (Option ℕ) Refusal} → r ≡ measured n m → r ≡ answer_at row s w
  unfolding answer_at
  row-answer h s w {l} f e k d =
      d ∙ ap₂ measured k (e ∙ ap (λ (x : NestingLevel). clip (size_at (widths row) s w 0 x)) f)
      ∙ measured-clip row (size_at (widths row) s w 0 Top)
      ∙ rw (le-leb row 3 (omega arith))

  pub code-no-row : 4 ≤ row → (k : ℕ) → Err R.NoSuchRow ≡ sized_in row (node (primitive k) end end)
  unfolding sized_in
  code-no-row h k = rw (lt-leb row 3 h)

  code-sized : row < 4 → (k : ℕ) → sized_in row (node (primitive k) end end) ≡ sized (max_size row) (size_in row k)
  unfolding sized_in size_in size sizes node_size only
  code-sized h k = rw (le-leb row 3 (omega arith))

  code-none : row < 4 → (k : ℕ) → None ≡ size_in row k → Ok None ≡ sized_in row (node (primitive k) end end)
  unfolding sized
  code-none h k e = sym (code-sized h k ∙ ap (sized (max_size row)) (sym e))

  code-some : row < 4 → (k n : ℕ) → Some n ≡ size_in row k → Ok (Some n) ≡ sized_in row (node (primitive k) end end)
  unfolding sized
  code-some h k n e = sym (code-sized h k ∙ ap (sized (max_size row)) (sym e)
      ∙ rw (le-leb n (max_size row) (small (max_size row) (size_small row k n e) (max-most row))))
    where
      small : (x : ℕ) → n ≤ 32 → max_u32 ≤ x → n ≤ x
      small x p q = omega arith

  pub code-row : row < 4 → (k : ℕ) (o : Option ℕ) → o ≡ size_in row k → Ok o ≡ sized_in row (node (primitive k) end end)
  code-row h k None e = code-none h k e
  code-row h k (Some n) e = code-some h k n e

  module _ (words names : List ℕ) where
    pub size-refused : {r : Refusal} → held words names ≡ refused r → Err r ≡ size_answer row words names
    unfolding size_answer
    size-refused h = answer-refused Err words names (sized_in row) h

    pub size-code : {k : ℕ} → CodeIn words names k → {r : Result (Option ℕ) Refusal} → r ≡ sized_in row (node (primitive k) end end) → r ≡ size_answer row words names
    unfolding size_answer
    size-code h e = e ∙ answer-held Err words names (sized_in row) h.holds

    pub size-nodes : {w : List ℕ} {n : ℕ} → NodesAre words names w n → {r : Result (Option ℕ) Refusal} → r ≡ answer_at row names w → r ≡ size_answer row words names
    unfolding size_answer sized_in answer_at size only
    size-nodes {w} {n} h e =
        let c = h.count in
        e
        ∙ ap (λ (x : List (Option ℕ)). cond (is_row row) (sized (max_size row) (only x)) (Err R.NoSuchRow))
        (sym (sizes_step (widths row) names w 0 Top n h.root.some-node (omega arith)))
        ∙ answer-held Err words names (sized_in row) h.holds

-- ---- `compare_encodings`.

module _ (all : Bool) (aw an bw bn : List ℕ) where
  pub compare-refused : {r : Refusal} → held_both aw an bw bn ≡ refused_both r → Err r ≡ compare_answer all aw an bw bn
  unfolding compare_answer
  compare-refused h = answer-refused-both Err (λ t u. Ok (compare_encodings all Top t u)) aw an bw bn h

  codes : (k j : ℕ) → equivalent k j ≡ compare_encodings all Top (node (primitive k) end end) (node (primitive j) end end)
  unfolding compare_encodings compare_labels compare_children length_or_offset bits kind name is_container same_bytes
  codes k j = sym (and-true (equivalent k j)) ∙ sym (and-true _)

  pub compare-codes : {k j : ℕ} → CodeIn aw an k × CodeIn bw bn j → {r : Bool} → r ≡ equivalent k j → Ok r ≡ compare_answer all aw an bw bn
  unfolding compare_answer
  compare-codes {k} {j} h e =
      ap Ok (e ∙ codes k j)
      ∙ answer-held-both Err (λ t u. Ok (compare_encodings all Top t u)) aw an bw bn h.0.holds h.1.holds

  pub compare-nodes : {v u : List ℕ} {n m : ℕ} → NodesAre aw an v n → NodesAre bw bn u m → {l : NestingLevel} → l ≡ Top
      → {r : Bool} → r ≡ compare_fields all l (trees an v n 0) (trees bn u m 0) → Ok r ≡ compare_answer all aw an bw bn
  unfolding compare_answer
  compare-nodes {v} {u} {n} {m} g h {l} f e =
      ap Ok (e
      ∙ ap (λ (x : NestingLevel). compare_fields all x (trees an v n 0) (trees bn u m 0)) f
      ∙ fields-some all Top an v bn u n m 0 0 g.some h.some)
      ∙ answer-held-both Err (λ t u. Ok (compare_encodings all Top t u)) aw an bw bn g.holds h.holds
