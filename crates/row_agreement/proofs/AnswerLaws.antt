-- What the call answers in a row, and what of it holds in all rows.
use Prim.Native.Nat.{ℕ, ◌≤◌, ◌<◌}
use native.Mathlib.Omega.{arith}
use mathlib.Core.Bool.{Bool, true, false, cond}
use mathlib.Core.List.{List}
use mathlib.Core.Logic.{◌↔◌}
use Rattle.std.specs.Prelude.{Option, Some, None}
use mathlib.Core.Path.{◌≡◌, refl, sym, ap, ◌∙◌}
use borrow.Author.Tests.{le-leb, lt-leb, leb-true, leb-false}
use lib.Dec.{leb}
use Rattle.kinds.specs.Parse.{max_u64}
use Rattle.kinds.specs.Primitive.{Widths, is_row, widths}
use Rattle.kinds.specs.Sheet.{is_sheet, tree_of}
use Rattle.kinds.specs.Size.{is_none, sizes, size}
use Rattle.kinds.specs.Sound.{good_names}
use Rattle.kinds.specs.Tree.{Trees, end, node, array, struct}
use Rattle.kinds.specs.declared.NestingLevel.TheVariants.{Top, Within}
use Rattle.kinds.specs.declared.Refusal.{Refusal}
use Rattle.kinds.specs.declared.Refusal.TheVariants as R
use Rattle.sheet.specs.Answer.{Held, held, refused, holding, of_held, of_sheet}
use Rattle.helper.specs.Answer.{max_size, sized, sized_in, size_answer}
use Rattle.std.specs.Prelude.{Result, Ok, Err}
use Rattle.row_agreement.specs.Lacking.{size_from, one_none, no_long_double, no_long, ints_for_longs}
use Rattle.row_agreement.proofs.CodeLaws.{without-long-double, without-long, ints-for-longs}
use Rattle.row_agreement.proofs.NoneLaws.{size_none, struct-none, zero-items, none_is}

-- ---- What is answered in a row.

module _ (limit : ℕ) where
  sized-nothing : (x : Option ℕ) → sized limit x ≡ Ok None → x ≡ None
  unfolding sized
  sized-nothing None e = refl
  sized-nothing (Some n) e = go (leb n limit) e
    where
      go : (b : Bool) → cond b (Ok (Some n)) (Err R.SizeTooLarge) ≡ Ok None → Some n ≡ None
      go true e = cc
      go false e = cc

  sized-bytes : (x : Option ℕ) (n : ℕ) → sized limit x ≡ Ok (Some n) → (x ≡ Some n) × (n ≤ limit)
  unfolding sized
  sized-bytes None n e = let z : ◌≡◌ {A = ℕ} 0 1 = cc in absurd (omega arith)
  sized-bytes (Some m) n e = go (leb m limit) refl e
    where
      go : (b : Bool) → leb m limit ≡ b → cond b (Ok (Some m)) (Err R.SizeTooLarge) ≡ Ok (Some n) → (Some m ≡ Some n) × (n ≤ limit)
      go true d e = let q : m ≡ n = cc in (ap Some q, omega (arith, leb-true m limit d))
      go false d e = let z : ◌≡◌ {A = ℕ} 0 1 = cc in absurd (omega arith)

  sized-large : (x : Option ℕ) → sized limit x ≡ Err R.SizeTooLarge → (n : ℕ) × (x ≡ Some n) × (limit < n)
  unfolding sized
  sized-large None e = let z : ◌≡◌ {A = ℕ} 0 1 = cc in absurd (omega arith)
  sized-large (Some m) e = go (leb m limit) refl e
    where
      go : (b : Bool) → leb m limit ≡ b → cond b (Ok (Some m)) (Err R.SizeTooLarge) ≡ Err R.SizeTooLarge → (n : ℕ) × (Some m ≡ Some n) × (limit < n)
      go true d e = let z : ◌≡◌ {A = ℕ} 0 1 = cc in absurd (omega arith)
      go false d e = (m, refl, leb-false m limit d)

  sized-no-row : (x : Option ℕ) → sized limit x ≡ Err R.NoSuchRow → ⊥
  unfolding sized
  sized-no-row None e = let z : ◌≡◌ {A = ℕ} 0 1 = cc in omega arith
  sized-no-row (Some m) e = go (leb m limit) e
    where
      go : (b : Bool) → cond b (Ok (Some m)) (Err R.SizeTooLarge) ≡ Err R.NoSuchRow → ⊥
      go true e = let z : ◌≡◌ {A = ℕ} 0 1 = cc in omega arith
      go false e = let z : ◌≡◌ {A = ℕ} 0 1 = cc in omega arith

module _ (row : ℕ) (words names : List ℕ) where
  pub refused-answer : {r : Refusal} → held words names ≡ refused r → size_answer row words names ≡ Err r
  unfolding size_answer of_sheet
  refused-answer e = rw e

  held-answer : {t : Trees} → held words names ≡ holding t → size_answer row words names ≡ sized_in row t
  unfolding size_answer of_sheet
  held-answer e = rw e

  pub no_row : {t : Trees} → held words names ≡ holding t → is_row row ≡ false → size_answer row words names ≡ Err R.NoSuchRow
  unfolding sized_in
  no_row h e = held-answer h ∙ rw e

  pub from-no-row : size_answer row words names ≡ Err R.NoSuchRow → (t : Trees) × (held words names ≡ holding t) × (is_row row ≡ false)
  unfolding size_answer of_sheet held sized_in
  from-no-row e = go (is_sheet words names) refl (good_names (tree_of words names)) refl (is_row row) refl e
    where
      go : (x : Bool) → is_sheet words names ≡ x → (y : Bool) → good_names (tree_of words names) ≡ y → (z : Bool) → is_row row ≡ z
          → of_held Err (λ t. cond z (sized (max_size row) (size (widths row) t)) (Err R.NoSuchRow))
          (cond x (cond y (holding (tree_of words names)) (refused R.BadName)) (refused R.NotASheet)) ≡ Err R.NoSuchRow
          → (t : Trees) × (held words names ≡ holding t) × (is_row row ≡ false)
      go true a true b true c e = absurd (sized-no-row (max_size row) (size (widths row) (tree_of words names)) e)
      go true a true b false c e = (tree_of words names, rw (a, b), c)
      go true a false b z c e = let q : ◌≡◌ {A = ℕ} 0 1 = cc in absurd (omega arith)
      go false a y b z c e = let q : ◌≡◌ {A = ℕ} 0 1 = cc in absurd (omega arith)

  module _ {t : Trees} (h : held words names ≡ holding t) (r : is_row row ≡ true) where
    row-answer : size_answer row words names ≡ sized (max_size row) (size (widths row) t)
    unfolding sized_in
    row-answer = held-answer h ∙ rw r

    pub answer-nothing : (size_answer row words names ≡ Ok None) ↔ (size (widths row) t ≡ None)
    unfolding sized
    answer-nothing = (λ e. sized-nothing (max_size row) (size (widths row) t) (sym row-answer ∙ e), λ e. row-answer ∙ ap (sized (max_size row)) e)

    pub answer-bytes : (n : ℕ) → (size_answer row words names ≡ Ok (Some n)) ↔ ((size (widths row) t ≡ Some n) × (n ≤ max_size row))
    unfolding sized
    answer-bytes n = (
      λ e. sized-bytes (max_size row) (size (widths row) t) n (sym row-answer ∙ e),
      λ e. row-answer ∙ ap (sized (max_size row)) e.0 ∙ rw (le-leb n (max_size row) e.1),
    )

    pub answer-large : (size_answer row words names ≡ Err R.SizeTooLarge) ↔ ((n : ℕ) × (size (widths row) t ≡ Some n) × (max_size row < n))
    unfolding sized
    answer-large = (
      λ e. sized-large (max_size row) (size (widths row) t) (sym row-answer ∙ e),
      λ e. row-answer ∙ ap (sized (max_size row)) e.1 ∙ rw (lt-leb e.0 (max_size row) e.2),
    )

-- ---- What holds in all rows.

module _ (words names : List ℕ) where
  -- Where one machine has no size for the tree, every row that there is answers so.
  none-answer : (row : ℕ) (u : Widths) {t : Trees} → held words names ≡ holding t → is_row row ≡ true → is_none (size_from u Top t) ≡ true → size_answer row words names ≡ Ok None
  unfolding size
  none-answer row u {t} h r e = (answer-nothing row words names h r).1 (none_is (size_from (widths row) Top t) (size_none (widths row) u Top t ∙ e))

  pub other-answer : (row other : ℕ) → is_row row ≡ true → is_row other ≡ true → size_answer row words names ≡ Ok None → size_answer other words names ≡ Ok None
  unfolding size is_none
  other-answer row other r q e = go (held words names) refl
    where
      go : (x : Held) → held words names ≡ x → size_answer other words names ≡ Ok None
      go (refused why) h = let z : ◌≡◌ {A = (Result (Option ℕ) Refusal)} (Ok None) (Err why) = sym e ∙ refused-answer row words names h in refused-answer other words names h ∙ sym z
      go (holding t) h = none-answer other (widths row) h q (ap is_none ((answer-nothing row words names h r).0 e))

  pub struct-answer : (row : ℕ) (u : Widths) (s : List ℕ) (cs : Trees) → held words names ≡ holding (node (struct s) cs end) → one_none (sizes u Within cs) ≡ true → is_row row ≡ true
      → size_answer row words names ≡ Ok None
  struct-answer row u s cs h e r = none-answer row u h r (struct-none u Top refl s cs end ∙ e)

  pub zero-answer : (row : ℕ) (u : Widths) (t : Trees) → held words names ≡ holding (node (array 0) t end) → is_none (size u t) ≡ false → is_row row ≡ true → size_answer row words names ≡ Ok (Some 0)
  unfolding size
  zero-answer row u t h e r = (answer-bytes row words names h r 0).1 (zero-items (widths row) u Top t end e, omega arith)

-- ---- Rows against row 0.

module _ (words names : List ℕ) {t : Trees} (h : held words names ≡ holding t) where
  pub intel-alike : no_long_double t ≡ true → size_answer 1 words names ≡ size_answer 0 words names
  unfolding sized_in max_size
  intel-alike e = held-answer 1 words names h ∙ ap (sized max_u64) (without-long-double (widths 1) (widths 0) refl refl refl t e) ∙ sym (held-answer 0 words names h)

  pub guide-alike : no_long t ≡ true → size_answer 3 words names ≡ size_answer 0 words names
  unfolding sized_in max_size
  guide-alike e = held-answer 3 words names h ∙ ap (sized max_u64) (without-long (widths 3) (widths 0) refl refl refl t e) ∙ sym (held-answer 0 words names h)

  pub guide-ints : size_answer 3 words names ≡ sized_in 0 (ints_for_longs t)
  unfolding sized_in max_size
  guide-ints = held-answer 3 words names h ∙ ap (sized max_u64) (ints-for-longs (widths 3) (widths 0) refl refl refl refl t)
