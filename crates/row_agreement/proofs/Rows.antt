-- What holds of sizes on all machines, and of the call `size` in all rows: the statements over the definitions of kinds (Primitive.antt, Size.antt), helper (Answer.antt)
-- and this crate. The work is in the files below this one. That sheets with equal shown parts answer alike in every row is `sheets-alike` of sheet_agreement.
use Prim.Native.Nat.{ℕ, ◌≤◌, ◌<◌}
use mathlib.Core.Bool.{true, false}
use mathlib.Core.List.{List}
use mathlib.Core.Logic.{◌↔◌}
use Rattle.std.specs.Prelude.{Some, None}
use mathlib.Core.Path.{◌≡◌, refl}
use Rattle.kinds.specs.Level.{shows_fields}
use Rattle.kinds.specs.Parse.{max_u32, max_u64}
use Rattle.kinds.specs.Primitive.{Widths, is_row, widths, size_rows}
use Rattle.kinds.specs.Size.{is_none, sizes, size}
use Rattle.kinds.specs.Tree.{Trees, end, node, array, struct, union}
use Rattle.kinds.specs.declared.NestingLevel.{NestingLevel}
use Rattle.kinds.specs.declared.NestingLevel.TheVariants.{Within}
use Rattle.kinds.specs.declared.Refusal.{Refusal}
use Rattle.kinds.specs.declared.Refusal.TheVariants as R
use Rattle.sheet.specs.Answer.{held, refused, holding}
use Rattle.helper.specs.Answer.{max_size, sized_in, size_answer}
use Rattle.std.specs.Prelude.{Ok, Err}
use Rattle.row_agreement.specs.Cases.{AllHold, cases, table}
use Rattle.row_agreement.specs.Lacking.{size_from, one_none, all_none, no_long_double, no_long, ints_for_longs}
use Rattle.row_agreement.proofs.AnswerLaws.{refused-answer, no_row, from-no-row, answer-nothing, answer-bytes, answer-large, other-answer, struct-answer, zero-answer, intel-alike, guide-alike, guide-ints}
use Rattle.row_agreement.proofs.CasesHold.{all_hold, table-holds}
use Rattle.row_agreement.proofs.CodeLaws.{without-long-double, without-long, ints-for-longs}
use Rattle.row_agreement.proofs.NoneLaws.{size_none, struct-none, union-none, zero-items}

-- ---- Trees, on all machines.

module _ (w : Widths) (v : NestingLevel) where
  -- A tree has a size on one machine exactly if it has one on every machine.
  pub sized-anywhere : (u : Widths) (t : Trees) → is_none (size_from w v t) ≡ is_none (size_from u v t)
  sized-anywhere u = size_none w u v

  -- A struct that shows its fields has none exactly if a field has none, however large the others are; a union, if no member has one.
  pub none_first : shows_fields v ≡ true → (s : List ℕ) (cs ts : Trees) → is_none (size_from w v (node (struct s) cs ts)) ≡ one_none (sizes w Within cs)
  none_first = struct-none w v

  pub none_last : shows_fields v ≡ true → (s : List ℕ) (cs ts : Trees) → is_none (size_from w v (node (union s) cs ts)) ≡ all_none (sizes w Within cs)
  none_last = union-none w v

  -- 0 times any size is 0: an array of no items has 0 bytes if an item has a size on some machine, however large.
  pub zero-times : (u : Widths) (t ts : Trees) → is_none (size_from u v t) ≡ false → size_from w v (node (array 0) t ts) ≡ Some 0
  zero-times u = zero-items w u v

module _ (w u : Widths) where
  -- Two machines that differ in long double alone give the same sizes to trees without it.
  pub long-double-alone : w.long ≡ u.long → w.unsigned-long ≡ u.unsigned-long → w.pointer ≡ u.pointer → (t : Trees) → no_long_double t ≡ true → size w t ≡ size u t
  long-double-alone = without-long-double w u

  -- Two that differ in long alone give the same sizes to trees without it.
  pub long-alone : w.unsigned-long ≡ u.unsigned-long → w.pointer ≡ u.pointer → w.long-double ≡ u.long-double → (t : Trees) → no_long t ≡ true → size w t ≡ size u t
  long-alone = without-long w u

  -- If the first of these two has a long of 4 bytes, it measures each tree as the other does with an int in the place of each long.
  pub long-as-int : w.unsigned-long ≡ u.unsigned-long → w.pointer ≡ u.pointer → w.long-double ≡ u.long-double → w.long ≡ 4 → (t : Trees) → size w t ≡ size u (ints_for_longs t)
  long-as-int = ints-for-longs w u

-- ---- The call, for all lists.

module _ (words names : List ℕ) where
  module _ (row : ℕ) where
    -- Refusals 3 and 4 go first, whatever the row number.
    pub lists-first : {r : Refusal} → held words names ≡ refused r → size_answer row words names ≡ Err r
    lists-first = refused-answer row words names

    -- Refusal 20 comes exactly where the lists hold a tree and no row has this number.
    pub no-such-row : (size_answer row words names ≡ Err R.NoSuchRow) ↔ ((t : Trees) × (held words names ≡ holding t) × (is_row row ≡ false))
    no-such-row = (from-no-row row words names, λ e. no_row row words names e.1 e.2)

    -- In a row that there is, the exact size decides: none, at most the row's largest, or refusal 6.
    module _ {t : Trees} (h : held words names ≡ holding t) (r : is_row row ≡ true) where
      pub without-size : (size_answer row words names ≡ Ok None) ↔ (size (widths row) t ≡ None)
      without-size = answer-nothing row words names h r

      pub in_bytes : (n : ℕ) → (size_answer row words names ≡ Ok (Some n)) ↔ ((size (widths row) t ≡ Some n) × (n ≤ max_size row))
      in_bytes = answer-bytes row words names h r

      pub too_large_lem : (size_answer row words names ≡ Err R.SizeTooLarge) ↔ ((n : ℕ) × (size (widths row) t ≡ Some n) × (max_size row < n))
      too_large_lem = answer-large row words names h r

  -- No size in one row, no size in any.
  pub without-size-anywhere : (row other : ℕ) → is_row row ≡ true → is_row other ≡ true → size_answer row words names ≡ Ok None → size_answer other words names ≡ Ok None
  without-size-anywhere = other-answer words names

  -- None goes before too large: a struct with a field that has none has none in every row, however large the others are.
  pub none-before-large : (row : ℕ) (u : Widths) (s : List ℕ) (cs : Trees) → held words names ≡ holding (node (struct s) cs end) → one_none (sizes u Within cs) ≡ true → is_row row ≡ true
      → size_answer row words names ≡ Ok None
  none-before-large = struct-answer words names

  -- 0 times too large is 0: an array of no items has 0 bytes in every row if an item has a size on some machine, however large.
  pub zero-times-large : (row : ℕ) (u : Widths) (t : Trees) → held words names ≡ holding (node (array 0) t end) → is_none (size u t) ≡ false → is_row row ≡ true
      → size_answer row words names ≡ Ok (Some 0)
  zero-times-large = zero-answer words names

  -- Rows 0 and 1 answer alike for trees without long double.
  pub intel-as-arm : {t : Trees} → held words names ≡ holding t → no_long_double t ≡ true → size_answer 1 words names ≡ size_answer 0 words names
  intel-as-arm = intel-alike words names

  -- Rows 0 and 3 answer alike for trees without long.
  pub guide-as-arm : {t : Trees} → held words names ≡ holding t → no_long t ≡ true → size_answer 3 words names ≡ size_answer 0 words names
  guide-as-arm = guide-alike words names

  -- Row 3 answers for each tree as row 0 does for the tree with an int in the place of each long.
  pub guide-long : {t : Trees} → held words names ≡ holding t → size_answer 3 words names ≡ sized_in 0 (ints_for_longs t)
  guide-long = guide-ints words names

-- Refusal 6 begins above 2^64 - 1, in row 2 above 2^32 - 1.
pub largest-sizes : (max_size 0 ≡ max_u64) × (max_size 1 ≡ max_u64) × (max_size 2 ≡ max_u32) × (max_size 3 ≡ max_u64)
unfolding max_size
largest-sizes = (refl, refl, refl, refl)

-- ---- The table of sizes is what the widths give, and each case holds.

pub size-table : size_rows ≡ table
size-table = table-holds

pub row-cases : AllHold cases
row-cases = all_hold
