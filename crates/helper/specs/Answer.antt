-- What `size` and `compare_encodings` (helper.rs) answer for sheets, with 01's refusals 3, 4 and 6 and 02's 20 (N5, N6).
use Rattle.std.specs.Prelude.{ℕ, Bool, cond, List, leb, eqb}
use Rattle.std.specs.Prelude.{Option, Some, None}
use Rattle.kinds.specs.Compare.{compare_encodings}
use Rattle.kinds.specs.Parse.{max_u32, max_u64}
use Rattle.kinds.specs.Primitive.{is_row, widths}
use Rattle.kinds.specs.Size.{size}
use Rattle.kinds.specs.Tree.{Trees}
use Rattle.kinds.specs.declared.NestingLevel.TheVariants.{Top}
use Rattle.kinds.specs.declared.Refusal.TheVariants.{SizeTooLarge, NoSuchRow}
use Rattle.std.specs.Prelude.{Result, Ok, Err}
use Rattle.kinds.specs.declared.Refusal.{Refusal}
use Rattle.sheet.specs.Answer.{of_sheet, of_sheets}

-- The largest size in a row: refusal 6 begins above it.
unfoldable pub max_size : ℕ → ℕ
max_size row = cond (eqb row 2) max_u32 max_u64

-- A size of at most `limit` bytes as `size` hands it out.
unfoldable pub sized : ℕ → Option ℕ → Result (Option ℕ) Refusal
sized limit None = Ok None
sized limit (Some n) = cond (leb n limit) (Ok (Some n)) (Err SizeTooLarge)

-- A tree's size in a row, or that there is no such row.
unfoldable pub sized_in : ℕ → Trees → Result (Option ℕ) Refusal
sized_in row t = cond (is_row row) (sized (max_size row) (size (widths row) t)) (Err NoSuchRow)

-- `size`: why the lists or the row are turned away, or the size of the tree in them.
unfoldable pub size_answer : ℕ → List ℕ → List ℕ → Result (Option ℕ) Refusal
size_answer row words names = of_sheet Err (sized_in row) words names

-- `compare_encodings`: why the lists are turned away, or whether the trees in them match.
unfoldable pub compare_answer : Bool → List ℕ → List ℕ → List ℕ → List ℕ → Result Bool Refusal
compare_answer all aw an bw bn = of_sheets Err (λ t u. Ok (compare_encodings all Top t u)) aw an bw bn
