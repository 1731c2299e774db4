-- Sound sheets, and what the calls answer for a sheet and for sheets with equal shown parts (01, "Shown part", "Printed text", "Sound").
use Rattle.std.specs.Prelude.{ℕ, ◌≤◌, Bool, true, false, List, ◌≡◌, length}
use Rattle.kinds.specs.Compare.{compare_encodings}
use Rattle.kinds.specs.Expect.{equivalent_to_str}
use Rattle.kinds.specs.Print.{print}
use Rattle.kinds.specs.Sheet.{max_text}
use Rattle.kinds.specs.Tree.{Trees}
use Rattle.std.specs.Prelude.{Ok}
use Rattle.kinds.specs.declared.NestingLevel.TheVariants.{Top}
use Rattle.sheet.specs.Answer.{held, holding}
use Rattle.expect.specs.Answer.{compared}
use Rattle.helper.specs.Answer.{sized_in, size_answer, compare_answer}
use Rattle.static_str.specs.Answer.{fitted, placed, encoding_len, encoding_array, encoding_output}
use Rattle.agreement.specs.Sound.{sound}

-- The lists begin with a sheet without bad names, and it holds `t`.
pub record SheetOf (words names : List ℕ) (t : Trees) : Type 0 where
  pub holds : held words names ≡ holding t

-- 01's sound sheet.
pub record SoundSheet (words names : List ℕ) (t : Trees) : Type 0 where
  pub sheet : SheetOf words names t
  pub sound-tree : sound t ≡ true

-- What the calls answer and leave for a sheet of `t`: none of them refuses it by 3 or 4.
pub record Answered (words names : List ℕ) (t : Trees) : Type 0 where
  pub lengths : encoding_len words names ≡ Ok (length (print Top t))
  pub prints : (room : ℕ) → encoding_array words names room ≡ fitted (print Top t) room
  pub outputs : (out : List ℕ) → encoding_output words names out ≡ placed (print Top t) out
  -- In every row, and where the number is no row's.
  pub sizes : (row : ℕ) → size_answer row words names ≡ sized_in row t
  -- By levels and with all fields, with another sheet on either side.
  pub trees : (all : Bool) (cw cn : List ℕ) (u : Trees) → SheetOf cw cn u
      → (compare_answer all words names cw cn ≡ Ok (compare_encodings all Top t u)) × (compare_answer all cw cn words names ≡ Ok (compare_encodings all Top u t))
  pub texts : (text : List ℕ) → length text ≤ max_text → compared words names text ≡ Ok (equivalent_to_str t text)

-- The calls answer the same for either of two sheets and leave the same in a lent output.
pub record SheetsAlike (aw an bw bn : List ℕ) : Type 0 where
  pub lengths : encoding_len aw an ≡ encoding_len bw bn
  pub prints : (room : ℕ) → encoding_array aw an room ≡ encoding_array bw bn room
  pub outputs : (out : List ℕ) → encoding_output aw an out ≡ encoding_output bw bn out
  -- In every row.
  pub sizes : (row : ℕ) → size_answer row aw an ≡ size_answer row bw bn
  -- By levels, with any lists on the other side.
  pub first : (cw cn : List ℕ) → compare_answer false aw an cw cn ≡ compare_answer false bw bn cw cn
  pub second : (cw cn : List ℕ) → compare_answer false cw cn aw an ≡ compare_answer false cw cn bw bn
  -- With any text.
  pub texts : (text : List ℕ) → compared aw an text ≡ compared bw bn text
