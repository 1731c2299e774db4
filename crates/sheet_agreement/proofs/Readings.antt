-- What readings leave, and a print read back: the statements, over the very definitions that the calls are proved to equal.
use Prim.Native.Nat.{ℕ, ◌≤◌}
use mathlib.Core.List.{List}
use mathlib.Core.Logic.{◌⊎◌}
use Rattle.std.specs.Prelude.{Some}
use mathlib.Core.Path.{◌≡◌}
use lib.ListN.{length, take}
use Rattle.kinds.specs.Parse.{from_str, from_start_of_str}
use Rattle.kinds.specs.Sheet.{max_text}
use Rattle.kinds.specs.Strict.{from_str_strict}
use Rattle.kinds.specs.Tree.{Trees, shown}
use Rattle.kinds.specs.declared.NestingLevel.TheVariants.{Top}
use Rattle.parse.specs.Answer.{used, whole_tree, from_str_answer, from_str_words, from_str_names, start_tree, from_start_answer, from_start_words, from_start_names}
use Rattle.parse.specs.Answer.{from_str_strict_answer, from_str_strict_words, from_str_strict_names}
use Rattle.std.specs.Prelude.{Ok}
use Rattle.static_str.specs.Answer.{encoding_array, encoding_output}
use Rattle.sheet_agreement.specs.Sheets.{SheetOf, SoundSheet}
use Rattle.sheet_agreement.specs.StrictCalls.{CallsAlike, CallRefuses}
use Rattle.sheet_agreement.proofs.StrictLaws.{calls, strict-leaves, strict-back}
use Rattle.sheet_agreement.proofs.ReadingLaws.{whole-leaves, start-leaves, back}

-- What an accepted whole-text reading leaves is a sheet without bad names that holds the tree read.
pub reading-leaves : (text words names : List ℕ) → from_str_answer text words names ≡ Ok tt
    → (t : Trees) × (whole_tree (from_str text) ≡ Some t) × SheetOf (from_str_words text words names) (from_str_names text words names) t
reading-leaves = whole-leaves

-- And so is what an accepted reading from the start leaves.
pub start-reading-leaves : (text words names : List ℕ) → from_start_answer text words names ≡ Ok tt
    → (t : Trees) × (start_tree (from_start_of_str text) ≡ Some t) × SheetOf (from_start_words text words names) (from_start_names text words names) t
start-reading-leaves = start-leaves

-- A sound sheet was printed in `k` bytes, at most 2,000. Read back into lists with room, they are accepted, and what is left is a sheet that holds
-- the shown part.
pub print-read-back : (words names out w n : List ℕ) (t : Trees) (k : ℕ) → SoundSheet words names t → encoding_array words names (length out) ≡ Ok k → k ≤ max_text → used k ≤ length w → k ≤ length n
    → (from_str_answer (take k (encoding_output words names out)) w n ≡ Ok tt)
    × SheetOf (from_str_words (take k (encoding_output words names out)) w n) (from_str_names (take k (encoding_output words names out)) w n) (shown Top t)
print-read-back = back

-- ---- Strict reading.

-- Of every text and all lent lists: strict reading answers as whole-text reading does and leaves the same in both lists, or it refuses by 19 the first number
-- with a surplus zero that whole-text reading meets, and clears them.
pub strict-calls : (text words names : List ℕ) → CallsAlike text words names ⊎ CallRefuses text words names
strict-calls = calls

-- What an accepted strict reading leaves is such a sheet too.
pub strict-reading-leaves : (text words names : List ℕ) → from_str_strict_answer text words names ≡ Ok tt
    → (t : Trees) × (whole_tree (from_str_strict text) ≡ Some t) × SheetOf (from_str_strict_words text words names) (from_str_strict_names text words names) t
strict-reading-leaves = strict-leaves

-- A printed registration is never turned away: the print of a sound sheet is read strictly too, and leaves the shown part.
pub print-read-strictly : (words names out w n : List ℕ) (t : Trees) (k : ℕ) → SoundSheet words names t → encoding_array words names (length out) ≡ Ok k → k ≤ max_text → used k ≤ length w → k ≤ length n
    → (from_str_strict_answer (take k (encoding_output words names out)) w n ≡ Ok tt)
    × SheetOf (from_str_strict_words (take k (encoding_output words names out)) w n) (from_str_strict_names (take k (encoding_output words names out)) w n) (shown Top t)
print-read-strictly = strict-back
