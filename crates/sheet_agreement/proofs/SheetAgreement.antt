-- Demand 3 and equal shown parts over sheets: the statements, over the very definitions that the calls are proved to equal.
use Prim.Native.Nat.{ℕ, ◌≤◌}
use mathlib.Core.Bool.{Bool, false}
use mathlib.Core.List.{List, ◌++◌}
use mathlib.Core.Logic.{◌↔◌}
use mathlib.Core.Path.{◌≡◌, ap, sym, ◌∙◌}
use lib.ListN.{length, drop}
use borrow.Author.Tests.{le-leb}
use Rattle.kinds.specs.Compare.{equivalent_to}
use Rattle.kinds.specs.Print.{print}
use Rattle.kinds.specs.Sheet.{max_text}
use Rattle.kinds.specs.Tree.{Trees, shown}
use Rattle.std.specs.Prelude.{Ok}
use Rattle.kinds.specs.declared.NestingLevel.TheVariants.{Top}
use Rattle.expect.specs.Answer.{compared}
use Rattle.helper.specs.Answer.{compare_answer}
use Rattle.static_str.specs.Answer.{fitted, placed, encoding_array, encoding_output}
use Rattle.agreement.proofs.Agreement.{prints-alike, compares-alike}
use Rattle.sheet_agreement.specs.Sheets.{SheetOf, SoundSheet, Answered, SheetsAlike}
use Rattle.sheet_agreement.proofs.AnswerLaws.{print-answer, print-output, text-decided, answers, answers-alike}

-- No call refuses such a sheet by 3 or 4: each answers by the tree that it holds.
pub sheets-answered : (words names : List ℕ) (t : Trees) → SheetOf words names t → Answered words names t
sheets-answered words names t h = answers h

-- Two sheets without bad names and with equal shown parts give equal prints, sizes in every row and level comparisons.
pub sheets-alike : (aw an bw bn : List ℕ) (t u : Trees) → SheetOf aw an t → SheetOf bw bn u → shown Top t ≡ shown Top u → SheetsAlike aw an bw bn
sheets-alike aw an bw bn t u a b e = answers-alike a b e

-- The printed text is what printing writes into an output with room: these bytes at the front and nothing beyond.
pub printed-text : (words names out : List ℕ) (t : Trees) → SheetOf words names t → length (print Top t) ≤ length out
    → (encoding_array words names (length out) ≡ Ok (length (print Top t))) × (encoding_output words names out ≡ print Top t ++ drop (length (print Top t)) out)
unfolding fitted placed
printed-text words names out t h room = (rw (print-answer h (length out), le-leb _ _ room), rw (print-output h out, le-leb _ _ room))

-- Demand 3, prints: the printed texts of two sound sheets are equal exactly when their shown parts are.
pub sheets-print-alike : (aw an bw bn : List ℕ) (t u : Trees) → SoundSheet aw an t → SoundSheet bw bn u → (print Top t ≡ print Top u) ↔ (shown Top t ≡ shown Top u)
sheets-print-alike aw an bw bn t u a b = prints-alike t u a.sound-tree b.sound-tree

-- Demand 3, comparisons: where the second sheet's printed text has at most 2,000 bytes, tree against tree (either call) and tree against that
-- text give the same answer.
pub sheets-compare-alike : (aw an bw bn : List ℕ) (t u : Trees) → SoundSheet aw an t → SoundSheet bw bn u → length (print Top u) ≤ max_text
    → (answer : Bool) × (compare_answer false aw an bw bn ≡ Ok answer) × (compared aw an (print Top u) ≡ Ok answer)
unfolding equivalent_to
sheets-compare-alike aw an bw bn t u a b q = (
  equivalent_to t u,
  ((answers a.sheet).trees false bw bn u b.sheet).0,
  text-decided a.sheet (print Top u) q ∙ ap Ok (sym (compares-alike t u a.sound-tree b.sound-tree)),
)
