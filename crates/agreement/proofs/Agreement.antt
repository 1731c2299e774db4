-- The agreement of what is read, printed, measured and compared: the statements over the definitions of kinds and of this crate.
-- Sound trees are those of specs/Sound.antt, shown parts those of kinds (Tree.antt). The work is in the files below this one.
use Prim.Native.Nat.{ℕ}
use mathlib.Core.Path.{◌≡◌}
use mathlib.Core.Bool.{true}
use mathlib.Core.List.{List}
use lib.ListN.{length}
use mathlib.Core.Logic.{◌↔◌}
use Rattle.kinds.specs.Compare.{equivalent_to}
use Rattle.kinds.specs.Expect.{equivalent_to_str}
use Rattle.kinds.specs.Parse.{tree, tree_then, from_str, from_start_of_str}
use Rattle.kinds.specs.Print.{print}
use Rattle.agreement.specs.Sound.{sound}
use Rattle.kinds.specs.Tree.{Label, Trees, end, node, shown}
use Rattle.kinds.specs.declared.NestingLevel.TheVariants.{Top}
use Rattle.agreement.specs.MarkedCases.{AllHold, marked_cases}
use Rattle.agreement.specs.ReadTree.{read_tree}
use Rattle.agreement.specs.Readable.{Readable}
use Rattle.agreement.specs.ShownAlike.{ShownAlike}
use Rattle.agreement.proofs.ReadLaws.{tree-readable, part-readable}
use Rattle.agreement.proofs.ShownLaws.{shown-agrees}
use Rattle.agreement.proofs.PrintsAlike.{print-read, print-agrees}
use Rattle.agreement.proofs.ComparesAlike.{compare-agrees}
use Rattle.agreement.proofs.MarkedCasesHold.{all_hold}

-- Demand 3, prints: two sound trees print the same bytes exactly when their shown parts are equal.
pub prints-alike : (A B : Trees) → sound A ≡ true → sound B ≡ true → (print Top A ≡ print Top B) ↔ (shown Top A ≡ shown Top B)
prints-alike = print-agrees

-- Demand 3, comparisons: a sound tree matches another by levels exactly when it matches the text that the other prints.
pub compares-alike : (A B : Trees) → sound A ≡ true → sound B ≡ true → equivalent_to A B ≡ equivalent_to_str A (print Top B)
compares-alike = compare-agrees

-- A sound tree's print is read, by whole-text reading, and what is read is the tree's shown part.
pub reads-back : (A : Trees) → sound A ≡ true → read_tree (print Top A) ≡ shown Top A
reads-back = print-read

-- What whole-text reading gives is a valid tree without bad names, of at most one node more than the text has bytes and no more name bytes;
-- and so is what reading from the start gives.
pub reads-readable : (text : List ℕ) (l : Label) (cs : Trees) → from_str text ≡ tree l cs → Readable (length text) (node l cs end)
reads-readable = tree-readable

pub starts-readable : (text : List ℕ) (l : Label) (cs : Trees) (rest : List ℕ) → from_start_of_str text ≡ tree_then l cs rest → Readable (length text) (node l cs end)
starts-readable = part-readable

-- Two trees with equal shown parts give equal prints, sizes on every machine and level comparisons, with trees on either side and with texts.
pub shown-alike : (A B : Trees) → shown Top A ≡ shown Top B → ShownAlike A B
shown-alike = shown-agrees

-- Each marked case of 01 holds.
pub marked-cases : AllHold marked_cases
marked-cases = all_hold
