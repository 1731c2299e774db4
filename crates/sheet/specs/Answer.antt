-- What two lent lists hold (01, refusals 3 and 4), the answers that are made of it, and what `check`, `check_both` and `code_alone` answer.
use Rattle.std.specs.Prelude.{ℕ, cond, ◌&&◌, List, [], leb, ltb, get_or}
use Rattle.kinds.specs.Refusal.{number}
use Rattle.kinds.specs.Sheet.{is_sheet, tree_of, header_words, node_words, kind_at}
use Rattle.kinds.specs.Sound.{good_names}
use Rattle.kinds.specs.Tree.{Trees}
use Rattle.kinds.specs.declared.Refusal.{Refusal}
use Rattle.kinds.specs.declared.Refusal.TheVariants.{NotASheet, BadName}
use Rattle.std.specs.Prelude.{Option, Some, None, Result, Ok, Err}
use Rattle.sheet.specs.declared.FoundBoth.{FoundBoth}
use Rattle.sheet.specs.declared.FoundBoth.TheVariants as FoundBoth
use Rattle.sheet.specs.declared.Found.{Found}
use Rattle.sheet.specs.declared.Found.TheVariants as Found

-- A tree, or why there is none.
pub data Held : Type 0 where
  refused : Refusal → Held
  holding : Trees → Held

-- Refusal 3 where the two lists begin with no sheet, refusal 4 where some container of its tree, hidden ones included, has a bad name.
unfoldable pub held : List ℕ → List ℕ → Held
held words names = cond (is_sheet words names) (cond (good_names (tree_of words names)) (holding (tree_of words names)) (refused BadName)) (refused NotASheet)

-- ---- The answers: refused, or this of the tree.

abbrev pub of_held : {A : Type 0} → (Refusal → A) → (Trees → A) → Held → A
of_held refuse tell (refused r) = refuse r
of_held refuse tell (holding t) = tell t

unfoldable pub of_sheet : {A : Type 0} → (Refusal → A) → (Trees → A) → List ℕ → List ℕ → A
of_sheet refuse tell words names = of_held refuse tell (held words names)

-- The refusal with the lower number goes first: 3 of either sheet before 4 of either.
abbrev pub sooner : Refusal → Refusal → Refusal
sooner r q = cond (leb (number r) (number q)) r q

-- Two trees, or why there are not both.
pub data HeldBoth : Type 0 where
  refused_both : Refusal → HeldBoth
  holding_both : Trees → Trees → HeldBoth

abbrev pub paired : Held → Held → HeldBoth
paired (refused r) (refused q) = refused_both (sooner r q)
paired (refused r) (holding u) = refused_both r
paired (holding t) (refused q) = refused_both q
paired (holding t) (holding u) = holding_both t u

unfoldable pub held_both : List ℕ → List ℕ → List ℕ → List ℕ → HeldBoth
held_both aw an bw bn = paired (held aw an) (held bw bn)

abbrev pub of_held_both : {A : Type 0} → (Refusal → A) → (Trees → Trees → A) → HeldBoth → A
of_held_both refuse tell (refused_both r) = refuse r
of_held_both refuse tell (holding_both t u) = tell t u

unfoldable pub of_sheets : {A : Type 0} → (Refusal → A) → (Trees → Trees → A) → List ℕ → List ℕ → List ℕ → List ℕ → A
of_sheets refuse tell aw an bw bn = of_held_both refuse tell (held_both aw an bw bn)

-- ---- The check.

-- Where the nodes begin in the words; the kind of the tree where that is one code, or how many its nodes are.
abbrev pub found : List ℕ → Found
found words = cond (ltb (kind_at (node_words words) 0) 24) (Found.Code header_words (kind_at (node_words words) 0)) (Found.Nodes header_words (get_or words 0 0))

unfoldable pub checked : List ℕ → List ℕ → Result Found Refusal
checked words names = of_sheet Err (λ t. Ok (found words)) words names

-- 01's number of the answer, and what it must be: 3 where the lists begin with no sheet, 4 where a container's name is bad, else 0.
abbrev pub checked_number : Result Found Refusal → ℕ
checked_number (Err r) = number r
checked_number (Ok x) = 0

unfoldable pub sheet_number : List ℕ → List ℕ → ℕ
sheet_number words names = cond (is_sheet words names) (cond (good_names (tree_of words names)) 0 4) 3

-- The check of two sheets; a code that stands beside another tree is one node.
abbrev pub beside : Found → Found → FoundBoth
beside (Found.Code f k) (Found.Code g j) = FoundBoth.Codes k j
beside (Found.Code f k) (Found.Nodes g m) = FoundBoth.Nodes f 1 g m
beside (Found.Nodes f n) (Found.Code g j) = FoundBoth.Nodes f n g 1
beside (Found.Nodes f n) (Found.Nodes g m) = FoundBoth.Nodes f n g m

abbrev pub both : Result Found Refusal → Result Found Refusal → Result FoundBoth Refusal
both (Err r) (Err q) = Err (sooner r q)
both (Err r) (Ok y) = Err r
both (Ok x) (Err q) = Err q
both (Ok x) (Ok y) = Ok (beside x y)

unfoldable pub checked_both : List ℕ → List ℕ → List ℕ → List ℕ → Result FoundBoth Refusal
checked_both aw an bw bn = both (checked aw an) (checked bw bn)

-- The same of two sheets: 3 is tested on both before 4 on either.
abbrev pub checked_both_number : Result FoundBoth Refusal → ℕ
checked_both_number (Err r) = number r
checked_both_number (Ok x) = 0

unfoldable pub sheets_number : List ℕ → List ℕ → List ℕ → List ℕ → ℕ
sheets_number aw an bw bn = cond (is_sheet aw an && is_sheet bw bn) (cond (good_names (tree_of aw an) && good_names (tree_of bw bn)) 0 4) 3

-- The code that a check found.
abbrev pub code_of : Result Found Refusal → Option ℕ
code_of (Err r) = None
code_of (Ok (Found.Code first k)) = Some k
code_of (Ok (Found.Nodes first n)) = None

-- The code that words hold without any name byte: a tree that is one code has no name, so its words are all that it takes.
unfoldable pub lone_code : List ℕ → Option ℕ
lone_code words = code_of (checked words [])
