-- What a walk may rely on after the check of a sheet, by what the check found (01, "The sheet").
use Rattle.std.specs.Prelude.{ℕ, ◌+◌, ◌*◌, ◌≤◌, ◌<◌, List, ◌≡◌, length, drop}
use Rattle.kinds.specs.Sheet.{Holds, count_at, trees, max_nodes, max_names}
use Rattle.kinds.specs.Tree.{end, node, primitive}
use Rattle.kinds.specs.Walk.{NodeAt, TreesAt, KindsAndNames}
use Rattle.sheet.specs.Answer.{held, refused, holding, held_both, refused_both}
use Rattle.std.specs.Prelude.{Result, Ok, Err}
use Rattle.kinds.specs.declared.Refusal.{Refusal}
use Rattle.sheet.specs.declared.FoundBoth.{FoundBoth}
use Rattle.sheet.specs.declared.FoundBoth.TheVariants as FoundBoth
use Rattle.sheet.specs.declared.Found.{Found}
use Rattle.sheet.specs.declared.Found.TheVariants as Found

-- The `n` nodes of a sheet are `w`.
pub record NodesAre (words names w : List ℕ) (n : ℕ) : Type 0 where
  pub some : 1 ≤ n
  pub few : n ≤ max_nodes
  pub count : count_at w 0 ≡ n
  pub root : NodeAt w 0
  pub whole : TreesAt w 0 n
  pub lent-names : KindsAndNames w (length names) 0 n
  pub short-names : KindsAndNames w max_names 0 n
  pub sheet : Holds words names (trees names w n 0)
  pub holds : held words names ≡ holding (trees names w n 0)

-- They begin at the word `first`.
pub record NodesIn (words names : List ℕ) (first n : ℕ) : Type 0 where
  pub starts : first ≤ length words
  pub room : first + 4 * n ≤ length words
  pub nodes : NodesAre words names (drop first words) n

-- The tree of the lists is the code of kind `k`.
pub record CodeIn (words names : List ℕ) (k : ℕ) : Type 0 where
  pub code : k < 24
  pub holds : held words names ≡ holding (node (primitive k) end end)

abbrev pub Gives : List ℕ → List ℕ → Result Found Refusal → Type 0
Gives words names (Err r) = held words names ≡ refused r
Gives words names (Ok (Found.Code first k)) = CodeIn words names k × NodesIn words names first 1
Gives words names (Ok (Found.Nodes first n)) = NodesIn words names first n

-- The same of two sheets.
abbrev pub GivesBoth : List ℕ → List ℕ → List ℕ → List ℕ → Result FoundBoth Refusal → Type 0
GivesBoth aw an bw bn (Err r) = held_both aw an bw bn ≡ refused_both r
GivesBoth aw an bw bn (Ok (FoundBoth.Codes k j)) = CodeIn aw an k × CodeIn bw bn j
GivesBoth aw an bw bn (Ok (FoundBoth.Nodes f n g m)) = NodesIn aw an f n × NodesIn bw bn g m
