-- The piece of a signature that an entry names, and when it is a type.
use Rattle.std.specs.Prelude.{ℕ, ◌+◌, ◌≡◌, List, [], ◌∷◌, take, drop}
use Rattle.kinds.specs.Parse.{tree, tree_then, from_str, from_start_of_str}
use Rattle.kinds.specs.Tree.{Label, Trees}
use Rattle.signature.specs.Signature.{Entry, entry}

-- The bytes of an entry's type.
unfoldable pub piece : List ℕ → Entry → List ℕ
piece s (entry start size number) = take size (drop start s)

-- Whole-text reading accepts the piece, and gives the tree that reading from the start gives at its place, where it stops behind the piece.
pub record IsType (s : List ℕ) (start size number : ℕ) : Type 0 where
  pub label : Label
  pub children : Trees
  pub whole : from_str (piece s (entry start size number)) ≡ tree label children
  pub from_start : from_start_of_str (drop start s) ≡ tree_then label children (drop (start + size) s)

abbrev pub EachIsType : List ℕ → List Entry → Type 0
EachIsType s [] = Unit {0}
EachIsType s (entry start size number ∷ es) = IsType s start size number × EachIsType s es
