-- One spelling for registration (02, N3): the texts of which strict reading takes one for each tree, but for `=` before a closer.
use Rattle.std.specs.Prelude.{ℕ, ◌≡◌, Bool, true, false, cond, not, ◌&&◌, List, [], ◌∷◌, ◌++◌, eqb}
use Rattle.kinds.specs.Byte.{byte, bytes, among}
use Rattle.kinds.specs.Parse.{tree, strip_leading_qualifiers}
use Rattle.kinds.specs.Print.{print_node}
use Rattle.kinds.specs.Strict.{from_str_strict}
use Rattle.kinds.specs.Tree.{Label, Trees, end, node}
use Rattle.kinds.specs.declared.NestingLevel.{NestingLevel}
use Rattle.kinds.specs.declared.NestingLevel.TheVariants.{Top, Bottom}

-- A struct's or a union's closer stands next.
unfoldable pub closes_container : List ℕ → Bool
closes_container [] = false
closes_container (b ∷ s) = among b (bytes "})")

-- The text without each `=` that stands directly before `}` or `)`.
unfoldable pub short : List ℕ → List ℕ
short [] = []
short (b ∷ s) = cond (eqb b (byte "=") && closes_container s) (short s) (b ∷ short s)

-- The level of a node's text: a container shows `=` and fields exactly if it has any.
unfoldable pub level_by : Trees → NestingLevel
level_by end = Bottom
level_by (node l cs ts) = Top

-- The text of trees with all their fields at every level, `{x}` for a container without fields.
unfoldable pub spelled : Trees → List ℕ
spelled end = []
spelled (node l cs ts) = print_node l (level_by cs) (spelled cs) ++ spelled ts

-- No byte is `"`, which reading takes only around class names.
unfoldable pub unquoted : List ℕ → Bool
unquoted s = not (among (byte "\"") s)

-- The text is read strictly, without qualifiers at its start and without class names.
pub record Registers (s : List ℕ) (l : Label) (cs : Trees) : Type 0 where
  pub read : from_str_strict s ≡ tree l cs
  pub unqualified : strip_leading_qualifiers s ≡ s
  pub no-class-name : unquoted s ≡ true
