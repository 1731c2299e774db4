-- The marked cases of 01, "Corner cases, file by file", as one table, and what a row of it claims.
use Rattle.std.specs.Prelude.{ℕ, ◌≡◌, Bool, true, false, List, [], ◌∷◌}
use Rattle.std.specs.Prelude.{Option, Some, None}
use Rattle.kinds.specs.Byte.{byte, bytes}
use Rattle.kinds.specs.Compare.{equivalent_to}
use Rattle.kinds.specs.Expect.{equivalent_to_str}
use Rattle.kinds.specs.Parse as P
use Rattle.kinds.specs.Parse.{Whole, tree, tree_then, from_str, from_start_of_str}
use Rattle.kinds.specs.Primitive.{kind_of, widths}
use Rattle.kinds.specs.Print.{print}
use Rattle.kinds.specs.Refusal.{number, place, refused_byte, refused_container}
use Rattle.kinds.specs.Size.{size}
use Rattle.kinds.specs.Tree as T
use Rattle.kinds.specs.Tree.{Label, Trees, end, node, primitive, bit_field, is_one}
use Rattle.kinds.specs.declared.ContainerKind.{ContainerKind}
use Rattle.kinds.specs.declared.ContainerKind.TheVariants.{Struct}
use Rattle.kinds.specs.declared.NestingLevel.TheVariants.{Top}
use Rattle.kinds.specs.declared.Primitive.TheVariants.{Block}
use Rattle.kinds.specs.declared.Refusal.{Refusal}
use Rattle.kinds.specs.declared.Refusal.TheVariants.{Parse}
use Rattle.agreement.specs.ReadTree.{read_tree}

-- A refusal by 01: its number, and the place, the byte and the container kind that it carries.
pub data Refused : Type 0 where
  refused : ℕ → Option ℕ → Option ℕ → Option ContainerKind → Refused

abbrev pub refused_by : Refusal → Refused
refused_by r = refused (number r) (place r) (refused_byte r) (refused_container r)

-- How whole-text reading refuses, if it does.
unfoldable pub refusal_of : Whole → Option Refused
refusal_of (tree l cs) = None
refusal_of (P.refusal e at) = Some (refused_by (Parse e at))

pub data Case : Type 0 where
  -- Whole-text reading gives the tree, or refuses.
  reads : List ℕ → Trees → Case
  refuses : List ℕ → Refused → Case
  -- The tree has the size, or none, on the machine of 01, which is row 0.
  has_size : Trees → Option ℕ → Case
  -- The tree is compared with a text, or with a tree.
  against_text : Trees → List ℕ → Bool → Case
  against_tree : Trees → Trees → Bool → Case
  prints : Trees → List ℕ → Case
  -- Reading from the start gives the node, without children, and the rest.
  reads_from_start : List ℕ → Label → List ℕ → Case

-- It is a tree: reading did not refuse its text.
abbrev pub IsTree : Trees → Type 0
IsTree t = is_one t ≡ true

-- What a row claims.
abbrev pub Holds : Case → Type 0
Holds (reads s t) = read_tree s ≡ t
Holds (refuses s r) = refusal_of (from_str s) ≡ Some r
Holds (has_size t n) = IsTree t × (size (widths 0) t ≡ n)
Holds (against_text t s answer) = IsTree t × (equivalent_to_str t s ≡ answer)
Holds (against_tree t u answer) = IsTree t × IsTree u × (equivalent_to t u ≡ answer)
Holds (prints t s) = IsTree t × (print Top t ≡ s)
Holds (reads_from_start s l rest) = from_start_of_str s ≡ tree_then l end rest

abbrev pub AllHold : List Case → Type 0
AllHold [] = Unit {0}
AllHold (c ∷ cs) = Holds c × AllHold cs

unfoldable pub marked_cases : List Case
marked_cases =
    -- parse.rs
    reads (bytes "") (node T.none end end)
    ∷ refuses (bytes "x") (refused 8 (Some 1) (Some (byte "x")) None)
    ∷ refuses (bytes "^]") (refused 15 (Some 1) None None)
    ∷ reads (bytes "b255") (node (bit_field 255) end end)
    ∷ refuses (bytes "{") (refused 13 (Some 1) None (Some Struct))
    ∷ refuses (bytes "{}") (refused 14 (Some 1) None (Some Struct))
    -- helper.rs
    ∷ has_size (read_tree (bytes "{x=}")) (Some 0)
    ∷ has_size (read_tree (bytes "(x=)")) None
    ∷ has_size (read_tree (bytes "b255")) (Some 32)
    -- encoding.rs
    ∷ against_text (read_tree (bytes "{R=i}")) (bytes "{R=}") true
    ∷ against_text (read_tree (bytes "{R=i}")) (bytes "{R}") false
    ∷ against_tree (read_tree (bytes "{R=i}")) (read_tree (bytes "{R}")) true
    ∷ against_text (node (primitive (kind_of Block)) end end) (bytes "@\"Rate\"") false
    -- static_str.rs
    ∷ prints (read_tree (bytes "^^{R=i}")) (bytes "^^{R}")
    -- encoding_box.rs
    ∷ reads_from_start (bytes "16@") T.none (bytes "6@")
    ∷ []
