-- A node's text in three parts, from the words of the node: before its children's text, that text, and after it (static_str.rs, the arms of `static_encoding_str_array`).
use Rattle.std.specs.Prelude.{ℕ, ◌+◌, ◌-◌, ◌≤◌, true, cond, List, [], ◌∷◌, ◌++◌, ◌≡◌, leb, eqb, length, take, drop}
use Rattle.kinds.specs.Byte.{byte, bytes}
use Rattle.kinds.specs.Container.{start_byte, end_byte, prefix_byte}
use Rattle.kinds.specs.Kind.{container_of, children_level}
use Rattle.kinds.specs.Primitive.{code}
use Rattle.kinds.specs.Print.{decimal, fields, print}
use Rattle.kinds.specs.Sheet.{kind_at, count_at, is_container_kind, trees}
use Rattle.kinds.specs.Tree.{Trees}
use Rattle.kinds.specs.Walk.{KindsAndNames}
use Rattle.std.specs.Prelude.{Option, Some, None}
use Rattle.kinds.specs.declared.IndirectionKind.TheVariants.{Atomic, Pointer}
use Rattle.kinds.specs.declared.NestingLevel.{NestingLevel}

-- Kind `k`, numbers `a` and `b`.
unfoldable pub opening : List ℕ → ℕ → ℕ → ℕ → NestingLevel → List ℕ
opening names k a b v =
    cond (leb k 23) (code k)
    (cond (is_container_kind k) (start_byte (container_of k) ∷ (take b (drop a names) ++ fields v []))
    (cond (eqb k 24) (byte "b" ∷ decimal b)
    (cond (eqb k 25) (byte "b" ∷ decimal a)
    (cond (eqb k 26) (prefix_byte Pointer ∷ [])
    (cond (eqb k 27) (prefix_byte Atomic ∷ [])
    (cond (eqb k 28) (byte "[" ∷ decimal a) []))))))

unfoldable pub closing : ℕ → ℕ → List ℕ
closing k b =
    cond (eqb k 25) (decimal b)
    (cond (eqb k 28) (bytes "]")
    (cond (is_container_kind k) (end_byte (container_of k) ∷ []) []))

unfoldable pub print_shown : Option NestingLevel → Trees → List ℕ
print_shown (Some v) ts = print v ts
print_shown None ts = []

-- The text of the children of the node at `at`.
abbrev pub children_text : List ℕ → List ℕ → ℕ → NestingLevel → List ℕ
children_text names w at v = print_shown (children_level (kind_at w at) v) (trees names w (count_at w at - 1) (at + 4))

-- The most bytes that a node's own text has: a container with a name of 2,000.
abbrev pub max_node_text : ℕ
max_node_text = 2003

-- `r` is the length of the node's own text, whatever the names.
abbrev pub OwnLength : ℕ → ℕ → ℕ → NestingLevel → ℕ → Type 0
OwnLength k a b v r = (names : List ℕ) → (is_container_kind k ≡ true → a + b ≤ length names) → r ≡ length (opening names k a b v) + length (closing k b)

-- `r` is the length of the text of the children of the node at `at`, whatever the names.
abbrev pub ChildrenLength : List ℕ → ℕ → NestingLevel → ℕ → Type 0
ChildrenLength w at v r = (names : List ℕ) → KindsAndNames w (length names) at (count_at w at) → r ≡ length (children_text names w at v)

-- `r` is the length of the text of the trees of the `n` nodes from `at` on, whatever the names.
abbrev pub TreesLength : List ℕ → ℕ → ℕ → NestingLevel → ℕ → Type 0
TreesLength w at n v r = (names : List ℕ) → KindsAndNames w (length names) at n → r ≡ length (print v (trees names w n at))
