-- `size` (helper.rs) on a machine (02, N5 and N6), in numbers of any length. `none` is no size.
use Rattle.std.specs.Prelude.{ℕ, zero, suc, ◌+◌, ◌*◌, ◌/◌, max, Bool, true, false, cond, List, [], ◌∷◌, leb}
use Rattle.std.specs.Prelude.{Option, Some, None, unwrap_or}
use Rattle.kinds.specs.Level.{shows_fields}
use Rattle.kinds.specs.Primitive.{Widths, primitive_size}
use Rattle.kinds.specs.Tree as T
use Rattle.kinds.specs.Tree.{Label, Trees, end, node, primitive, bit_field, typed_bit_field, pointer, atomic, array, struct, union, inside}
use Rattle.kinds.specs.declared.NestingLevel.{NestingLevel}
use Rattle.kinds.specs.declared.NestingLevel.TheVariants.{Top}

-- `n` raised to a power of two, at least `p`: doublings of `p` until `n` is reached, of which `n` are always enough.
abbrev pub raised : ℕ → ℕ → ℕ → ℕ
raised zero n p = p
raised (suc fuel) n p = cond (leb n p) p (raised fuel n (2 * p))

-- The bits of a bitfield raised to a power of two, at least 8, divided by 8.
unfoldable pub bit_bytes : ℕ → ℕ
bit_bytes n = raised n n 8 / 8

-- There is no size.
unfoldable pub is_none : Option ℕ → Bool
is_none None = true
is_none (Some n) = false

unfoldable pub plus : Option ℕ → Option ℕ → Option ℕ
plus None b = None
plus (Some a) None = None
plus (Some a) (Some b) = Some (a + b)

unfoldable pub larger : Option ℕ → Option ℕ → Option ℕ
larger None b = b
larger (Some a) None = Some a
larger (Some a) (Some b) = Some (max a b)

unfoldable pub times : ℕ → Option ℕ → Option ℕ
times n None = None
times n (Some a) = Some (n * a)

-- A struct: none if a field has none.
unfoldable pub sum : List (Option ℕ) → Option ℕ
sum [] = Some 0
sum (a ∷ s) = plus a (sum s)

-- A union: none if no member has a size.
unfoldable pub largest : List (Option ℕ) → Option ℕ
largest [] = None
largest (a ∷ s) = larger a (largest s)

-- The size of what a node with one child holds.
unfoldable pub only : List (Option ℕ) → Option ℕ
only [] = None
only (a ∷ s) = a

-- A node's size from its children's sizes.
unfoldable pub node_size : Widths → Label → NestingLevel → List (Option ℕ) → Option ℕ
node_size w (primitive p) v xs = primitive_size w p
node_size w (bit_field n) v xs = Some (bit_bytes n)
node_size w (typed_bit_field o n) v xs = Some (max (bit_bytes n) (unwrap_or (only xs) 0))
node_size w pointer v xs = Some w.pointer
node_size w atomic v xs = only xs
node_size w (array n) v xs = times n (only xs)
node_size w (struct s) v xs = cond (shows_fields v) (sum xs) None
node_size w (union s) v xs = cond (shows_fields v) (largest xs) None
node_size w T.none v xs = None

-- The size of each of the trees.
unfoldable pub sizes : Widths → NestingLevel → Trees → List (Option ℕ)
sizes w v end = []
sizes w v (node l cs ts) = node_size w l v (sizes w (inside l v) cs) ∷ sizes w v ts

-- The size of a tree.
unfoldable pub size : Widths → Trees → Option ℕ
size w t = only (sizes w Top t)
