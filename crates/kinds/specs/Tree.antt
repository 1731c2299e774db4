-- Trees (encoding.rs, `Encoding`), the levels of their parts, and the shown part (01's term).
use Rattle.std.specs.Prelude.{ℕ, suc, ◌+◌, Bool, true, false, List, []}
use Rattle.kinds.specs.Level as L
use Rattle.kinds.specs.Level.{shows_fields}
use Rattle.kinds.specs.declared.IndirectionKind.TheVariants.{Atomic, Pointer}
use Rattle.kinds.specs.declared.NestingLevel.{NestingLevel}
use Rattle.kinds.specs.declared.NestingLevel.TheVariants.{Within}

-- A node without its children: a primitive's kind; a bitfield's size; a typed bitfield's offset and size; an array's length; a name.
pub data Label : Type 0 where
  primitive : ℕ → Label
  bit_field : ℕ → Label
  typed_bit_field : ℕ → ℕ → Label
  pointer : Label
  atomic : Label
  array : ℕ → Label
  struct : List ℕ → Label
  union : List ℕ → Label
  none : Label

-- Trees side by side, in the order of the sheet: the first tree's label, its children, and the trees after it.
-- One tree is a `node` with `end` after it.
pub data Trees : Type 0 where
  end : Trees
  node : Label → Trees → Trees → Trees

unfoldable pub is_end : Trees → Bool
is_end end = true
is_end (node l cs ts) = false

unfoldable pub is_one : Trees → Bool
is_one end = false
is_one (node l cs ts) = is_end ts

-- How many nodes there are.
unfoldable pub count : Trees → ℕ
count end = 0
count (node l cs ts) = suc (count cs + count ts)

-- The kind word of a node (01, "The sheet").
unfoldable pub kind : Label → ℕ
kind (primitive p) = p
kind (bit_field n) = 24
kind (typed_bit_field o n) = 25
kind pointer = 26
kind atomic = 27
kind (array n) = 28
kind (struct s) = 29
kind (union s) = 30
kind none = 31

unfoldable pub name : Label → List ℕ
name (primitive p) = []
name (bit_field n) = []
name (typed_bit_field o n) = []
name pointer = []
name atomic = []
name (array n) = []
name (struct s) = s
name (union s) = s
name none = []

unfoldable pub is_container : Label → Bool
is_container (primitive p) = false
is_container (bit_field n) = false
is_container (typed_bit_field o n) = false
is_container pointer = false
is_container atomic = false
is_container (array n) = false
is_container (struct s) = true
is_container (union s) = true
is_container none = false

-- The level of a node's children.
abbrev pub inside : Label → NestingLevel → NestingLevel
inside (primitive p) v = v
inside (bit_field n) v = v
inside (typed_bit_field o n) v = v
inside pointer v = L.indirection Pointer v
inside atomic v = L.indirection Atomic v
inside (array n) v = v
inside (struct s) v = Within
inside (union s) v = Within
inside none v = v

-- Whether a node's children are shown at a level.
abbrev pub shows : Label → NestingLevel → Bool
shows (primitive p) v = true
shows (bit_field n) v = true
shows (typed_bit_field o n) v = true
shows pointer v = true
shows atomic v = true
shows (array n) v = true
shows (struct s) v = shows_fields v
shows (union s) v = shows_fields v
shows none v = true

unfoldable pub keep : Bool → Trees → Trees
keep true ts = ts
keep false ts = end

-- 01's shown part: the trees with the fields of every bottom container removed.
unfoldable pub shown : NestingLevel → Trees → Trees
shown v end = end
shown v (node l cs ts) = node l (keep (shows l v) (shown (inside l v) cs)) (shown v ts)
