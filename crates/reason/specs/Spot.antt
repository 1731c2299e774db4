-- What the walk finds: the places of the first nodes that differ, in the words of each sheet from its first node on, and their numbers; and the path to them.
use Rattle.std.specs.Prelude.{ℕ, suc, ◌+◌, ◌-◌, ◌*◌, ◌≤◌, ◌<◌, Bool, true, false, cond, List, [], ◌∷◌, ◌≡◌, ltb, eqb}
use Rattle.std.specs.Prelude.{Option, Some, None}
use Rattle.std.proofs.Math.ListN as N
use Rattle.kinds.specs.Byte.{byte, bytes}
use Rattle.kinds.specs.Compare.{level_for}
use Rattle.kinds.specs.Print.{decimal}
use Rattle.kinds.specs.Sheet.{kind_at, first_at, second_at, count_at, label_at, is_container_kind, trees, max_nodes, max_names}
use Rattle.kinds.specs.Tree as T
use Rattle.kinds.specs.Tree.{Label, Trees, end, node, primitive, inside}
use Rattle.kinds.specs.Walk.{NodeAt, TreesAt, KindsAndNames}
use Rattle.kinds.specs.declared.NestingLevel.{NestingLevel}
use Rattle.kinds.specs.declared.NestingLevel.TheVariants.{Top}
use Rattle.reason.specs.Reason.{Difference, kind, size, offset, length, name, count, Reason, or_else, own_difference, items, items_compared, count_difference, first_difference, value_text}
use Rattle.reason.specs.declared.find.Aspect.{Aspect}
use Rattle.reason.specs.declared.find.Aspect.TheVariants as A
use Rattle.reason.specs.declared.find.Counts.{Counts}
use Rattle.reason.specs.declared.find.Counts.TheVariants as C
use Rattle.reason.specs.declared.find.FirstDifference.{FirstDifference}

-- ---- Places.

-- A difference and the place of its node.
pub record Spot : Type 0 where
  pub place : ℕ
  pub differs : Difference

unfoldable pub spotted : ℕ → Option Difference → Option Spot
spotted at None = None
spotted at (Some d) = Some (record { place = at; differs = d })

-- `node_difference`, of the nodes of which the first stands at `at`.
unfoldable pub node_spot : Label → Label → NestingLevel → Trees → Trees → ℕ → Option Spot → Option Spot
node_spot l m v cs ds at in_items =
    or_else (spotted at (own_difference l m)) (cond (items_compared l v cs ds) (or_else (spotted at (count_difference cs ds)) in_items) None)

-- `items_difference`, of items of which the first stands at `at`.
unfoldable pub items_spot : Bool → NestingLevel → ℕ → Trees → Trees → Option Spot
items_spot all v at end us = None
items_spot all v at (node l cs ts) end = None
items_spot all v at (node l cs ts) (node m ds us) =
    or_else (node_spot l m (level_for all v) cs ds at (items_spot all (inside l (level_for all v)) (at + 4) cs ds))
    (items_spot all v (at + 4 * suc (T.count cs)) ts us)

-- `x` is the place of one of the `n` nodes from `at` on.
pub record NodeOf (at n x : ℕ) : Type 0 where
  pub number : ℕ
  pub is : x ≡ at + 4 * number
  pub few : number < n

-- ---- Values, by the words of their nodes.

-- A word of 02's six.
unfoldable pub word_of : Aspect → List ℕ
word_of A.Kind = bytes "kind"
word_of A.Size = bytes "size"
word_of A.Offset = bytes "offset"
word_of A.Length = bytes "length"
word_of A.Name = bytes "name"
word_of A.Count = bytes "count"

unfoldable pub name_at : List ℕ → List ℕ → ℕ → List ℕ
name_at names w at = N.take (second_at w at) (N.drop (first_at w at) names)

-- What the node at `at` holds.
abbrev pub below : List ℕ → List ℕ → ℕ → Trees
below names w at = trees names w (count_at w at - 1) (at + 4)

-- The count of its items; names do not matter.
unfoldable pub items_at : List ℕ → ℕ → ℕ
items_at w at = items (below [] w at)

-- The number of an aspect; a name has its length.
unfoldable pub number_at : Aspect → List ℕ → ℕ → ℕ
number_at A.Kind w at = kind_at w at
number_at A.Size w at = second_at w at
number_at A.Offset w at = first_at w at
number_at A.Length w at = first_at w at
number_at A.Name w at = second_at w at
number_at A.Count w at = items_at w at

-- The value's bytes.
unfoldable pub value_at : Aspect → List ℕ → List ℕ → ℕ → List ℕ
value_at A.Kind names w at = decimal (kind_at w at)
value_at A.Size names w at = decimal (second_at w at)
value_at A.Offset names w at = decimal (first_at w at)
value_at A.Length names w at = decimal (first_at w at)
value_at A.Name names w at = name_at names w at
value_at A.Count names w at = decimal (items_at w at)

-- The length of the text of a value, by its number.
unfoldable pub value_length : Aspect → ℕ → ℕ
value_length A.Kind n = N.length (value_text (decimal n))
value_length A.Size n = N.length (value_text (decimal n))
value_length A.Offset n = N.length (value_text (decimal n))
value_length A.Length n = N.length (value_text (decimal n))
value_length A.Name n = 2 + N.length (decimal n) + n
value_length A.Count n = N.length (value_text (decimal n))

-- The length of what follows the path: a colon, the word and both values.
unfoldable pub difference_length : Aspect → ℕ → ℕ → ℕ
difference_length aspect k j = 1 + N.length (word_of aspect) + value_length aspect k + value_length aspect j

-- The difference of the nodes at `at` and `bt` in an aspect.
unfoldable pub difference_at : Aspect → List ℕ → List ℕ → ℕ → List ℕ → List ℕ → ℕ → Difference
difference_at A.Kind an a at bn b bt = kind (kind_at a at) (kind_at b bt)
difference_at A.Size an a at bn b bt = size (second_at a at) (second_at b bt)
difference_at A.Offset an a at bn b bt = offset (first_at a at) (first_at b bt)
difference_at A.Length an a at bn b bt = length (first_at a at) (first_at b bt)
difference_at A.Name an a at bn b bt = name (name_at an a at) (name_at bn b bt)
difference_at A.Count an a at bn b bt = count (items_at a at) (items_at b bt)

-- Where the aspect is the name, the node is a container.
abbrev pub Named : Aspect → List ℕ → ℕ → Type 0
Named A.Kind w at = Unit {0}
Named A.Size w at = Unit {0}
Named A.Offset w at = Unit {0}
Named A.Length w at = Unit {0}
Named A.Name w at = is_container_kind (kind_at w at) ≡ true
Named A.Count w at = Unit {0}

-- It lies within the first `m` name bytes.
abbrev pub NameWithin : Aspect → ℕ → List ℕ → ℕ → Type 0
NameWithin A.Kind m w at = Unit {0}
NameWithin A.Size m w at = Unit {0}
NameWithin A.Offset m w at = Unit {0}
NameWithin A.Length m w at = Unit {0}
NameWithin A.Name m w at = first_at w at + second_at w at ≤ m
NameWithin A.Count m w at = Unit {0}

-- It is no longer than a sheet's name bytes.
abbrev pub NameShort : Aspect → ℕ → Type 0
NameShort A.Kind n = Unit {0}
NameShort A.Size n = Unit {0}
NameShort A.Offset n = Unit {0}
NameShort A.Length n = Unit {0}
NameShort A.Name n = n ≤ max_names
NameShort A.Count n = Unit {0}

-- One of the `n` nodes from `at` on stands at `x` with all of its subtree, and has the aspect.
pub record ValueAt (aspect : Aspect) (w : List ℕ) (at n x : ℕ) : Type 0 where
  pub node : NodeOf at n x
  pub whole : NodeAt w x
  pub named : Named aspect w x

-- What differs first: the words at which the two nodes begin, the aspect, and the number of each.
abbrev pub difference_found : ℕ → ℕ → Aspect → ℕ → ℕ → FirstDifference
difference_found x y aspect k j = record { «at» = x; «bt» = y; «aspect» = aspect; «k» = k; «j» = j }

-- What a walk over the `n` nodes from `at` on and the `m` nodes from `bt` on hands out for the spot that there is to find.
abbrev pub Finds : List ℕ → List ℕ → ℕ → ℕ → List ℕ → List ℕ → ℕ → ℕ → Option Spot → Option FirstDifference → Type 0
Finds an a at n bn b bt m s None = s ≡ None
Finds an a at n bn b bt m s (Some d) =
    (s ≡ Some (record { place = d.«at»; differs = difference_at d.«aspect» an a d.«at» bn b d.«bt» })) × (ValueAt d.«aspect» a at n d.«at» × ValueAt d.«aspect» b bt m d.«bt»)
    × ((d.«k» ≡ number_at d.«aspect» a d.«at») × (d.«j» ≡ number_at d.«aspect» b d.«bt»))

-- What `compare_counts` finds of the containers at `at` and `bt`.
abbrev pub CountsAre : List ℕ → List ℕ → ℕ → List ℕ → List ℕ → ℕ → NestingLevel → Counts → Type 0
CountsAre s a at t b bt v C.NotCompared = items_compared (label_at s a at) v (below s a at) (below t b bt) ≡ false
CountsAre s a at t b bt v (C.Unequal k j) = (items_compared (label_at s a at) v (below s a at) (below t b bt) ≡ true) × (eqb (items (below s a at)) (items (below t b bt)) ≡ false)
    × ((k ≡ items_at a at) × (j ≡ items_at b bt))
CountsAre s a at t b bt v C.Equal = (items_compared (label_at s a at) v (below s a at) (below t b bt) ≡ true) × (eqb (items (below s a at)) (items (below t b bt)) ≡ true)

-- ---- Paths.

-- The path to the node at `x`, from items of which the first has the number `i` and stands at `at`.
unfoldable pub path_to : Trees → ℕ → ℕ → ℕ → List ℕ
path_to end at i x = []
path_to (node l cs ts) at i x =
    cond (eqb x at) (i ∷ [])
    (cond (ltb x (at + 4 * suc (T.count cs))) (i ∷ path_to cs (at + 4) 0 x)
    (path_to ts (at + 4 * suc (T.count cs)) (suc i) x))

-- The path from the node at `at` down to the node at `x`.
unfoldable pub path_from : List ℕ → ℕ → ℕ → List ℕ
path_from w at x = cond (eqb x at) [] (path_to (below [] w at) (at + 4) 0 x)

-- A tree of at most 2,001 nodes stands at the beginning of the words, and one of its nodes at `x`.
pub record Inside (w : List ℕ) (x : ℕ) : Type 0 where
  pub root : NodeAt w 0
  pub few : count_at w 0 ≤ max_nodes
  pub node : NodeOf 0 (count_at w 0) x

-- The item of the node at `parent` that holds the node at `x` stands at `at` and has the number `i`.
pub record Towards (w : List ℕ) (parent x at i : ℕ) : Type 0 where
  pub further : parent < at
  pub few : i < at
  pub whole : NodeAt w at
  pub holds : NodeOf at (count_at w at) x
  pub path : path_from w parent x ≡ i ∷ path_from w at x

-- An item number, with a dot before it unless it is the first.
unfoldable pub item_text : Bool → ℕ → List ℕ
item_text first i = cond first (decimal i) (byte "." ∷ decimal i)

-- More bytes than a path has, and than a value: bounds for the sums of the code, not reached.
abbrev pub max_path_text : ℕ
max_path_text = 200000

abbrev pub max_value_text : ℕ
max_value_text = 3000

-- The reason that the walk's spot makes.
unfoldable pub reason_at : Aspect → List ℕ → List ℕ → ℕ → List ℕ → List ℕ → ℕ → Reason
reason_at aspect an a at bn b bt = record { path = path_from a 0 at; differs = difference_at aspect an a at bn b bt }

-- What the walk from the root relies on: a tree of `n` nodes, whose names lie within the name bytes lent and within a sheet's.
pub record Rooted (names w : List ℕ) (n : ℕ) : Type 0 where
  pub some : 1 ≤ n
  pub few : n ≤ max_nodes
  pub count : count_at w 0 ≡ n
  pub root : NodeAt w 0
  pub whole : TreesAt w 0 n
  pub lent-names : KindsAndNames w (N.length names) 0 n
  pub short-names : KindsAndNames w max_names 0 n

-- The first difference of two codes.
unfoldable pub codes_difference : Bool → ℕ → ℕ → Option Reason
codes_difference all k j = first_difference all Top (node (primitive k) end end) (node (primitive j) end end)
