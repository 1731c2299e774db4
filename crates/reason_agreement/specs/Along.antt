-- The comparison of two trees followed along a path, whatever stands before it in the order; and what a difference says of the two nodes.
use Rattle.std.specs.Prelude.{ℕ, zero, suc, Bool, true, false, cond, ◌&&◌, ◌||◌, List, [], ◌∷◌, ◌≡◌, ltb, eqb}
use Rattle.std.specs.Prelude.{Option, Some, None}
use Rattle.kinds.specs.Byte.{among}
use Rattle.kinds.specs.Compare.{bits, level_for}
use Rattle.kinds.specs.Primitive.{equivalent}
use Rattle.kinds.specs.Tree as T
use Rattle.kinds.specs.Tree.{Label, Trees, end, node, is_end, is_container, inside}
use Rattle.kinds.specs.declared.NestingLevel.{NestingLevel}
use Rattle.reason.specs.Reason.{Difference, kind, size, offset, length, name, count, Reason, or_else, offset_of, length_of, own_difference, items, items_compared, count_difference}

-- ---- Paths.

-- The item with the number `i` and those after it, or `end`.
unfoldable pub item_at : ℕ → Trees → Trees
item_at i end = end
item_at zero (node l cs ts) = node l cs ts
item_at (suc i) (node l cs ts) = item_at i ts

-- The node at a path, in one tree alone.
unfoldable pub follow : List ℕ → Trees → Trees
follow [] t = t
follow (i ∷ p) end = end
follow (i ∷ p) (node l cs ts) = follow p (item_at i cs)

-- A path stands earlier in the order of the comparison: it is a proper front of the other, or has the smaller number where they part.
unfoldable pub before : List ℕ → List ℕ → Bool
before [] [] = false
before [] (j ∷ q) = true
before (i ∷ p) [] = false
before (i ∷ p) (j ∷ q) = ltb i j || (eqb i j && before p q)

-- What differs of the two nodes at a path, their items' own differences aside, where the comparison comes to both.
unfoldable pub difference_along : Bool → NestingLevel → List ℕ → Trees → Trees → Option Difference
difference_along all v [] end u = None
difference_along all v [] (node l cs ts) end = None
difference_along all v [] (node l cs ts) (node m ds us) = or_else (own_difference l m) (cond (items_compared l (level_for all v) cs ds) (count_difference cs ds) None)
difference_along all v (i ∷ p) end u = None
difference_along all v (i ∷ p) (node l cs ts) end = None
difference_along all v (i ∷ p) (node l cs ts) (node m ds us) =
    cond (items_compared l (level_for all v) cs ds) (difference_along all (inside l (level_for all v)) p (item_at i cs) (item_at i ds)) None

-- ---- What a difference says.

-- Of two nodes with the items `cs` and `ds`: its values are theirs and differ, and what is compared before it is the same or absent.
abbrev pub NodesDiffer : Difference → Label → Trees → Label → Trees → Type 0
NodesDiffer (kind a b) l cs m ds = (T.kind l ≡ a) × (T.kind m ≡ b) × (equivalent a b ≡ false)
NodesDiffer (size a b) l cs m ds = (among (T.kind l) (24 ∷ 25 ∷ []) ≡ true) × (T.kind l ≡ T.kind m) × (bits l ≡ a) × (bits m ≡ b) × (a ≡ b → ⊥)
NodesDiffer (offset a b) l cs m ds = (T.kind l ≡ 25) × (T.kind m ≡ 25) × (bits l ≡ bits m) × (offset_of l ≡ a) × (offset_of m ≡ b) × (a ≡ b → ⊥)
NodesDiffer (length a b) l cs m ds = (T.kind l ≡ 28) × (T.kind m ≡ 28) × (length_of l ≡ a) × (length_of m ≡ b) × (a ≡ b → ⊥)
NodesDiffer (name s t) l cs m ds = (is_container l ≡ true) × (is_container m ≡ true) × (T.kind l ≡ T.kind m) × (T.name l ≡ s) × (T.name m ≡ t) × (s ≡ t → ⊥)
NodesDiffer (count a b) l cs m ds =
    (is_container l ≡ true) × (is_container m ≡ true) × (T.kind l ≡ T.kind m) × (T.name l ≡ T.name m)
    × (is_end cs ≡ false) × (is_end ds ≡ false) × (items cs ≡ a) × (items ds ≡ b) × (a ≡ b → ⊥)

-- Of the first trees of both.
abbrev pub Differ : Difference → Trees → Trees → Type 0
Differ d end u = ⊥
Differ d (node l cs ts) end = ⊥
Differ d (node l cs ts) (node m ds us) = NodesDiffer d l cs m ds

-- ---- The sides exchanged.

unfoldable pub turned : Difference → Difference
turned (kind a b) = kind b a
turned (size a b) = size b a
turned (offset a b) = offset b a
turned (length a b) = length b a
turned (name s t) = name t s
turned (count a b) = count b a

-- The same reason with its two values exchanged.
unfoldable pub swapped : Option Reason → Option Reason
swapped None = None
swapped (Some r) = Some (record { path = r.path; differs = turned r.differs })

-- There is no reason.
unfoldable pub is_none : {A : Type 0} → Option A → Bool
is_none None = true
is_none (Some x) = false
