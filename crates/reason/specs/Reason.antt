-- The reason for a no (02, N4): the first difference of two trees, in the order of helper.rs, `compare_encodings`, and its words.
use Rattle.std.specs.Prelude.{ℕ, suc, ◌≤◌, Bool, true, false, cond, not, ◌&&◌, List, [], ◌∷◌, ◌++◌, ◌≡◌, eqb}
use Rattle.std.specs.Prelude.{Option, Some, None}
use Rattle.std.proofs.Math.ListN as N
use Rattle.kinds.specs.Byte.{byte, bytes, same_bytes}
use Rattle.kinds.specs.Compare.{bits, level_for}
use Rattle.kinds.specs.Name.{verify_name}
use Rattle.kinds.specs.Primitive.{equivalent}
use Rattle.kinds.specs.Print.{decimal}
use Rattle.kinds.specs.Tree as T
use Rattle.kinds.specs.Tree.{Label, Trees, end, node, primitive, bit_field, typed_bit_field, pointer, atomic, array, struct, union, is_end, is_container, inside, shows}
use Rattle.kinds.specs.declared.NestingLevel.{NestingLevel}

-- What differs at a node, with the first side's value and the second's.
pub data Difference : Type 0 where
  kind : ℕ → ℕ → Difference
  size : ℕ → ℕ → Difference
  offset : ℕ → ℕ → Difference
  length : ℕ → ℕ → Difference
  name : List ℕ → List ℕ → Difference
  count : ℕ → ℕ → Difference

-- Where it is: item numbers from 0 down from the root, none for the root itself.
pub record Reason : Type 0 where
  pub path : List ℕ
  pub differs : Difference

-- What the values of a reason of two sheets are: kinds of the sheet's list, and good names.
abbrev pub GoodValues : Difference → Type 0
GoodValues (kind a b) = (a ≤ 31) × (b ≤ 31)
GoodValues (size a b) = Unit {0}
GoodValues (offset a b) = Unit {0}
GoodValues (length a b) = Unit {0}
GoodValues (name s t) = (verify_name s ≡ true) × (verify_name t ≡ true)
GoodValues (count a b) = Unit {0}

-- ---- The first difference.

-- The first of two, or else the second.
unfoldable pub or_else : {A : Type 0} → Option A → Option A → Option A
or_else (Some x) y = Some x
or_else None y = y

-- `d`, unless both sides are the same.
unfoldable pub unless : Bool → Difference → Option Difference
unless true d = None
unless false d = Some d

-- A typed bitfield's offset.
unfoldable pub offset_of : Label → ℕ
offset_of (primitive p) = 0
offset_of (bit_field n) = 0
offset_of (typed_bit_field o n) = o
offset_of pointer = 0
offset_of atomic = 0
offset_of (array n) = 0
offset_of (struct s) = 0
offset_of (union s) = 0
offset_of T.none = 0

-- An array's length.
unfoldable pub length_of : Label → ℕ
length_of (primitive p) = 0
length_of (bit_field n) = 0
length_of (typed_bit_field o n) = 0
length_of pointer = 0
length_of atomic = 0
length_of (array n) = n
length_of (struct s) = 0
length_of (union s) = 0
length_of T.none = 0

-- Of two nodes, their children aside. Kinds come first, so each later test is of two nodes of one kind, or of Object, Block and Class.
unfoldable pub own_difference : Label → Label → Option Difference
own_difference l m =
    or_else (unless (equivalent (T.kind l) (T.kind m)) (kind (T.kind l) (T.kind m)))
    (or_else (unless (eqb (bits l) (bits m)) (size (bits l) (bits m)))
    (or_else (unless (eqb (offset_of l) (offset_of m)) (offset (offset_of l) (offset_of m)))
    (or_else (unless (eqb (length_of l) (length_of m)) (length (length_of l) (length_of m)))
    (unless (same_bytes (T.name l) (T.name m)) (name (T.name l) (T.name m))))))

-- How many trees stand side by side: a node's items.
unfoldable pub items : Trees → ℕ
items end = 0
items (node l cs ts) = suc (items ts)

-- A container's fields are compared where it shows them and both sides have some; what other nodes hold always is.
unfoldable pub items_compared : Label → NestingLevel → Trees → Trees → Bool
items_compared l v cs ds = cond (is_container l) (shows l v && (not (is_end cs) && not (is_end ds))) true

-- The count of items; of valid trees only containers differ in it.
unfoldable pub count_difference : Trees → Trees → Option Difference
count_difference cs ds = unless (eqb (items cs) (items ds)) (count (items cs) (items ds))

-- At the node itself.
unfoldable pub here : Option Difference → Option Reason
here None = None
here (Some d) = Some (record { path = []; differs = d })

-- In the item with the number `i`.
unfoldable pub under : ℕ → Option Reason → Option Reason
under i None = None
under i (Some r) = Some (record { path = i ∷ r.path; differs = r.differs })

-- Of two nodes at the level `v` with the items `cs` and `ds`: their own; then, where their items are compared, the count; then the first in the items.
unfoldable pub node_difference : Label → Label → NestingLevel → Trees → Trees → Option Reason → Option Reason
node_difference l m v cs ds in_items =
    or_else (here (own_difference l m)) (cond (items_compared l v cs ds) (or_else (here (count_difference cs ds)) in_items) None)

-- Of items, in order; the first has the number `i`.
unfoldable pub items_difference : Bool → NestingLevel → ℕ → Trees → Trees → Option Reason
items_difference all v i end us = None
items_difference all v i (node l cs ts) end = None
items_difference all v i (node l cs ts) (node m ds us) =
    or_else (under i (node_difference l m (level_for all v) cs ds (items_difference all (inside l (level_for all v)) 0 cs ds)))
    (items_difference all v (suc i) ts us)

-- Of two trees; with `all` fields every node counts as top.
unfoldable pub first_difference : Bool → NestingLevel → Trees → Trees → Option Reason
first_difference all v end u = None
first_difference all v (node l cs ts) end = None
first_difference all v (node l cs ts) (node m ds us) =
    node_difference l m (level_for all v) cs ds (items_difference all (inside l (level_for all v)) 0 cs ds)

-- ---- The words.

-- A dot before each item number.
unfoldable pub dotted : List ℕ → List ℕ
dotted [] = []
dotted (i ∷ p) = byte "." ∷ (decimal i ++ dotted p)

-- Item numbers with dots between.
unfoldable pub path_text : List ℕ → List ℕ
path_text [] = []
path_text (i ∷ p) = decimal i ++ dotted p

-- A value: a space, its byte length, a colon and its bytes.
unfoldable pub value_text : List ℕ → List ℕ
value_text s = byte " " ∷ (decimal (N.length s) ++ (byte ":" ∷ s))

-- A word and the values of both sides.
unfoldable pub values_text : List ℕ → List ℕ → List ℕ → List ℕ
values_text word s t = word ++ (value_text s ++ value_text t)

unfoldable pub difference_text : Difference → List ℕ
difference_text (kind a b) = values_text (bytes "kind") (decimal a) (decimal b)
difference_text (size a b) = values_text (bytes "size") (decimal a) (decimal b)
difference_text (offset a b) = values_text (bytes "offset") (decimal a) (decimal b)
difference_text (length a b) = values_text (bytes "length") (decimal a) (decimal b)
difference_text (name s t) = values_text (bytes "name") s t
difference_text (count a b) = values_text (bytes "count") (decimal a) (decimal b)

unfoldable pub reason_text : Reason → List ℕ
reason_text r = path_text r.path ++ (byte ":" ∷ difference_text r.differs)
