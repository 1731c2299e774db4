-- 01's sheet: a tree in a list of words and a list of name bytes.
use Rattle.std.specs.Prelude.{ℕ, zero, suc, ◌+◌, ◌-◌, ◌*◌, ◌≤◌, min, Bool, true, false, cond, ◌&&◌, ◌||◌, List, [], ◌∷◌, ◌++◌, ◌≡◌, leb, eqb, length, get_or, take, drop}
use Rattle.kinds.specs.Parse.{max_u64, max_u8}
use Rattle.kinds.specs.Sound.{valid}
use Rattle.kinds.specs.Tree as T
use Rattle.kinds.specs.Tree.{Label, Trees, end, node, primitive, bit_field, typed_bit_field, pointer, atomic, array, struct, union, is_one, count, kind, name}

-- ---- The layout of a tree.

-- A node's first number; `p` is the place of the next name.
unfoldable pub first : Label → ℕ → ℕ
first (primitive k) p = 0
first (bit_field n) p = 0
first (typed_bit_field o n) p = o
first pointer p = 0
first atomic p = 0
first (array n) p = n
first (struct s) p = p
first (union s) p = p
first T.none p = 0

unfoldable pub second : Label → ℕ
second (primitive k) = 0
second (bit_field n) = n
second (typed_bit_field o n) = n
second pointer = 0
second atomic = 0
second (array n) = 0
second (struct s) = length s
second (union s) = length s
second T.none = 0

-- The names, packed in node order.
unfoldable pub names_of : Trees → List ℕ
names_of end = []
names_of (node l cs ts) = name l ++ (names_of cs ++ names_of ts)

-- Four words a node, parent first; `p` is the place of the next name.
unfoldable pub nodes : Trees → ℕ → List ℕ
nodes end p = []
nodes (node l cs ts) p =
    kind l ∷ first l p ∷ second l ∷ suc (count cs) ∷ (nodes cs (p + length (name l)) ++ nodes ts (p + length (name l) + length (names_of cs)))

-- The words before the first node.
abbrev pub header_words : ℕ
header_words = 4

-- The words of a sheet with `k` nodes, header and nodes.
abbrev pub words_used : ℕ → ℕ
words_used k = header_words + 4 * k

-- The header of a sheet with `k` nodes and `l` name bytes: node count, offset of the first node, count of name bytes, words used.
unfoldable pub header_for : ℕ → ℕ → List ℕ
header_for k l = k ∷ header_words ∷ l ∷ words_used k ∷ []

unfoldable pub sheet_of : Trees → List ℕ
sheet_of t = header_for (count t) (length (names_of t)) ++ nodes t 0

-- The most bytes of a text, nodes of a tree and name bytes of a tree.
abbrev pub max_text : ℕ
max_text = 2000

abbrev pub max_nodes : ℕ
max_nodes = 2001

abbrev pub max_names : ℕ
max_names = 2000

-- The lists begin with the sheet of `t`.
pub record Holds (words names : List ℕ) (t : Trees) : Type 0 where
  pub one : is_one t ≡ true
  pub valid-tree : valid t ≡ true
  pub few-nodes : count t ≤ max_nodes
  pub few-names : length (names_of t) ≤ max_names
  pub words_are : words ≡ sheet_of t ++ drop (words_used (count t)) words
  pub names-are : names ≡ names_of t ++ drop (length (names_of t)) names

-- ---- The test that two lists begin with a sheet. `w` is the words from the first node on, and `at` a node's first word in it.

abbrev pub kind_at : List ℕ → ℕ → ℕ
kind_at w at = get_or w at 0

abbrev pub first_at : List ℕ → ℕ → ℕ
first_at w at = get_or w (at + 1) 0

abbrev pub second_at : List ℕ → ℕ → ℕ
second_at w at = get_or w (at + 2) 0

abbrev pub count_at : List ℕ → ℕ → ℕ
count_at w at = get_or w (at + 3) 0

abbrev pub is_container_kind : ℕ → Bool
is_container_kind k = eqb k 29 || eqb k 30

abbrev pub has_one_child : ℕ → Bool
has_one_child k = leb 25 k && leb k 28

-- The two numbers that a kind takes; `p` is the place of the next name and `e` the end of the names.
unfoldable pub numbers : ℕ → ℕ → ℕ → ℕ → ℕ → Bool
numbers k a b p e =
    cond (is_container_kind k) (eqb a p && leb (p + b) e)
    (cond (eqb k 25) (leb a max_u64 && leb b max_u8)
    (cond (eqb k 24) (eqb a 0 && leb b max_u8)
    (cond (eqb k 28) (leb a max_u64 && eqb b 0)
    (leb k 31 && (eqb a 0 && eqb b 0)))))

-- The place of the next name after a node.
unfoldable pub next_name : ℕ → ℕ → ℕ → ℕ
next_name k b p = cond (is_container_kind k) (p + b) p

-- Each of the `n` nodes from `at` on has the numbers that its kind takes, and the names are packed in node order from `p` up to `e`.
unfoldable pub packed : List ℕ → ℕ → ℕ → ℕ → ℕ → Bool
packed w zero at p e = eqb p e
packed w (suc n) at p e = numbers (kind_at w at) (first_at w at) (second_at w at) p e && packed w n (at + 4) (next_name (kind_at w at) (second_at w at) p) e

-- A node of kind `k` with `c` nodes in its subtree has as many children as its kind takes; the node after it has `d` in its own.
unfoldable pub arity : ℕ → ℕ → ℕ → Bool
arity k c d = cond (is_container_kind k) true (cond (has_one_child k) (leb 2 c && eqb c (d + 1)) (eqb c 1))

-- The nodes below the node at `at`, of which at most `n` are there.
abbrev pub below : List ℕ → ℕ → ℕ → ℕ
below w n at = min (count_at w at - 1) n

-- The counts of the `n` nodes from `at` on nest; `fuel` is at least `n`.
unfoldable pub nest : List ℕ → ℕ → ℕ → ℕ → Bool
nest w zero zero at = true
nest w zero (suc n) at = false
nest w (suc fuel) zero at = true
nest w (suc fuel) (suc n) at =
    leb 1 (count_at w at)
    && (leb (count_at w at) (suc n)
    && (arity (kind_at w at) (count_at w at) (count_at w (at + 4))
    && (nest w fuel (below w n at) (at + 4)
    && nest w fuel (n - below w n at) (at + 4 + 4 * below w n at))))

unfoldable pub nests : List ℕ → ℕ → ℕ → Bool
nests w n at = nest w n n at

-- The header, and the lists are as long as it says; `names` is the count of name bytes lent.
unfoldable pub header : List ℕ → ℕ → Bool
header words names =
    leb header_words (length words)
    && (leb 1 (get_or words 0 0)
    && (leb (get_or words 0 0) max_nodes
    && (eqb (get_or words 1 0) header_words
    && (leb (get_or words 2 0) max_names
    && (eqb (get_or words 3 0) (words_used (get_or words 0 0))
    && (leb (get_or words 3 0) (length words)
    && leb (get_or words 2 0) names))))))

-- The words from the first node on.
abbrev pub node_words : List ℕ → List ℕ
node_words words = drop header_words words

-- The lists begin with a sheet: refusal 3 is the opposite.
unfoldable pub is_sheet : List ℕ → List ℕ → Bool
is_sheet words names =
    header words (length names)
    && (packed (node_words words) (get_or words 0 0) 0 0 (get_or words 2 0)
    && (eqb (count_at (node_words words) 0) (get_or words 0 0)
    && nests (node_words words) (get_or words 0 0) 0))

-- ---- The tree that a sheet holds.

-- A node without its children, from its kind, its two numbers and the name bytes.
unfoldable pub label : List ℕ → ℕ → ℕ → ℕ → Label
label names k a b =
    cond (leb k 23) (primitive k)
    (cond (eqb k 24) (bit_field b)
    (cond (eqb k 25) (typed_bit_field a b)
    (cond (eqb k 26) pointer
    (cond (eqb k 27) atomic
    (cond (eqb k 28) (array a)
    (cond (eqb k 29) (struct (take b (drop a names)))
    (cond (eqb k 30) (union (take b (drop a names))) T.none)))))))

abbrev pub label_at : List ℕ → List ℕ → ℕ → Label
label_at names w at = label names (kind_at w at) (first_at w at) (second_at w at)

-- The `n` nodes from `at` on, as trees side by side; `fuel` is at least `n`.
unfoldable pub read : List ℕ → List ℕ → ℕ → ℕ → ℕ → Trees
read names w zero n at = end
read names w (suc fuel) zero at = end
read names w (suc fuel) (suc n) at =
    node (label_at names w at) (read names w fuel (below w n at) (at + 4)) (read names w fuel (n - below w n at) (at + 4 + 4 * below w n at))

unfoldable pub trees : List ℕ → List ℕ → ℕ → ℕ → Trees
trees names w n at = read names w n n at

unfoldable pub tree_of : List ℕ → List ℕ → Trees
tree_of words names = trees names (node_words words) (get_or words 0 0) 0
