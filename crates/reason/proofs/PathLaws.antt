-- Laws of items and of the path to a node.
use Prim.Native.Nat.{ℕ, suc, ◌+◌, ◌-◌, ◌*◌, ◌/◌, ◌≤◌, ◌<◌}
use native.Mathlib.Numerals.{add-one}
use native.Mathlib.Omega.{arith}
use mathlib.Core.Path.{◌≡◌, refl, ap, sym, ◌∙◌, subst}
use mathlib.Core.List.{List, [], ◌∷◌, ◌++◌}
use mathlib.Core.Bool.{Bool, true, false, cond}
use borrow.Author.Tests.{ltb-true, ltb-false, lt-ltb, le-ltb, eqb-true, eqb-false, ne_eqb, eq-eqb}
use lib.ListN.{length, length-append}
use lib.Dec.{ltb, eqb}
use Rattle.kinds.specs.Print.{decimal}
use Rattle.kinds.specs.Sheet.{count_at, label_at, trees}
use Rattle.kinds.specs.Tree as T
use Rattle.kinds.specs.Tree.{Trees, end, node}
use Rattle.kinds.specs.Walk.{NodeAt, TreesAt}
use Rattle.kinds.proofs.SheetLaws.{trees-step, trees-count}
use Rattle.kinds.proofs.NodeLaws.{node-inner, first_some, first-within, first-node, other-trees, no-trees}
use Rattle.kinds.proofs.DecimalLaws.{decimal-low}
use Rattle.static_str.proofs.NumberLaws.{decimal-few, decimal-fits}
use Rattle.reason.specs.Reason.{items, path_text, dotted}
use Rattle.reason.specs.Spot.{NodeOf, below, path_to, path_from, Inside, Towards, item_text}

-- ---- The count of items.

items-none : (s w : List ℕ) (n at : ℕ) → n ≤ 0 → items (trees s w n at) ≡ 0
unfolding items
items-none s w n at p = ap items (no-trees s w n at p)

items-step : (s w : List ℕ) (n at : ℕ) → TreesAt w at n → 0 < n → items (trees s w n at) ≡ suc (items (trees s w (n - count_at w at) (at + 4 * count_at w at)))
unfolding items
items-step s w n at h p = ap items (trees-step s w n at (first_some w at n h p) (first-within w at n h p))

-- `k` is the count that the code has read
pub items-next : (s w : List ℕ) (n at k : ℕ) → k ≡ count_at w at → TreesAt w at n → 0 < n
    → TreesAt w (at + 4 * k) (n - k) × (items (trees s w n at) ≡ suc (items (trees s w (n - k) (at + 4 * k))))
items-next s w n at k e h p =
    subst (λ (j : ℕ). TreesAt w (at + 4 * j) (n - j) × (items (trees s w n at) ≡ suc (items (trees s w (n - j) (at + 4 * j))))) (sym e)
    (other-trees w at n h p, items-step s w n at h p)

pub items-all : (s w : List ℕ) (n at : ℕ) {k all : ℕ} → k + items (trees s w n at) ≡ all → n ≤ 0 → k ≡ all
items-all s w n at e p = let i = items-none s w n at p in omega arith

-- ---- The item that holds a node.

-- `x` stands among the trees of some nodes from `at` on, of which the first is the item `i` of the node at `parent`.
pub record Among (w : List ℕ) (parent x at i : ℕ) : Type 0 where
  pub left : ℕ
  pub further : parent < at
  pub whole : TreesAt w at left
  pub holds : NodeOf at left x
  pub few : i < at
  pub path : path_from w parent x ≡ path_to (trees [] w left at) at i x

-- the node at `x`, past the first
node-past : {at n x : ℕ} (k : ℕ) → NodeOf at n x → at + 4 * k ≤ x → NodeOf (at + 4 * k) (n - k) x
node-past {at} {n} {x} k h p =
    let e = h.is in
    let f = h.few in
    record { number = h.number - k; is = omega arith; few = omega arith }

pub node-within : {at n x : ℕ} (k : ℕ) → NodeOf at n x → x < at + 4 * k → NodeOf at k x
node-within k h p = let e = h.is in record { number = h.number; is = e; few = omega arith }

node-as : {at n m x : ℕ} → NodeOf at n x → n ≡ m → NodeOf at m x
node-as {at} {n} {m} {x} h e = subst (λ (k : ℕ). NodeOf at k x) e h

-- below the node at `at`
pub node-below : {at n x : ℕ} → NodeOf at n x → at < x → NodeOf (at + 4) (n - 1) x
node-below h p = let e = h.is in let f = h.few in record { number = h.number - 1; is = omega arith; few = omega arith }

pub node-first : {at n x : ℕ} → NodeOf at n x → at ≤ x
node-first h = let e = h.is in omega arith

pub node-last : {at n x : ℕ} → NodeOf at n x → x ≤ at → at ≡ x
node-last h p = let e = h.is in omega arith

node-after : {at n x : ℕ} → NodeOf at n x → (x ≡ at → ⊥) → at < x
node-after {at} {n} {x} h d = go (ltb at x) refl
  where
    go : (t : Bool) → ltb at x ≡ t → at < x
    go true e = ltb-true at x e
    go false e = absurd (d (sym (node-last h (ltb-false at x e))))

-- the place of a node of a sheet
pub inside-place : {w : List ℕ} {x : ℕ} → Inside w x → x ≤ 8000
inside-place h = let e = h.node.is in let f = h.node.few in let n = h.few in omega arith

path-here : (w : List ℕ) (at : ℕ) → path_from w at at ≡ []
unfolding path_from
path-here w at = rw (eq-eqb at at refl)

path-below : (w : List ℕ) (at x : ℕ) → at < x → path_from w at x ≡ path_to (below [] w at) (at + 4) 0 x
unfolding path_from
path-below w at x p = rw (ne_eqb x at (λ e. omega arith))

module _ (w : List ℕ) (parent x : ℕ) where
  pub among_first : NodeAt w parent → NodeOf (parent + 4) (count_at w parent - 1) x → Among w parent x (parent + 4) 0
  among_first h k =
      let r = h.room in
      let e = k.is in
      record {
        left = count_at w parent - 1;
        further = omega arith;
        whole = node-inner w parent h;
        holds = k;
        few = omega arith;
        path = path-below w parent x (omega arith);
      }

  module _ (at i : ℕ) (a : Among w parent x at i) where
    some_left : 0 < a.left
    some_left = let f = a.holds.few in omega arith

    pub among-node : NodeAt w at
    among-node = first-node w at a.left a.whole some_left

    pub among-start : at ≤ x
    among-start = node-first a.holds

    step : trees [] w a.left at ≡ node (label_at [] w at) (below [] w at) (trees [] w (a.left - count_at w at) (at + 4 * count_at w at))
    step = trees-step [] w a.left at (first_some w at a.left a.whole some_left) (first-within w at a.left a.whole some_left)

    ends : at + 4 * suc (T.count (below [] w at)) ≡ at + 4 * count_at w at
    ends = let c = trees-count [] w (count_at w at - 1) (at + 4) in let s = among-node.some-node in omega arith

    next : at + 4 * count_at w at ≤ x → Among w parent x (at + 4 * count_at w at) (i + 1)
    unfolding path_to
    next p =
        let s = among-node.some-node in
        let f = a.further in
        let n = a.few in
        record {
          left = a.left - count_at w at;
          further = omega arith;
          whole = other-trees w at a.left a.whole some_left;
          holds = node-past (count_at w at) a.holds p;
          few = omega arith;
          path = a.path ∙ ap (λ t. path_to t at i x) step ∙ rw (ends, ne_eqb x at (λ e. omega arith), le-ltb x (at + 4 * count_at w at) p, add-one);
        }

    pub among_next : {c : ℕ} → c ≡ count_at w at → 4 * c ≤ x - at → Among w parent x (at + 4 * c) (i + 1)
    among_next e p = let q = among-start in subst (λ (k : ℕ). Among w parent x (at + 4 * k) (i + 1)) (sym e) (next (omega arith))

    found : (t : Bool) → eqb x at ≡ t → x < at + 4 * count_at w at → path_to (trees [] w a.left at) at i x ≡ i ∷ path_from w at x
    unfolding path_to path_from
    found true e p = ap (λ t. path_to t at i x) step ∙ rw e
    found false e p = ap (λ t. path_to t at i x) step ∙ rw (ends, e, lt-ltb x (at + 4 * count_at w at) p)

    pub among-found : x < at + 4 * count_at w at → Towards w parent x at i
    among-found p = record {
      further = a.further;
      few = a.few;
      whole = among-node;
      holds = node-within (count_at w at) a.holds p;
      path = a.path ∙ found (eqb x at) refl p;
    }

-- ---- The text of a path.

-- What is left to write of a path, of which the part down to the node at `at` is written.
unfoldable pub rest_text : ℕ → List ℕ → List ℕ
rest_text at p = cond (eqb at 0) (path_text p) (dotted p)

pub rest-start : (p : List ℕ) → rest_text 0 p ≡ path_text p
unfolding rest_text
rest-start p = refl

pub rest-begin : (p : List ℕ) → 0 + length (rest_text 0 p) ≡ length (path_text p)
rest-begin p = let e = ap length (rest-start p) in omega arith

pub rest-none : (w : List ℕ) (at x : ℕ) → at ≡ x → rest_text at (path_from w at x) ≡ []
unfolding rest_text path_text dotted
rest-none w at x e = ap (λ y. rest_text at (path_from w at y)) (sym e) ∙ ap (rest_text at) (path-here w at) ∙ go (eqb at 0)
  where
    go : (t : Bool) → cond t (path_text []) (dotted []) ≡ []
    go true = refl
    go false = refl

pub rest-step : (w : List ℕ) (at x next i : ℕ) → Towards w at x next i → rest_text at (path_from w at x) ≡ item_text (eqb at 0) i ++ rest_text next (path_from w next x)
unfolding rest_text path_text dotted item_text
rest-step w at x next i h =
    let f = h.further in
    ap (rest_text at) h.path ∙ rw (ne_eqb next 0 (λ e. omega arith)) (go (eqb at 0))
  where
    p : List ℕ
    p = path_from w next x

    go : (t : Bool) → cond t (path_text (i ∷ p)) (dotted (i ∷ p)) ≡ item_text t i ++ dotted p
    go true = refl
    go false = refl

-- the lengths, as the code counts them: a dot where the item is not the first
module _ (w : List ℕ) (at x : ℕ) where
  pub rest_all : (len : ℕ) {n all : ℕ} → NodeOf at n x → x ≤ at → len + length (rest_text at (path_from w at x)) ≡ all → len ≡ all
  rest_all len h p e = let z = ap length (rest-none w at x (node-last h p)) in omega arith

  -- `m` is the count with the dot, where there is one, and `d` the count of digits
  module _ (next i : ℕ) (h : Towards w at x next i) (len m d : ℕ) (digits : d ≡ length (decimal i)) {all : ℕ} (e : len + length (rest_text at (path_from w at x)) ≡ all) where
    step-length : length (rest_text at (path_from w at x)) ≡ length (item_text (eqb at 0) i) + length (rest_text next (path_from w next x))
    step-length = ap length (rest-step w at x next i h) ∙ length-append (item_text (eqb at 0) i) (rest_text next (path_from w next x))

    pub rest-first : at ≤ 0 → m ≡ len → m + d + length (rest_text next (path_from w next x)) ≡ all
    unfolding item_text
    rest-first p q = let z : length (item_text (eqb at 0) i) ≡ length (decimal i) = rw (eq-eqb at 0 (omega arith)) in let s = step-length in omega arith

    pub rest-later : 0 < at → m ≡ len + 1 → m + d + length (rest_text next (path_from w next x)) ≡ all
    unfolding item_text
    rest-later p q = let z : length (item_text (eqb at 0) i) ≡ suc (length (decimal i)) = rw (ne_eqb at 0 (λ q. omega arith)) in let s = step-length in omega arith

pub item-digits : {w : List ℕ} {at x next i : ℕ} → Towards w at x next i → x ≤ 8000 → length (decimal i) ≤ 20
item-digits {w} {at} {x} {next} {i} h p = let f = h.few in let n = node-first h.holds in decimal-fits i (omega arith)

pub item-first : (i : ℕ) {first : Bool} → first ≡ true → decimal i ≡ item_text first i
unfolding item_text
item-first i e = sym (ap (λ t. item_text t i) e)

pub item-later : (i : ℕ) {first : Bool} → first ≡ false → 46 ∷ decimal i ≡ item_text first i
unfolding item_text
item-later i e = sym (ap (λ t. item_text t i) e)

pub item-digit : (i : ℕ) {first : Bool} → first ≡ false → i < 10 → 46 ∷ (48 + i) ∷ [] ≡ item_text first i
item-digit i e h = ap (λ s. 46 ∷ s) (sym (decimal-low i h)) ∙ item-later i e

-- ---- How long the text of a path can be.

pub dotted-length : (i : ℕ) (p : List ℕ) → length (dotted (i ∷ p)) ≡ 1 + length (decimal i) + length (dotted p)
unfolding dotted
dotted-length i p = omega (arith, length-append (decimal i) (dotted p))

dotted-none : length (dotted []) ≡ 0
unfolding dotted
dotted-none = refl

text-dotted : (p : List ℕ) → length (path_text p) ≤ length (dotted p)
unfolding path_text dotted
text-dotted [] = omega arith
text-dotted (i ∷ p) = omega arith

-- two bytes for each node before it, and for the node itself
to-half : (t : Trees) (at i x : ℕ) → NodeOf at (T.count t) x → 2 * length (dotted (path_to t at i x)) ≤ 4 * suc i + (x - at)
unfolding path_to T.count
to-half end at i x h = let f = h.few in absurd (omega arith)
to-half (node l cs ts) at i x h =
    go (eqb x at) refl (ltb x (at + 4 * suc (T.count cs))) refl (λ k. to-half cs (at + 4) 0 x k) (λ k. to-half ts (at + 4 * suc (T.count cs)) (suc i) x k)
  where
    n : ℕ
    n = suc (T.count cs)

    go : (s : Bool) → eqb x at ≡ s → (t : Bool) → ltb x (at + 4 * n) ≡ t
        → (NodeOf (at + 4) (T.count cs) x → 2 * length (dotted (path_to cs (at + 4) 0 x)) ≤ 4 + (x - (at + 4)))
        → (NodeOf (at + 4 * n) (T.count ts) x → 2 * length (dotted (path_to ts (at + 4 * n) (suc i) x)) ≤ 4 * suc (suc i) + (x - (at + 4 * n)))
        → 2 * length (dotted (cond s (i ∷ []) (cond t (i ∷ path_to cs (at + 4) 0 x) (path_to ts (at + 4 * n) (suc i) x)))) ≤ 4 * suc i + (x - at)
    go true e t f inner later = omega (arith, dotted-length i [], decimal-few i, dotted-none)
    go false e true f inner later =
        let k = node-below (node-within n h (ltb-true x (at + 4 * n) f)) (node-after h (eqb-false x at e)) in
        let s = node-first k in
        omega (arith, inner (node-as k (omega arith)), dotted-length i (path_to cs (at + 4) 0 x), decimal-few i)
    go false e false f inner later =
        let k = node-past n h (ltb-false x (at + 4 * n) f) in
        let s = node-first k in
        omega (arith, later (node-as k (omega arith)))

pub path-half : {w : List ℕ} {x : ℕ} → Inside w x → length (path_text (path_from w 0 x)) ≤ x / 2
path-half {w} {x} h = go (eqb x 0) refl
  where
    size : T.count (below [] w 0) ≡ count_at w 0 - 1
    size = trees-count [] w (count_at w 0 - 1) (0 + 4)

    go : (t : Bool) → eqb x 0 ≡ t → length (path_text (path_from w 0 x)) ≤ x / 2
    go true e = let p = ap (λ y. length (path_text (path_from w 0 y))) (eqb-true x 0 e) ∙ ap (λ y. length (path_text y)) (path-here w 0) in omega (arith, text-dotted [], dotted-none)
    go false e =
        let b = node-after h.node (eqb-false x 0 e) in
        let k = node-as (node-below h.node b) (sym size) in
        let s = node-first k in
        let p = ap (λ y. length (path_text y)) (path-below w 0 x b) in
        omega (arith, to-half (below [] w 0) (0 + 4) 0 x k, text-dotted (path_to (below [] w 0) (0 + 4) 0 x))
