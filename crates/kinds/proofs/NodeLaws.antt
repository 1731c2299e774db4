-- Whole subtrees among the node words of a sheet, and the label of each kind of node.
use Prim.Native.Nat.{ℕ, zero, suc, ◌+◌, ◌-◌, ◌*◌, ◌≤◌, ◌<◌}
use native.Mathlib.Omega.{arith}
use mathlib.Core.Path.{◌≡◌, refl, ap, ap₂, sym, ◌∙◌, subst}
use mathlib.Core.List.{List}
use mathlib.Core.Bool.{Bool, true, false, ◌&&◌, false≢true}
use borrow.Author.Tests.{le-leb, lt-leb, leb-true, leb-false, ne_eqb, eqb-true, eqb-false}
use lib.ListN.{length, get_or, take, drop, length-drop}
use lib.Dec.{leb, eqb}
use Rattle.kinds.specs.Tree as T
use Rattle.kinds.specs.Tree.{end, primitive, bit_field, typed_bit_field, pointer, atomic, array, struct, union, is_end, kind, is_container}
use Rattle.kinds.specs.Sheet.{header, numbers, next_name, packed, is_sheet, header_words, node_words, kind_at, first_at, second_at, count_at, label, is_container_kind, read, trees, arity, nests}
use Rattle.kinds.specs.Walk.{NodeAt, TreesAt, KindAndName, KindsAndNames}
use Rattle.kinds.proofs.SheetLaws.{Header, header-says, arity-one, arity-low, arity-high, nests-step, nests-zero, nests-over, nests-none, packed-first, packed-rest, container-first, container-fits}
use Rattle.kinds.proofs.TableLaws.{both_left, both_right}

module _ (w : List ℕ) (at : ℕ) (h : NodeAt w at) where
  step : (arity (kind_at w at) (count_at w at) (count_at w (at + 4)) && (nests w (count_at w at - 1) (at + 4) && nests w (count_at w at - count_at w at) (at + 4 * count_at w at))) ≡ true
  step = sym (nests-step w (count_at w at) at h.some-node (omega arith)) ∙ h.nested

  pub node-arity : arity (kind_at w at) (count_at w at) (count_at w (at + 4)) ≡ true
  node-arity = both_left (arity (kind_at w at) (count_at w at) (count_at w (at + 4))) _ step

  -- a code or a bitfield without a type is one node, and so is None
  pub leaf-count : kind_at w at < 25 → count_at w at ≡ 1
  leaf-count p = eqb-true (count_at w at) 1 (sym (arity-low (kind_at w at) (count_at w at) (count_at w (at + 4)) p) ∙ node-arity)

  pub none-count : 28 < kind_at w at → is_container_kind (kind_at w at) ≡ false → count_at w at ≡ 1
  none-count p plain = eqb-true (count_at w at) 1 (sym (arity-high (kind_at w at) (count_at w at) (count_at w (at + 4)) p plain) ∙ node-arity)

  pub node-inner : TreesAt w (at + 4) (count_at w at - 1)
  node-inner = record {
    room = let a = h.some-node in let b = h.room in omega arith;
    nested = both_left (nests w (count_at w at - 1) (at + 4)) _ (both_right (arity (kind_at w at) (count_at w at) (count_at w (at + 4))) _ step);
  }

  one : 25 ≤ kind_at w at → kind_at w at ≤ 28 → (leb 2 (count_at w at) && eqb (count_at w at) (count_at w (at + 4) + 1)) ≡ true
  one p q = sym (arity-one (kind_at w at) (count_at w at) (count_at w (at + 4)) p q) ∙ node-arity

  pub child-count : 25 ≤ kind_at w at → kind_at w at ≤ 28 → count_at w at ≡ count_at w (at + 4) + 1
  child-count p q = eqb-true (count_at w at) (count_at w (at + 4) + 1) (both_right (leb 2 (count_at w at)) _ (one p q))

  pub node-child : 25 ≤ kind_at w at → kind_at w at ≤ 28 → NodeAt w (at + 4)
  node-child p q =
      let e = child-count p q in
      let t = leb-true 2 (count_at w at) (both_left (leb 2 (count_at w at)) _ (one p q)) in
      let r = h.room in
      record {
        some-node = omega arith;
        room = omega arith;
        nested = subst (λ (n : ℕ). nests w n (at + 4) ≡ true) (omega arith) node-inner.nested;
      }

module _ (w : List ℕ) (at n : ℕ) (h : TreesAt w at n) (p : 0 < n) where
  pub first_some : 1 ≤ count_at w at
  first_some = go (leb 1 (count_at w at)) refl
    where
      go : (t : Bool) → leb 1 (count_at w at) ≡ t → 1 ≤ count_at w at
      go true e = leb-true 1 (count_at w at) e
      go false e = absurd (false≢true (sym (nests-zero w n at p (leb-false 1 (count_at w at) e)) ∙ h.nested))

  pub first-within : count_at w at ≤ n
  first-within = go (leb (count_at w at) n) refl
    where
      go : (t : Bool) → leb (count_at w at) n ≡ t → count_at w at ≤ n
      go true e = leb-true (count_at w at) n e
      go false e = absurd (false≢true (sym (nests-over w n at p first_some (leb-false (count_at w at) n e)) ∙ h.nested))

  parts : (arity (kind_at w at) (count_at w at) (count_at w (at + 4)) && (nests w (count_at w at - 1) (at + 4) && nests w (n - count_at w at) (at + 4 * count_at w at))) ≡ true
  parts = sym (nests-step w n at first_some first-within) ∙ h.nested

  pub first-node : NodeAt w at
  first-node = record {
    some-node = first_some;
    room = let a = first-within in let r = h.room in omega arith;
    nested =
        let a = both_left (arity (kind_at w at) (count_at w at) (count_at w (at + 4))) _ parts in
        let b = both_left (nests w (count_at w at - 1) (at + 4)) _ (both_right (arity (kind_at w at) (count_at w at) (count_at w (at + 4))) _ parts) in
        nests-step w (count_at w at) at first_some (omega arith) ∙ rw (a, b) (nests-none w (count_at w at - count_at w at) (at + 4 * count_at w at) (omega arith));
  }

  pub other-trees : TreesAt w (at + 4 * count_at w at) (n - count_at w at)
  other-trees = record {
    room = let a = first-within in let r = h.room in omega arith;
    nested = both_right (nests w (count_at w at - 1) (at + 4)) _ (both_right (arity (kind_at w at) (count_at w at) (count_at w (at + 4))) _ parts);
  }

-- the label of each kind
module _ (s : List ℕ) (k a b : ℕ) where
  pub label-primitive : k < 24 → label s k a b ≡ primitive k
  unfolding label
  label-primitive p = rw (le-leb k 23 (omega arith))

  pub label-bits : k ≡ 24 → label s k a b ≡ bit_field b
  unfolding label
  label-bits p = rw p

  pub label-typed : k ≡ 25 → label s k a b ≡ typed_bit_field a b
  unfolding label
  label-typed p = rw p

  pub label-pointer : k ≡ 26 → label s k a b ≡ pointer
  unfolding label
  label-pointer p = rw p

  pub label-atomic : k ≡ 27 → label s k a b ≡ atomic
  unfolding label
  label-atomic p = rw p

  pub label-array : k ≡ 28 → label s k a b ≡ array a
  unfolding label
  label-array p = rw p

  pub label-struct : k ≡ 29 → label s k a b ≡ struct (take b (drop a s))
  unfolding label
  label-struct p = rw p

  pub label-union : k ≡ 30 → label s k a b ≡ union (take b (drop a s))
  unfolding label
  label-union p = rw p

  pub label-none : 30 < k → label s k a b ≡ T.none
  unfolding label
  label-none p = rw (
    lt-leb k 23 (omega arith),
    ne_eqb k 24 (λ e. omega arith),
    ne_eqb k 25 (λ e. omega arith),
    ne_eqb k 26 (λ e. omega arith),
    ne_eqb k 27 (λ e. omega arith),
    ne_eqb k 28 (λ e. omega arith),
    ne_eqb k 29 (λ e. omega arith),
    ne_eqb k 30 (λ e. omega arith),
  )

pub not-container : (k : ℕ) → is_container_kind k ≡ false → (k ≡ 29 → ⊥) × (k ≡ 30 → ⊥)
not-container k h = (λ e. false≢true (sym h ∙ ap is_container_kind e), λ e. false≢true (sym h ∙ ap is_container_kind e))

past : (n k : ℕ) → n ≤ k → (k ≡ n → ⊥) → n + 1 ≤ k
past n k p q = omega arith

pub beyond : (k : ℕ) → 24 ≤ k → (k ≡ 24 → ⊥) → (k ≡ 25 → ⊥) → (k ≡ 26 → ⊥) → (k ≡ 27 → ⊥) → (k ≡ 28 → ⊥) → is_container_kind k ≡ false → 30 < k
beyond k p a b c d e h = past 30 k (past 29 k (past 28 k (past 27 k (past 26 k (past 25 k (past 24 k p a) b) c) d) e) (not-container k h).0) (not-container k h).1

-- a kind from 24 to 31 is one of these
pub by_kind : (P : ℕ → Type 0) → P 24 → P 25 → P 26 → P 27 → P 28 → P 29 → P 30 → P 31 → (k : ℕ) → 24 ≤ k → k ≤ 31 → P k
by_kind P a b c d e f g h k lo hi = at 24 a (λ q₁. at 25 b (λ q₂. at 26 c (λ q₃. at 27 d (λ q₄. at 28 e (λ q₅. at 29 f (λ q₆. at 30 g (λ q₇. subst P (le31 q₇ hi) h) q₆) q₅) q₄) q₃) q₂) q₁) lo
  where
    le31 : 31 ≤ k → k ≤ 31 → 31 ≡ k
    le31 p q = omega arith

    at : (n : ℕ) → P n → (n + 1 ≤ k → P k) → n ≤ k → P k
    at n x more p = go (eqb k n) refl
      where
        go : (t : Bool) → eqb k n ≡ t → P k
        go true q = subst P (sym (eqb-true k n q)) x
        go false q = more (past (eqb-false k n q))
          where
            past : (k ≡ n → ⊥) → n + 1 ≤ k
            past r = omega arith

module _ (s : List ℕ) (a b : ℕ) where
  pub kind-label : (k : ℕ) → k ≤ 31 → kind (label s k a b) ≡ k
  unfolding kind label
  kind-label k hi = go (leb k 23) refl
    where
      go : (t : Bool) → leb k 23 ≡ t → kind (label s k a b) ≡ k
      go true q = rw q
      go false q = by_kind (λ (j : ℕ). kind (label s j a b) ≡ j) refl refl refl refl refl refl refl refl k (leb-false k 23 q) hi

  pub container-label : (k : ℕ) → k ≤ 31 → is_container (label s k a b) ≡ is_container_kind k
  unfolding is_container label
  container-label k hi = go (leb k 23) refl
    where
      go : (t : Bool) → leb k 23 ≡ t → is_container (label s k a b) ≡ is_container_kind k
      go true q = rw (q, ne_eqb k 29 (λ e. low (leb-true k 23 q) e), ne_eqb k 30 (λ e. low' (leb-true k 23 q) e))
        where
          low : k ≤ 23 → k ≡ 29 → ⊥
          low p e = omega arith

          low' : k ≤ 23 → k ≡ 30 → ⊥
          low' p e = omega arith
      go false q = by_kind (λ (j : ℕ). is_container (label s j a b) ≡ is_container_kind j) refl refl refl refl refl refl refl refl k (leb-false k 23 q) hi

pub no-trees : (s w : List ℕ) (n at : ℕ) → n ≤ 0 → trees s w n at ≡ end
unfolding trees read
no-trees s w zero at p = refl
no-trees s w (suc n) at p = absurd (omega arith)

pub some-trees : (s w : List ℕ) (n at : ℕ) → 0 < n → is_end (trees s w n at) ≡ false
unfolding trees read is_end
some-trees s w zero at p = absurd (omega arith)
some-trees s w (suc n) at p = refl

-- a node that takes no child has none
pub leaf-end : (s w : List ℕ) (at : ℕ) → NodeAt w at → arity (kind_at w at) (count_at w at) (count_at w (at + 4)) ≡ eqb (count_at w at) 1 → trees s w (count_at w at - 1) (at + 4) ≡ end
leaf-end s w at h e =
    let c = eqb-true (count_at w at) 1 (sym e ∙ node-arity w at h) in
    no-trees s w (count_at w at - 1) (at + 4) (omega arith)

module _ (w : List ℕ) (m at n : ℕ) (h : KindsAndNames w m at n) where
  pub walk_here : 0 < n → KindAndName w m at
  walk_here p = subst (KindAndName w m) (omega arith) (h 0 p)

  pub walk-inner : (k : ℕ) → k < n → KindsAndNames w m (at + 4) k
  walk-inner k p i q = subst (KindAndName w m) (omega arith) (h (i + 1) (omega arith))

  pub walk_first : (k : ℕ) → k ≤ n → KindsAndNames w m at k
  walk_first k p i q = h i (omega arith)

  pub walk-rest : (k : ℕ) → k ≤ n → KindsAndNames w m (at + 4 * k) (n - k)
  walk-rest k p i q = subst (KindAndName w m) (omega arith) (h (k + i) (omega arith))

-- every node of a sheet
pub numbers-kind : (k a b s e : ℕ) → numbers k a b s e ≡ true → k ≤ 31
unfolding numbers
numbers-kind k a b s e h = go (leb k 31) refl
  where
    go : (t : Bool) → leb k 31 ≡ t → k ≤ 31
    go true q = leb-true k 31 q
    go false q = absurd (no (leb-false k 31 q))
      where
        no : 31 < k → ⊥
        no p = false≢true (sym (rw (ne_eqb k 29 (λ d. omega arith), ne_eqb k 30 (λ d. omega arith), ne_eqb k 25 (λ d. omega arith), ne_eqb k 24 (λ d. omega arith), ne_eqb k 28 (λ d. omega arith), q)) ∙ h)

pub packed-walk : (w : List ℕ) (m n at s e : ℕ) → e ≤ m → packed w n at s e ≡ true → KindsAndNames w m at n
packed-walk w m zero at s e le h i p = absurd (omega arith)
packed-walk w m (suc n) at s e le h zero p =
    let q = packed-first w (suc n) at s e (omega arith) h in
    subst (KindAndName w m) (omega arith) (record {
      kind = numbers-kind (kind_at w at) (first_at w at) (second_at w at) s e q;
      name = λ k. let a = container-first (kind_at w at) (first_at w at) (second_at w at) s e k q in let b = container-fits (kind_at w at) (first_at w at) (second_at w at) s e k q in omega arith;
    })
packed-walk w m (suc n) at s e le h (suc i) p =
    subst (KindAndName w m) (omega arith)
    (packed-walk w m n (at + 4) (next_name (kind_at w at) (second_at w at) s) e le
    (subst (λ (j : ℕ). packed w j (at + 4) (next_name (kind_at w at) (second_at w at) s) e ≡ true) (omega arith) (packed-rest w (suc n) at s e (omega arith) h)) i (omega arith))

-- A node with one child is followed by that child: what it holds and the trees after it are trees side by side.
pub held-trees : (w : List ℕ) (at n : ℕ) → TreesAt w at n → 0 < n → 25 ≤ kind_at w at → kind_at w at ≤ 28 → TreesAt w (at + 4) (n - 1)
held-trees w at n h p lo hi =
    let f = first-node w at n h p in
    let d = node-child w at f lo hi in
    let c = child-count w at f lo hi in
    let q = first-within w at n h p in
    let o = other-trees w at n h p in
    record {
      room = let r = h.room in omega arith;
      nested = nests-step w (n - 1) (at + 4) d.some-node (omega arith)
          ∙ rw (node-arity w (at + 4) d, (node-inner w (at + 4) d).nested) (ap₂ (nests w) (omega arith) (omega arith) ∙ o.nested);
    }

-- Two runs of trees, one after the other, are one.
pub nests-run : (w : List ℕ) (j f i at : ℕ) → i ≤ f → TreesAt w at i → nests w j (at + 4 * i) ≡ true → nests w (i + j) at ≡ true
nests-run w j zero i at p h g = ap₂ (nests w) (omega arith) (omega arith) ∙ g
nests-run w j (suc f) zero at p h g = ap₂ (nests w) (omega arith) (omega arith) ∙ g
nests-run w j (suc f) (suc i) at p h g =
    let a = first_some w at (suc i) h (omega arith) in
    let b = first-within w at (suc i) h (omega arith) in
    let n = first-node w at (suc i) h (omega arith) in
    nests-step w (suc i + j) at a (omega arith)
    ∙ rw (node-arity w at n, (node-inner w at n).nested)
    (ap (λ (x : ℕ). nests w x (at + 4 * count_at w at)) (omega arith)
    ∙ nests-run w j f (suc i - count_at w at) (at + 4 * count_at w at) (omega arith) (other-trees w at (suc i) h (omega arith)) (ap (λ (x : ℕ). nests w j x) (omega arith) ∙ g))

-- So are the children of the first and the trees after it.
module _ (w : List ℕ) (at n : ℕ) (h : TreesAt w at n) (p : 0 < n) where
  pub inner-count : count_at w at - 1 + (n - count_at w at) ≡ n - 1
  inner-count = let a = first_some w at n h p in let b = first-within w at n h p in omega arith

  pub inner-end : at + 4 + 4 * (count_at w at - 1) ≡ at + 4 * count_at w at
  inner-end = let a = first_some w at n h p in omega arith

  pub inner-trees : TreesAt w (at + 4) (n - 1)
  inner-trees =
      let c = count_at w at in
      record {
        room = let r = h.room in omega arith;
        nested = ap (λ (x : ℕ). nests w x (at + 4)) (sym inner-count)
            ∙ nests-run w (n - c) (c - 1) (c - 1) (at + 4) (omega arith) (node-inner w at (first-node w at n h p)) (ap (nests w (n - c)) inner-end ∙ (other-trees w at n h p).nested);
      }

-- What a sheet is.
pub record SheetSays (words names : List ℕ) : Type 0 where
  pub head : Header words (length names)
  pub packs : packed (node_words words) (get_or words 0 0) 0 0 (get_or words 2 0) ≡ true
  pub root : NodeAt (node_words words) 0
  pub count : count_at (node_words words) 0 ≡ get_or words 0 0

pub sheet-says : (words names : List ℕ) → is_sheet words names ≡ true → SheetSays words names
unfolding is_sheet
sheet-says words names h =
    let w = node_words words in
    let a = both_right (header words (length names)) _ h in
    let b = both_right (packed w (get_or words 0 0) 0 0 (get_or words 2 0)) _ a in
    let hd = header-says words (length names) (both_left (header words (length names)) _ h) in
    let e = eqb-true (count_at w 0) (get_or words 0 0) (both_left (eqb (count_at w 0) (get_or words 0 0)) _ b) in
    let r = hd.room in
    let l = length-drop header_words words in
    record {
      count = e;
      head = hd;
      packs = both_left (packed w (get_or words 0 0) 0 0 (get_or words 2 0)) _ a;
      root = record {
        some-node = subst (λ (n : ℕ). 1 ≤ n) (sym e) hd.some-nodes;
        room = subst (λ (n : ℕ). 0 + 4 * n ≤ length w) (sym e) (omega arith);
        nested = subst (λ (n : ℕ). nests w n 0 ≡ true) (sym e) (both_right (eqb (count_at w 0) (get_or words 0 0)) _ b);
      };
    }
