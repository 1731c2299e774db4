-- The size of each kind of node, and the walk over a container's fields.
use Prim.Native.Nat.{ℕ, zero, suc, ◌+◌, ◌-◌, ◌*◌, ◌≤◌, ◌<◌, max}
use native.Mathlib.Omega.{arith}
use mathlib.Core.Path.{◌≡◌, refl, ap, ap₂, sym, ◌∙◌, subst}
use mathlib.Core.List.{List, [], ◌∷◌}
use Rattle.std.specs.Prelude.{Option, Some, None, unwrap_or}
use mathlib.Core.Bool.{Bool, true, false, cond, ◌||◌, false≢true}
use borrow.Author.Tests.{le-leb, lt-leb, leb-true, leb-false, ne_eqb, eqb-true, eqb-false}
use lib.Dec.{leb, eqb}
use lib.ListN.{length, get_or}
use Rattle.kinds.specs.Level.{shows_fields, container_include_fields}
use Rattle.kinds.specs.Primitive.{Widths, primitive_size, widths, size_in, size_rows, entry}
use Rattle.kinds.specs.Sheet.{kind_at, first_at, second_at, count_at, label_at, is_container_kind, read, trees}
use Rattle.kinds.specs.Size.{bit_bytes, plus, larger, times, sum, largest, only, node_size, sizes}
use Rattle.kinds.specs.Tree.{Trees, inside}
use Rattle.kinds.specs.Walk.{NodeAt, TreesAt}
use Rattle.kinds.specs.declared.NestingLevel.{NestingLevel}
use Rattle.kinds.specs.declared.NestingLevel.TheVariants.{Within, Bottom}
use Rattle.kinds.proofs.KindLaws.{included, dropped}
use Rattle.kinds.proofs.PrimitiveLaws.{table-size}
use Rattle.kinds.proofs.SheetLaws.{trees-step}
use Rattle.kinds.proofs.NodeLaws.{leaf-count, node-inner, no-trees, child-count, node-child, first_some, first-within, first-node, other-trees, inner-count, inner-end, inner-trees, label-primitive}
use Rattle.kinds.proofs.NodeLaws.{label-bits, label-typed, label-pointer, label-atomic, label-array, label-struct, label-union, label-none}
use Rattle.helper.specs.Measure.{clip, join_measured, join, fold, holding, is_leaf, leaf_size, leaf_entry, RowOf, size_at}
use Rattle.helper.specs.declared.Measured.{Measured}
use Rattle.helper.proofs.SizeLaws.{clip-join, join-assoc, join-unit, fold-cons, larger-some}

lt_of : {k : ℕ} → k ≤ 23 → k < 24
lt_of p = omega arith

module _ (m : Widths) (s w : List ℕ) (at : ℕ) where
  -- the trees of `n` nodes, by their sizes
  pub sizes_step : (v : NestingLevel) (n : ℕ) → 1 ≤ count_at w at → count_at w at ≤ n → sizes m v (trees s w n at)
      ≡ size_at m s w at v ∷ sizes m v (trees s w (n - count_at w at) (at + 4 * count_at w at))
  unfolding sizes size_at
  sizes_step v n p q = rw (trees-step s w n at p q)

  pub size-leaf : (v : NestingLevel) → is_leaf (kind_at w at) ≡ true → size_at m s w at v ≡ leaf_size m (kind_at w at) (second_at w at)
  unfolding size_at node_size leaf_size is_leaf
  size-leaf v h = go (leb (kind_at w at) 23) refl (eqb (kind_at w at) 24) refl (eqb (kind_at w at) 26) refl
    where
      high : (kind_at w at ≤ 23 → ⊥) → (kind_at w at ≡ 24 → ⊥) → (kind_at w at ≡ 26 → ⊥) → 30 < kind_at w at
      high a b c = leb-true 31 (kind_at w at) (rw (lt-leb (kind_at w at) 24 (omega arith), ne_eqb (kind_at w at) 26 c) at h)

      no : 23 < kind_at w at → kind_at w at ≤ 23 → ⊥
      no a b = omega arith

      go : (t : Bool) → leb (kind_at w at) 23 ≡ t → (u : Bool) → eqb (kind_at w at) 24 ≡ u → (x : Bool) → eqb (kind_at w at) 26 ≡ x → size_at m s w at v
          ≡ leaf_size m (kind_at w at) (second_at w at)
      go true e u d x f = rw (label-primitive s (kind_at w at) (first_at w at) (second_at w at) (lt_of (leb-true (kind_at w at) 23 e)), e)
      go false e true d x f = rw (label-bits s (kind_at w at) (first_at w at) (second_at w at) (eqb-true (kind_at w at) 24 d), e, d)
      go false e false d true f = rw (label-pointer s (kind_at w at) (first_at w at) (second_at w at) (eqb-true (kind_at w at) 26 f), e, d, f)
      go false e false d false f = rw (
        label-none s (kind_at w at) (first_at w at) (second_at w at)
            (high (no (leb-false (kind_at w at) 23 e)) (eqb-false (kind_at w at) 24 d) (eqb-false (kind_at w at) 26 f)),
        e,
        d,
        f,
      )

  size-container : (v : NestingLevel) → is_container_kind (kind_at w at) ≡ true → size_at m s w at v
      ≡ cond (shows_fields v) (fold (kind_at w at) (sizes m Within (trees s w (count_at w at - 1) (at + 4)))) None
  unfolding size_at node_size fold
  size-container v p = go (eqb (kind_at w at) 29) refl (eqb (kind_at w at) 30) refl p
    where
      go : (t : Bool) → eqb (kind_at w at) 29 ≡ t → (u : Bool) → eqb (kind_at w at) 30 ≡ u → (t || u) ≡ true → size_at m s w at v
          ≡ cond (shows_fields v) (cond (eqb (kind_at w at) 29) (sum (sizes m Within (trees s w (count_at w at - 1) (at + 4))))
          (largest (sizes m Within (trees s w (count_at w at - 1) (at + 4))))) None
      go true e u d r = rw (label-struct s (kind_at w at) (first_at w at) (second_at w at) (eqb-true (kind_at w at) 29 e), e)
      go false e true d r = rw (label-union s (kind_at w at) (first_at w at) (second_at w at) (eqb-true (kind_at w at) 30 d), e)
      go false e false d r = absurd (false≢true r)

  -- a typed bitfield, an atomic, an array
  module _ (h : NodeAt w at) (lo : 25 ≤ kind_at w at) (hi : kind_at w at ≤ 28) where
    only_child : (v : NestingLevel) → only (sizes m v (trees s w (count_at w at - 1) (at + 4))) ≡ size_at m s w (at + 4) v
    unfolding sizes size_at only
    only_child v =
        let e = child-count w at h lo hi in
        rw (trees-step s w (count_at w at - 1) (at + 4) (node-child w at h lo hi).some-node (omega arith))

    pub size-held : (v : NestingLevel) → (kind_at w at ≡ 26 → ⊥) → size_at m s w at v
        ≡ holding (kind_at w at) (first_at w at) (second_at w at) (size_at m s w (at + 4) (inside (label_at s w at) v))
    unfolding size_at node_size holding
    size-held v other = go (eqb (kind_at w at) 25) refl (eqb (kind_at w at) 28) refl
      where
        last : (kind_at w at ≡ 25 → ⊥) → (kind_at w at ≡ 28 → ⊥) → kind_at w at ≡ 27
        last p q = omega arith

        go : (t : Bool) → eqb (kind_at w at) 25 ≡ t → (u : Bool) → eqb (kind_at w at) 28 ≡ u → size_at m s w at v
            ≡ holding (kind_at w at) (first_at w at) (second_at w at) (size_at m s w (at + 4) (inside (label_at s w at) v))
        go true e u d =
            rw (label-typed s (kind_at w at) (first_at w at) (second_at w at) (eqb-true (kind_at w at) 25 e), e)
            (ap (λ (x : Option ℕ). Some (max (bit_bytes (second_at w at)) (unwrap_or x 0))) (only_child v)
            ∙ larger-some (bit_bytes (second_at w at)) (size_at m s w (at + 4) v))
        go false e true d =
            rw (label-array s (kind_at w at) (first_at w at) (second_at w at) (eqb-true (kind_at w at) 28 d), e, d) (ap (times (first_at w at)) (only_child v))
        go false e false d =
            rw (label-atomic s (kind_at w at) (first_at w at) (second_at w at) (last (eqb-false (kind_at w at) 25 e) (eqb-false (kind_at w at) 28 d)), e, d)
            (only_child Bottom)

  -- a turn of the walk over a container's fields
  fold-turn : (k : ℕ) (v : NestingLevel) (n : ℕ) (e : Option ℕ) → 1 ≤ count_at w at → count_at w at ≤ n
      → join k e (fold k (sizes m v (trees s w n at))) ≡ join k (join k e (size_at m s w at v))
      (fold k (sizes m v (trees s w (n - count_at w at) (at + 4 * count_at w at))))
  fold-turn k v n e p q =
      ap (λ l. join k e (fold k l)) (sizes_step v n p q)
      ∙ ap (join k e) (fold-cons k (size_at m s w at v) (sizes m v (trees s w (n - count_at w at) (at + 4 * count_at w at))))
      ∙ sym (join-assoc k e (size_at m s w at v) (fold k (sizes m v (trees s w (n - count_at w at) (at + 4 * count_at w at)))))

plus-end : (e : Option ℕ) → plus e (Some 0) ≡ e
unfolding plus
plus-end None = refl
plus-end (Some n) = ap Some (omega arith)

larger-end : (e : Option ℕ) → larger e None ≡ e
unfolding larger
larger-end None = refl
larger-end (Some n) = refl

fold_end : (m : Widths) (s w : List ℕ) (at k : ℕ) (v : NestingLevel) (n : ℕ) (e : Option ℕ) → n ≤ 0 → join k e (fold k (sizes m v (trees s w n at))) ≡ e
unfolding join fold sizes trees read sum largest
fold_end m s w at k v zero e p = go (eqb k 29)
  where
    go : (t : Bool) → cond t (plus e (cond t (Some 0) None)) (larger e (cond t (Some 0) None)) ≡ e
    go true = plus-end e
    go false = larger-end e
fold_end m s w at k v (suc n) e p = absurd (omega arith)

-- a leaf's size by a row of the table
pub leaf-entry : {row : List ℕ} {m : Widths} → RowOf row m → (k b : ℕ) → leaf_entry row k b ≡ leaf_size m k b
unfolding leaf_entry leaf_size
leaf-entry {row} {m} o k b = go (leb k 23) refl
  where
    go : (t : Bool) → leb k 23 ≡ t → cond t (entry (get_or row k 0)) (cond (eqb k 24) (Some (bit_bytes b)) (cond (eqb k 26) (entry (get_or row 18 0)) None))
        ≡ cond t (primitive_size m k) (cond (eqb k 24) (Some (bit_bytes b)) (cond (eqb k 26) (Some m.pointer) None))
    go true e = o.codes k (lt_of (leb-true k 23 e))
    go false e = ap (λ x. cond (eqb k 24) (Some (bit_bytes b)) (cond (eqb k 26) x None)) o.pointers

string-size : (m : Widths) → primitive_size m 18 ≡ Some m.pointer
unfolding primitive_size
string-size m = refl

module _ (row : ℕ) (h : row < 4) where
  row-size : (k : ℕ) → size_in row k ≡ primitive_size (widths row) k
  unfolding size_in
  row-size k = rw (le-leb row 3 (omega arith))

  row-codes : (k : ℕ) → k < 24 → entry (get_or (get_or size_rows row []) k 0) ≡ primitive_size (widths row) k
  row-codes k g = table-size row k h g ∙ row-size k

  -- The rows of the table have the sizes of their machines.
  pub table-row : RowOf (get_or size_rows row []) (widths row)
  table-row = record { codes = row-codes; pointers = row-codes 18 (omega arith) ∙ string-size (widths row) }

pub low-leaf : (k : ℕ) → k < 25 → is_leaf k ≡ true
unfolding is_leaf
low-leaf k p = rw (le-leb k 24 (omega arith))

-- what is no leaf
pub not-leaf : (k : ℕ) → is_leaf k ≡ false → (25 ≤ k) × (k ≤ 30) × (k ≡ 26 → ⊥)
unfolding is_leaf
not-leaf k h = go (leb k 24) refl (eqb k 26) refl (leb 31 k) refl h
  where
    go : (t : Bool) → leb k 24 ≡ t → (u : Bool) → eqb k 26 ≡ u → (x : Bool) → leb 31 k ≡ x → (t || (u || x)) ≡ false → (25 ≤ k) × (k ≤ 30) × (k ≡ 26 → ⊥)
    go true a u b x c e = absurd (false≢true (sym e))
    go false a true b x c e = absurd (false≢true (sym e))
    go false a false b true c e = absurd (false≢true (sym e))
    go false a false b false c e = (leb-false k 24 a, le (leb-false 31 k c), eqb-false k 26 b)
      where
        le : k < 31 → k ≤ 30
        le p = omega arith

module _ (m : Widths) (s w : List ℕ) (at : ℕ) (v : NestingLevel) (p : is_container_kind (kind_at w at) ≡ true) where
  pub size-dropped : container_include_fields v ≡ None → size_at m s w at v ≡ None
  size-dropped h = size-container m s w at v p ∙ rw (dropped v h)

  pub size-included : (u : NestingLevel) → container_include_fields v ≡ Some u → fold (kind_at w at) (sizes m u (trees s w (count_at w at - 1) (at + 4)))
      ≡ size_at m s w at v
  size-included u h =
      ap (λ x. fold (kind_at w at) (sizes m x (trees s w (count_at w at - 1) (at + 4)))) (included v u h).1
      ∙ sym (size-container m s w at v p ∙ rw (included v u h).0)

-- ---- A container among the fields of one of its kind.

-- two runs of trees, one after the other
module _ (w : List ℕ) (j : ℕ) where
  module _ (m : Widths) (s : List ℕ) (k : ℕ) (v : NestingLevel) where
    fold-first : (i at : ℕ) → i ≤ 0 → fold k (sizes m v (trees s w (i + j) at)) ≡ join k (fold k (sizes m v (trees s w i at)))
        (fold k (sizes m v (trees s w j (at + 4 * i))))
    unfolding sizes
    fold-first i at p =
        ap₂ (λ (x y : ℕ). fold k (sizes m v (trees s w x y))) (omega arith) (omega arith)
        ∙ sym (join-unit k (sizes m v (trees s w j (at + 4 * i))))
        ∙ ap (λ (t : Trees). join k (fold k (sizes m v t)) (fold k (sizes m v (trees s w j (at + 4 * i))))) (sym (no-trees s w i at p))

    fold-run : (f i at : ℕ) → i ≤ f → TreesAt w at i → fold k (sizes m v (trees s w (i + j) at))
        ≡ join k (fold k (sizes m v (trees s w i at))) (fold k (sizes m v (trees s w j (at + 4 * i))))
    fold-run zero i at p h = fold-first i at p
    fold-run (suc f) zero at p h = fold-first zero at (omega arith)
    fold-run (suc f) (suc i) at p h =
        let a = first_some w at (suc i) h (omega arith) in
        let b = first-within w at (suc i) h (omega arith) in
        ap (fold k) (sizes_step m s w at v (suc i + j) a (omega arith))
        ∙ fold-cons k (size_at m s w at v) (sizes m v (trees s w (suc i + j - count_at w at) (at + 4 * count_at w at)))
        ∙ ap (join k (size_at m s w at v))
        (ap (λ (x : ℕ). fold k (sizes m v (trees s w x (at + 4 * count_at w at)))) (omega arith)
        ∙ fold-run f (suc i - count_at w at) (at + 4 * count_at w at) (omega arith) (other-trees w at (suc i) h (omega arith))
        ∙ ap (λ (x : ℕ). join k (fold k (sizes m v (trees s w (suc i - count_at w at) (at + 4 * count_at w at)))) (fold k (sizes m v (trees s w j x))))
        (omega arith))
        ∙ sym (join-assoc k (size_at m s w at v) (fold k (sizes m v (trees s w (suc i - count_at w at) (at + 4 * count_at w at))))
        (fold k (sizes m v (trees s w j (at + 4 * suc i)))))
        ∙ ap (λ (x : Option ℕ). join k x (fold k (sizes m v (trees s w j (at + 4 * suc i)))))
        (sym (ap (fold k) (sizes_step m s w at v (suc i) a b) ∙ fold-cons k (size_at m s w at v)
        (sizes m v (trees s w (suc i - count_at w at) (at + 4 * count_at w at)))))

module _ (w : List ℕ) (at n : ℕ) (h : TreesAt w at n) (p : 0 < n) where
  fold-inner : (m : Widths) (s : List ℕ) → is_container_kind (kind_at w at) ≡ true → fold (kind_at w at) (sizes m Within (trees s w n at))
      ≡ fold (kind_at w at) (sizes m Within (trees s w (n - 1) (at + 4)))
  fold-inner m s c =
      ap (fold (kind_at w at)) (sizes_step m s w at Within n (first_some w at n h p) (first-within w at n h p))
      ∙ fold-cons (kind_at w at) (size_at m s w at Within) (sizes m Within (trees s w (n - count_at w at) (at + 4 * count_at w at)))
      ∙ ap₂ (join (kind_at w at)) (size-container m s w at Within c)
      (ap (λ (x : ℕ). fold (kind_at w at) (sizes m Within (trees s w (n - count_at w at) x))) (sym (inner-end w at n h p)))
      ∙ sym (fold-run w (n - count_at w at) m s (kind_at w at) Within (count_at w at - 1) (count_at w at - 1) (at + 4) (omega arith)
      (node-inner w at (first-node w at n h p)))
      ∙ ap (λ (x : ℕ). fold (kind_at w at) (sizes m Within (trees s w x (at + 4)))) (inner-count w at n h p)

-- What is gathered of a container's fields: `all` of those before `at`, with the sizes of the `n` nodes from there on, makes `total`.
pub record Gathered (row : List ℕ) (k : ℕ) (v : NestingLevel) (w : List ℕ) (at n : ℕ) (all : Measured) (total : Widths → List ℕ → Option ℕ) : Type 0 where
  pub there : TreesAt w at n
  pub rest : (m : Widths) → RowOf row m → (s : List ℕ) → (e : Option ℕ) × (all ≡ clip e) × (join k e (fold k (sizes m v (trees s w n at))) ≡ total m s)

module _ {row : List ℕ} {k : ℕ} {v : NestingLevel} {w : List ℕ} {at n : ℕ} {all : Measured} {total : Widths → List ℕ → Option ℕ}
    (g : Gathered row k v w at n all total) where
  pub gathered-end : n ≤ 0 → (m : Widths) → RowOf row m → (s : List ℕ) → all ≡ clip (total m s)
  gathered-end p m o s = let i = g.rest m o s in i.1 ∙ ap clip (sym (fold_end m s w at k v n i.0 p) ∙ i.2)

  module _ (p : 0 < n) where
    pub gathered-node : NodeAt w at
    gathered-node = first-node w at n g.there p

    pub gathered-within : (1 ≤ count_at w at) × (count_at w at ≤ n) × (at + 4 * n ≤ length w)
    gathered-within = (first_some w at n g.there p, first-within w at n g.there p, g.there.room)

    pub gathered-turn : (x : Measured) → ((m : Widths) → RowOf row m → (s : List ℕ) → x ≡ clip (size_at m s w at v)) → {y : Measured} → y ≡ join_measured k all x
        → Gathered row k v w (at + 4 * count_at w at) (n - count_at w at) y total
    gathered-turn x e {y} d = record {
      there = other-trees w at n g.there p;
      rest = λ m o s.
          let i = g.rest m o s in (
            join k i.0 (size_at m s w at v),
            d ∙ ap₂ (join_measured k) i.1 (e m o s) ∙ clip-join k i.0 (size_at m s w at v),
            sym (fold-turn m s w at k v n i.0 (first_some w at n g.there p) (first-within w at n g.there p)) ∙ i.2,
          );
    }

    -- a code, or a bitfield without a type, is one node
    pub gathered-code : kind_at w at < 25 → (x : Measured) → ((m : Widths) → RowOf row m → (s : List ℕ) → x ≡ clip (size_at m s w at v)) → {y : Measured} → y
        ≡ join_measured k all x → Gathered row k v w (at + 4) (n - 1) y total
    gathered-code lo x e {y} d = subst (λ (c : ℕ). Gathered row k v w (at + 4 * c) (n - c) y total)
        (leaf-count w at gathered-node lo) (gathered-turn x e d)

    -- a container of the same kind: its fields stand in its place
    pub gathered-inner : is_container_kind k ≡ true → kind_at w at ≡ k → v ≡ Within → Gathered row k v w (at + 4) (n - 1) all total
    gathered-inner c e l = record {
      there = inner-trees w at n g.there p;
      rest = λ m o s. let i = g.rest m o s in (i.0, i.1, ap (join k i.0) (sym (same m s)) ∙ i.2);
    }
      where
        same : (m : Widths) (s : List ℕ) → fold k (sizes m v (trees s w n at)) ≡ fold k (sizes m v (trees s w (n - 1) (at + 4)))
        same m s = subst (λ (j : ℕ). fold j (sizes m v (trees s w n at)) ≡ fold j (sizes m v (trees s w (n - 1) (at + 4)))) e
            (subst (λ (u : NestingLevel). fold (kind_at w at) (sizes m u (trees s w n at)) ≡ fold (kind_at w at) (sizes m u (trees s w (n - 1) (at + 4))))
            (sym l) (fold-inner w at n g.there p m s (ap is_container_kind e ∙ c)))
