-- The pass over the nodes for bitfields and nodes without a size: what is laid out of a run of trees, one node at a time.
use Prim.Native.Nat.{ℕ, zero, suc, ◌+◌, ◌-◌, ◌*◌, ◌≤◌, ◌<◌}
use native.Mathlib.Omega.{arith}
use mathlib.Core.Path.{◌≡◌, refl, ap, ap₂, sym, ◌∙◌, subst₂}
use mathlib.Core.List.{List, [], ◌∷◌, ◌++◌, append_assoc, append-nil}
use mathlib.Core.Bool.{Bool, true, false, cond, not, ◌&&◌, ◌||◌, false≢true}
use Rattle.std.specs.Prelude.{Some, None}
use borrow.Author.Tests.{ltb-true, ltb-false, lt-ltb, le-ltb, lt-leb, ne_eqb, eqb-true, eqb-false}
use lib.Dec.{ltb, eqb}
use lib.ListN.{length, get_or}
use Rattle.kinds.specs.Primitive.{Widths, entry}
use Rattle.kinds.specs.Sheet.{kind_at, first_at, second_at, count_at, label, label_at, trees, nests}
use Rattle.kinds.specs.Size.{is_none}
use Rattle.kinds.specs.Tree as T
use Rattle.kinds.specs.Tree.{Label, Trees, end, node, primitive, bit_field, typed_bit_field, pointer, atomic, array, struct, union, is_end, count, inside, shows}
use Rattle.kinds.specs.Walk.{NodeAt, TreesAt}
use Rattle.kinds.specs.declared.NestingLevel.{NestingLevel}
use Rattle.kinds.specs.declared.NestingLevel.TheVariants.{Top, Within, Bottom}
use Rattle.kinds.proofs.SheetLaws.{trees-step, trees-count}
use Rattle.kinds.proofs.NodeLaws.{leaf-count, none-count, node-inner, child-count, node-child, first_some, first-within, first-node, other-trees, inner-count, inner-end, inner-trees}
use Rattle.kinds.proofs.NodeLaws.{label-primitive, label-bits, label-typed, label-pointer, label-atomic, label-array, label-struct, label-union, label-none, no-trees, some-trees}
use Rattle.helper.specs.Measure.{RowOf}
use Rattle.layout.specs.Layout.{Part, is_pointer, laid_out, is_bit_field, first_bit_field, sizeless, any_sizeless}
use Rattle.layout.specs.Placing.{sizeless_kind, passes_kind, bottom_after, found_in}
use Rattle.layout.specs.Walking.{level_of, own_part, inner_parts, laid_from, Sought}
use Rattle.layout.specs.declared.find.Found.TheVariants as F

-- ---- Trees side by side of which the first may stand at the bottom level.

laid-within : (i : ℕ) (t : Trees) → laid_from false i t ≡ laid_out Within i t
unfolding laid_from laid_out own_part inner_parts
laid-within i end = refl
laid-within i (node l cs ts) = refl

-- What is laid out is the same at top and within, as nothing behind a pointer is.
laid-top : (i : ℕ) (t : Trees) → laid_out Top i t ≡ laid_out Within i t
unfolding laid_out own_part is_pointer
laid-top i end = refl
laid-top i (node (primitive p) cs ts) = ap₂ (λ x y. own_part Within i (primitive p) cs ∷ (x ++ y)) (laid-top (i + 1) cs) (laid-top (i + 1 + count cs) ts)
laid-top i (node (bit_field n) cs ts) = ap₂ (λ x y. own_part Within i (bit_field n) cs ∷ (x ++ y)) (laid-top (i + 1) cs) (laid-top (i + 1 + count cs) ts)
laid-top i (node (typed_bit_field o n) cs ts) = ap₂ (λ x y. own_part Within i (typed_bit_field o n) cs ∷ (x ++ y)) (laid-top (i + 1) cs)
    (laid-top (i + 1 + count cs) ts)
laid-top i (node pointer cs ts) = ap (λ y. own_part Within i pointer cs ∷ y) (laid-top (i + 1 + count cs) ts)
laid-top i (node atomic cs ts) = ap (λ y. own_part Within i atomic cs ∷ (laid_out Bottom (i + 1) cs ++ y)) (laid-top (i + 1 + count cs) ts)
laid-top i (node (array n) cs ts) = ap₂ (λ x y. own_part Within i (array n) cs ∷ (x ++ y)) (laid-top (i + 1) cs) (laid-top (i + 1 + count cs) ts)
laid-top i (node (struct m) cs ts) = ap (λ y. own_part Within i (struct m) cs ∷ (laid_out Within (i + 1) cs ++ y)) (laid-top (i + 1 + count cs) ts)
laid-top i (node (union m) cs ts) = ap (λ y. own_part Within i (union m) cs ∷ (laid_out Within (i + 1) cs ++ y)) (laid-top (i + 1 + count cs) ts)
laid-top i (node T.none cs ts) = ap₂ (λ x y. own_part Within i T.none cs ∷ (x ++ y)) (laid-top (i + 1) cs) (laid-top (i + 1 + count cs) ts)

-- ---- Runs of trees.

-- What is laid out of the first of them, by its place.
abbrev own_at : NestingLevel → ℕ → List ℕ → List ℕ → ℕ → Part
own_at v i s w at = own_part v i (label_at s w at) (trees s w (count_at w at - 1) (at + 4))

abbrev inner_at : NestingLevel → ℕ → List ℕ → List ℕ → ℕ → List Part
inner_at v i s w at = inner_parts v i (label_at s w at) (trees s w (count_at w at - 1) (at + 4))

module _ (s w : List ℕ) (n at i : ℕ) (p : 1 ≤ count_at w at) (q : count_at w at ≤ n) where
  number-after : i + 1 + count (trees s w (count_at w at - 1) (at + 4)) ≡ i + count_at w at
  number-after = let e = trees-count s w (count_at w at - 1) (at + 4) in omega arith

  laid-step : (v : NestingLevel) → laid_out v i (trees s w n at)
      ≡ own_at v i s w at ∷ (inner_at v i s w at ++ laid_out v (i + count_at w at) (trees s w (n - count_at w at) (at + 4 * count_at w at)))
  unfolding laid_out own_part inner_parts
  laid-step v =
      ap (laid_out v i) (trees-step s w n at p q)
      ∙ ap (λ j. own_at v i s w at ∷ (inner_at v i s w at ++ laid_out v j (trees s w (n - count_at w at) (at + 4 * count_at w at)))) number-after

  from_step : (b : Bool) → laid_from b i (trees s w n at) ≡ own_at (level_of b) i s w at
      ∷ (inner_at (level_of b) i s w at ++ laid_out Within (i + count_at w at) (trees s w (n - count_at w at) (at + 4 * count_at w at)))
  unfolding laid_from
  from_step b =
      ap (laid_from b i) (trees-step s w n at p q)
      ∙ ap (λ j. own_at (level_of b) i s w at ∷ (inner_at (level_of b) i s w at ++ laid_out Within j (trees s w (n - count_at w at) (at + 4 * count_at w at))))
      number-after

laid_none : (v : NestingLevel) (i : ℕ) (s w : List ℕ) (n at : ℕ) → n ≤ 0 → laid_out v i (trees s w n at) ≡ []
unfolding laid_out
laid_none v i s w n at p = rw (no-trees s w n at p)

-- Two runs of trees, one after the other, are one.
module _ (s w : List ℕ) (j : ℕ) (v : NestingLevel) where
  run-first : (n at i : ℕ) → n ≤ 0 → laid_out v i (trees s w (n + j) at) ≡ laid_out v i (trees s w n at) ++ laid_out v (i + n) (trees s w j (at + 4 * n))
  run-first n at i p =
      ap (λ x. laid_out v i (trees s w x at)) (omega arith)
      ∙ ap₂ (λ x y. laid_out v x (trees s w j y)) (omega arith) (omega arith)
      ∙ ap (λ x. x ++ laid_out v (i + n) (trees s w j (at + 4 * n))) (sym (laid_none v i s w n at p))

  laid-run : (f n at i : ℕ) → n ≤ f → TreesAt w at n → laid_out v i (trees s w (n + j) at)
      ≡ laid_out v i (trees s w n at) ++ laid_out v (i + n) (trees s w j (at + 4 * n))
  laid-run zero n at i p h = run-first n at i p
  laid-run (suc f) zero at i p h = run-first zero at i (omega arith)
  laid-run (suc f) (suc n) at i p h =
      let a = first_some w at (suc n) h (omega arith) in
      let b = first-within w at (suc n) h (omega arith) in
      let c = count_at w at in
      let left = laid_out v (i + c) (trees s w (suc n - c) (at + 4 * c)) in
      laid-step s w (suc n + j) at i a (omega arith) v
      ∙ ap (λ x. own_at v i s w at ∷ (inner_at v i s w at ++ x))
      (ap (λ x. laid_out v (i + c) (trees s w x (at + 4 * c))) (omega arith)
      ∙ laid-run f (suc n - c) (at + 4 * c) (i + c) (omega arith) (other-trees w at (suc n) h (omega arith))
      ∙ ap₂ (λ x y. left ++ laid_out v x (trees s w j y)) (omega arith) (omega arith))
      ∙ ap (λ x. own_at v i s w at ∷ x) (sym (append_assoc (inner_at v i s w at) left (laid_out v (i + suc n) (trees s w j (at + 4 * suc n)))))
      ∙ ap (λ x. x ++ laid_out v (i + suc n) (trees s w j (at + 4 * suc n))) (sym (laid-step s w (suc n) at i a b v))

-- ---- Kinds of nodes.

-- A kind word, and the label that it makes.
data Sort (k : ℕ) (l : Label) : Type 0 where
  code : k < 24 → l ≡ primitive k → Sort k l
  bits : {n : ℕ} → k ≡ 24 → l ≡ bit_field n → Sort k l
  typed : {o n : ℕ} → k ≡ 25 → l ≡ typed_bit_field o n → Sort k l
  points : k ≡ 26 → l ≡ pointer → Sort k l
  atom : k ≡ 27 → l ≡ atomic → Sort k l
  items : {n : ℕ} → k ≡ 28 → l ≡ array n → Sort k l
  fields : {m : List ℕ} → k ≡ 29 → l ≡ struct m → Sort k l
  members : {m : List ℕ} → k ≡ 30 → l ≡ union m → Sort k l
  nothing : 30 < k → l ≡ T.none → Sort k l

sort : (s : List ℕ) (k a b : ℕ) → Sort k (label s k a b)
sort s k a b = go (ltb k 24) refl
  where
    past : {j : ℕ} → j ≤ k → (k ≡ j → ⊥) → j + 1 ≤ k
    past p q = omega arith

    at : (j : ℕ) → (k ≡ j → Sort k (label s k a b)) → (j + 1 ≤ k → Sort k (label s k a b)) → j ≤ k → Sort k (label s k a b)
    at j x more p = test (eqb k j) refl
      where
        test : (t : Bool) → eqb k j ≡ t → Sort k (label s k a b)
        test true e = x (eqb-true k j e)
        test false e = more (past p (eqb-false k j e))

    go : (t : Bool) → ltb k 24 ≡ t → Sort k (label s k a b)
    go true e = code (ltb-true k 24 e) (label-primitive s k a b (ltb-true k 24 e))
    go false e =
        at 24 (λ e. bits e (label-bits s k a b e)) (at 25 (λ e. typed e (label-typed s k a b e)) (at 26 (λ e. points e (label-pointer s k a b e))
        (at 27 (λ e. atom e (label-atomic s k a b e)) (at 28 (λ e. items e (label-array s k a b e)) (at 29 (λ e. fields e (label-struct s k a b e))
        (at 30 (λ e. members e (label-union s k a b e)) (λ p. nothing p (label-none s k a b p)))))))) (ltb-false k 24 e)

sort_at : (s w : List ℕ) (at : ℕ) → Sort (kind_at w at) (label_at s w at)
sort_at s w at = sort s (kind_at w at) (first_at w at) (second_at w at)

pub none-entry : (n : ℕ) → is_none (entry n) ≡ eqb n 0
unfolding is_none entry
none-entry n = go (eqb n 0)
  where
    go : (t : Bool) → is_none (cond t None (Some n)) ≡ t
    go true = refl
    go false = refl

no_inner : (v : NestingLevel) (i : ℕ) (l : Label) → inner_parts v i l end ≡ []
unfolding inner_parts laid_out
no_inner v i l = go (shows l v && not (is_pointer l))
  where
    go : (t : Bool) → cond t (laid_out (inside l v) (i + 1) end) [] ≡ []
    go true = refl
    go false = refl

module _ (s w : List ℕ) (at : ℕ) where
  bit-label : Sort (kind_at w at) (label_at s w at) → is_bit_field (label_at s w at) ≡ (eqb (kind_at w at) 24 || eqb (kind_at w at) 25)
  unfolding is_bit_field
  bit-label (code p l) = rw (l, ne_eqb (kind_at w at) 24 (λ e. omega arith), ne_eqb (kind_at w at) 25 (λ e. omega arith))
  bit-label (bits e l) = rw (l, e)
  bit-label (typed e l) = rw (l, e)
  bit-label (points e l) = rw (l, e)
  bit-label (atom e l) = rw (l, e)
  bit-label (items e l) = rw (l, e)
  bit-label (fields e l) = rw (l, e)
  bit-label (members e l) = rw (l, e)
  bit-label (nothing p l) = rw (l, ne_eqb (kind_at w at) 24 (λ e. omega arith), ne_eqb (kind_at w at) 25 (λ e. omega arith))

  module _ (h : NodeAt w at) where
    lone-end : (v : NestingLevel) (i : ℕ) → count_at w at ≡ 1 → inner_at v i s w at ≡ []
    lone-end v i e = rw (no-trees s w (count_at w at - 1) (at + 4) (omega arith)) (no_inner v i (label_at s w at))

    end-count : is_end (trees s w (count_at w at - 1) (at + 4)) ≡ eqb (count_at w at) 1
    unfolding is_end
    end-count = go (eqb (count_at w at) 1) refl
      where
        more : 1 ≤ count_at w at → (count_at w at ≡ 1 → ⊥) → 0 < count_at w at - 1
        more p q = omega arith

        go : (t : Bool) → eqb (count_at w at) 1 ≡ t → is_end (trees s w (count_at w at - 1) (at + 4)) ≡ t
        go true e = let d = eqb-true (count_at w at) 1 e in rw (no-trees s w (count_at w at - 1) (at + 4) (omega arith))
        go false e = some-trees s w (count_at w at - 1) (at + 4) (more h.some-node (eqb-false (count_at w at) 1 e))

    -- What the kind and the count say of a node's size is what its label does.
    sizeless-label : {row : List ℕ} {m : Widths} → RowOf row m → Sort (kind_at w at) (label_at s w at) → (b : Bool)
        → sizeless m (label_at s w at) (shows (label_at s w at) (level_of b)) (is_end (trees s w (count_at w at - 1) (at + 4)))
        ≡ sizeless_kind row (kind_at w at) (count_at w at) b
    unfolding sizeless sizeless_kind
    sizeless-label {row} {m} o (code p l) b =
        rw (l, lt-ltb (kind_at w at) 24 p, ← o.codes (kind_at w at) p) (none-entry (get_or row (kind_at w at) 0))
    sizeless-label o (bits e l) b = rw (l, e)
    sizeless-label o (typed e l) b = rw (l, e)
    sizeless-label o (points e l) b = rw (l, e)
    sizeless-label o (atom e l) b = rw (l, e)
    sizeless-label o (items e l) b = rw (l, e)
    sizeless-label o (fields e l) true = rw (l, e)
    sizeless-label o (fields e l) false = rw (l, e)
    sizeless-label o (members e l) true = rw (l, e)
    sizeless-label o (members e l) false = rw (l, e) end-count
    sizeless-label o (nothing p l) b = rw (l, le-ltb (kind_at w at) 24 (omega arith), le-ltb (kind_at w at) 29 (omega arith), lt-ltb 30 (kind_at w at) p)

    none-alone : 30 < kind_at w at → count_at w at ≡ 1
    none-alone p = none-count w at h (omega arith) (rw (ne_eqb (kind_at w at) 29 (λ e. omega arith), ne_eqb (kind_at w at) 30 (λ e. omega arith)))

    -- Below a node that is passed over nothing is laid out.
    passed-inner : Sort (kind_at w at) (label_at s w at) → (b : Bool) (i : ℕ) → passes_kind (kind_at w at) b ≡ true → inner_at (level_of b) i s w at ≡ []
    unfolding passes_kind inner_parts is_pointer
    passed-inner (code p l) b i g = absurd (false≢true (rw (ne_eqb (kind_at w at) 26 (λ d. omega arith), lt-leb 29 (kind_at w at) (omega arith)) at g))
    passed-inner (bits e l) b i g = absurd (false≢true (rw e at g))
    passed-inner (typed e l) b i g = absurd (false≢true (rw e at g))
    passed-inner (points e l) b i g = rw l
    passed-inner (atom e l) b i g = absurd (false≢true (rw e at g))
    passed-inner (items e l) b i g = absurd (false≢true (rw e at g))
    passed-inner (fields e l) true i g = rw l
    passed-inner (fields e l) false i g = absurd (false≢true (rw e at g))
    passed-inner (members e l) true i g = rw l
    passed-inner (members e l) false i g = absurd (false≢true (rw e at g))
    passed-inner (nothing p l) b i g = lone-end (level_of b) i (none-alone p)

module _ (s w : List ℕ) (n at i : ℕ) (h : TreesAt w at n) (p : 0 < n) where
  -- The one child of a node, and the trees after the node.
  held-from : 25 ≤ kind_at w at → kind_at w at ≤ 28 → (b : Bool)
      → laid_out (level_of b) (i + 1) (trees s w (count_at w at - 1) (at + 4)) ++ laid_out Within (i + count_at w at)
      (trees s w (n - count_at w at) (at + 4 * count_at w at))
      ≡ laid_from b (i + 1) (trees s w (n - 1) (at + 4))
  held-from lo hi b =
      let e = child-count w at (first-node w at n h p) lo hi in
      let c = count_at w at in
      let d = count_at w (at + 4) in
      let o = (node-child w at (first-node w at n h p) lo hi).some-node in
      let q = first-within w at n h p in
      let v = level_of b in
      let own = own_at v (i + 1) s w (at + 4) in
      let inner = inner_at v (i + 1) s w (at + 4) in
      let rest = laid_out Within (i + c) (trees s w (n - c) (at + 4 * c)) in
      ap (λ x. laid_out v (i + 1) (trees s w x (at + 4)) ++ rest) (omega arith)
      ∙ ap (λ x. x ++ rest) (laid-step s w d (at + 4) (i + 1) o (omega arith) v
      ∙ ap (λ x. own ∷ (inner ++ x)) (laid_none v (i + 1 + d) s w (d - d) (at + 4 + 4 * d) (omega arith))
      ∙ ap (λ x. own ∷ x) (append-nil inner))
      ∙ ap (λ x. own ∷ (inner ++ laid_out Within x (trees s w (n - c) (at + 4 * c)))) (omega arith)
      ∙ ap₂ (λ x y. own ∷ (inner ++ laid_out Within (i + 1 + d) (trees s w x y))) (omega arith) (omega arith)
      ∙ sym (from_step s w (n - 1) (at + 4) (i + 1) o (omega arith) b)

  -- A node alone, and the trees after it.
  lone-from : count_at w at ≡ 1 → (b : Bool) → inner_at (level_of b) i s w at ++ laid_out Within (i + count_at w at)
      (trees s w (n - count_at w at) (at + 4 * count_at w at))
      ≡ laid_from false (i + 1) (trees s w (n - 1) (at + 4))
  lone-from e b =
      ap (λ x. x ++ laid_out Within (i + count_at w at) (trees s w (n - count_at w at) (at + 4 * count_at w at)))
      (lone-end s w at (first-node w at n h p) (level_of b) i e)
      ∙ ap (λ c. laid_out Within (i + c) (trees s w (n - c) (at + 4 * c))) e
      ∙ sym (laid-within (i + 1) (trees s w (n - 1) (at + 4)))

  -- The fields of a container, and the trees after it.
  fields-from : laid_out Within (i + 1) (trees s w (count_at w at - 1) (at + 4)) ++ laid_out Within (i + count_at w at)
      (trees s w (n - count_at w at) (at + 4 * count_at w at))
      ≡ laid_from false (i + 1) (trees s w (n - 1) (at + 4))
  fields-from =
      let c = count_at w at in
      let o = first_some w at n h p in
      ap₂ (λ x y. laid_out Within (i + 1) (trees s w (c - 1) (at + 4)) ++ laid_out Within x (trees s w (n - c) y)) (omega arith) (sym (inner-end w at n h p))
      ∙ sym (laid-run s w (n - c) Within (c - 1) (c - 1) (at + 4) (i + 1) (omega arith) (node-inner w at (first-node w at n h p)))
      ∙ ap (λ x. laid_out Within (i + 1) (trees s w x (at + 4))) (inner-count w at n h p)
      ∙ sym (laid-within (i + 1) (trees s w (n - 1) (at + 4)))

  plain-after : (kind_at w at ≡ 27 → ⊥) → (kind_at w at ≡ 28 → ⊥) → (b : Bool) → bottom_after (kind_at w at) b ≡ false
  unfolding bottom_after
  plain-after p q b = rw (ne_eqb (kind_at w at) 27 p, ne_eqb (kind_at w at) 28 q)

  -- After a node that is not passed over comes what it holds, or else the next tree.
  kept_from : Sort (kind_at w at) (label_at s w at) → (b : Bool) → (eqb (kind_at w at) 24 || eqb (kind_at w at) 25) ≡ false → passes_kind (kind_at w at) b ≡ false
      → inner_at (level_of b) i s w at ++ laid_out Within (i + count_at w at) (trees s w (n - count_at w at) (at + 4 * count_at w at))
      ≡ laid_from (bottom_after (kind_at w at) b) (i + 1) (trees s w (n - 1) (at + 4))
  unfolding inner_parts is_pointer bottom_after passes_kind
  kept_from (code q l) b f g = rw (plain-after (λ d. omega arith) (λ d. omega arith) b) (lone-from (leaf-count w at (first-node w at n h p) (omega arith)) b)
  kept_from (bits e l) b f g = absurd (false≢true (sym (rw e at f)))
  kept_from (typed e l) b f g = absurd (false≢true (sym (rw e at f)))
  kept_from (points e l) b f g = absurd (false≢true (sym (rw e at g)))
  kept_from (atom e l) b f g = rw (l, e) (held-from (omega arith) (omega arith) true)
  kept_from (items e l) b f g = rw (l, e) (held-from (omega arith) (omega arith) b)
  kept_from (fields e l) true f g = absurd (false≢true (sym (rw e at g)))
  kept_from (fields e l) false f g = rw (l, e) fields-from
  kept_from (members e l) true f g = absurd (false≢true (sym (rw e at g)))
  kept_from (members e l) false f g = rw (l, e) fields-from
  kept_from (nothing q l) b f g = rw (plain-after (λ d. omega arith) (λ d. omega arith) b) (lone-from (none-alone s w at (first-node w at n h p) q) b)

-- ---- What is found.

or_assoc : (a b c : Bool) → (a || (b || c)) ≡ ((a || b) || c)
or_assoc true b c = refl
or_assoc false b c = refl

module _ (m : Widths) (b : Bool) (p : Part) (ps : List Part) where
  found-bits : is_bit_field p.label ≡ true → found_in m b (p ∷ ps) ≡ F.BitField p.number
  unfolding found_in first_bit_field
  found-bits e = rw e

  found-on : is_bit_field p.label ≡ false → {t : Bool} → sizeless m p.label p.showing p.empty ≡ t → found_in m b (p ∷ ps) ≡ found_in m (b || t) ps
  unfolding found_in first_bit_field any_sizeless
  found-on e d = rw (e, d, or_assoc)

found-end : (m : Widths) (b : Bool) → found_in m b [] ≡ cond b F.Nothing F.Sized
unfolding found_in first_bit_field any_sizeless
found-end m true = refl
found-end m false = refl

pub sought-first : (row w : List ℕ) (n : ℕ) → NodeAt w 0 → count_at w 0 ≡ n → Sought row w n 0 false false
sought-first row w n h e = record {
  within = omega arith;
  there = let r = h.room in record { room = omega arith; nested = ap₂ (nests w) (omega arith) (omega arith) ∙ h.nested };
  rest = λ m o s.
      ap (found_in m false) (laid-within 0 (trees s w (n - 0) (4 * 0)) ∙ ap₂ (λ x y. laid_out Within 0 (trees s w x y)) (omega arith) (omega arith)
      ∙ sym (laid-top 0 (trees s w n 0)));
}

module _ {row w : List ℕ} {n i : ℕ} {bottom None : Bool} (g : Sought row w n i bottom None) where
  pub sought-end : n ≤ i → (t : Bool) → None ≡ t → (m : Widths) → RowOf row m → (s : List ℕ) → cond t F.Nothing F.Sized
      ≡ found_in m false (laid_out Top 0 (trees s w n 0))
  unfolding laid_from
  sought-end p t e m o s =
      ap (λ x. cond x F.Nothing F.Sized) (sym e)
      ∙ sym (found-end m None)
      ∙ ap (λ x. found_in m None (laid_from bottom i x)) (sym (no-trees s w (n - i) (4 * i) (omega arith)))
      ∙ g.rest m o s

  module _ (p : i < n) where
    left : 0 < n - i
    left = omega arith

    first : NodeAt w (4 * i)
    first = first-node w (4 * i) (n - i) g.there left

    pub sought-within : (1 ≤ count_at w (4 * i)) × (count_at w (4 * i) ≤ n - i) × (4 * i + 4 * (n - i) ≤ length w)
    sought-within = (first_some w (4 * i) (n - i) g.there left, first-within w (4 * i) (n - i) g.there left, g.there.room)

    abbrev own : List ℕ → Part
    own s = own_at (level_of bottom) i s w (4 * i)

    abbrev after : List ℕ → List Part
    after s = laid_out Within (i + count_at w (4 * i)) (trees s w (n - i - count_at w (4 * i)) (4 * i + 4 * count_at w (4 * i)))

    abbrev others : List ℕ → List Part
    others s = inner_at (level_of bottom) i s w (4 * i) ++ after s

    step : (s : List ℕ) → laid_from bottom i (trees s w (n - i) (4 * i)) ≡ own s ∷ others s
    step s = from_step s w (n - i) (4 * i) i sought-within.0 sought-within.1 bottom

    -- a bitfield
    pub sought-bits : (eqb (kind_at w (4 * i)) 24 || eqb (kind_at w (4 * i)) 25) ≡ true → (m : Widths) → RowOf row m → (s : List ℕ)
        → F.BitField i ≡ found_in m false (laid_out Top 0 (trees s w n 0))
    unfolding own_part
    sought-bits e m o s = sym (ap (found_in m None) (step s) ∙ found-bits m None (own s) (others s) (bit-label s w (4 * i) (sort_at s w (4 * i)) ∙ e)) ∙ g.rest m o s

    module _ (plain : (eqb (kind_at w (4 * i)) 24 || eqb (kind_at w (4 * i)) 25) ≡ false) {t u : Bool} (e : t ≡ (None || u))
        (z : u ≡ sizeless_kind row (kind_at w (4 * i)) (count_at w (4 * i)) bottom) where
      turn : (m : Widths) → RowOf row m → (s : List ℕ) → found_in m t (others s) ≡ found_in m false (laid_out Top 0 (trees s w n 0))
      unfolding own_part
      turn m o s =
          ap (λ x. found_in m x (others s)) (e ∙ ap (λ x. None || x) z)
          ∙ sym (ap (found_in m None) (step s)
          ∙ found-on m None (own s) (others s) (bit-label s w (4 * i) (sort_at s w (4 * i)) ∙ plain) (sizeless-label s w (4 * i) first o (sort_at s w (4 * i)) bottom))
          ∙ g.rest m o s

      -- a node that is passed over with all below it
      pub sought-passed : passes_kind (kind_at w (4 * i)) bottom ≡ true → Sought row w n (i + count_at w (4 * i)) false t
      sought-passed q =
          let c = count_at w (4 * i) in
          let b = sought-within.1 in
          record {
            within = omega arith;
            there = subst₂ (TreesAt w) (omega arith) (omega arith) (other-trees w (4 * i) (n - i) g.there left);
            rest = λ m o s.
                ap (found_in m t) (laid-within (i + c) (trees s w (n - (i + c)) (4 * (i + c)))
                ∙ ap₂ (λ x y. laid_out Within (i + c) (trees s w x y)) (omega arith) (omega arith)
                ∙ ap (λ x. x ++ after s) (sym (passed-inner s w (4 * i) first (sort_at s w (4 * i)) bottom i q)))
                ∙ turn m o s;
          }

      -- any other: what it holds comes next, or else the next tree
      pub sought-kept : passes_kind (kind_at w (4 * i)) bottom ≡ false → {b : Bool} → b ≡ bottom_after (kind_at w (4 * i)) bottom → Sought row w n (i + 1) b t
      sought-kept q {b} d = record {
        within = omega arith;
        there = subst₂ (TreesAt w) (omega arith) (omega arith) (inner-trees w (4 * i) (n - i) g.there left);
        rest = λ m o s.
            ap (found_in m t) (ap (λ x. laid_from x (i + 1) (trees s w (n - (i + 1)) (4 * (i + 1)))) d
            ∙ ap₂ (λ x y. laid_from (bottom_after (kind_at w (4 * i)) bottom) (i + 1) (trees s w x y)) (omega arith) (omega arith)
            ∙ sym (kept_from s w (n - i) (4 * i) i g.there left (sort_at s w (4 * i)) bottom plain q))
            ∙ turn m o s;
      }

    -- a code
    pub sought-code : kind_at w (4 * i) < 24 → {t u : Bool} → t ≡ (None || u) → u ≡ eqb (get_or row (kind_at w (4 * i)) 0) 0 → Sought row w n (i + 1) false t
    unfolding sizeless_kind passes_kind bottom_after
    sought-code lo {t} {u} e z =
        let k = kind_at w (4 * i) in
        sought-kept (rw (ne_eqb k 24 (λ d. omega arith), ne_eqb k 25 (λ d. omega arith))) e (z ∙ sym (rw (lt-ltb k 24 lo)))
        (rw (ne_eqb k 26 (λ d. omega arith), lt-leb 29 k (omega arith))) (sym (rw (ne_eqb k 27 (λ d. omega arith), ne_eqb k 28 (λ d. omega arith))))
