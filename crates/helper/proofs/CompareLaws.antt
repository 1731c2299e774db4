-- Laws of tree against tree.
use Prim.Native.Nat.{ℕ, zero, suc, ◌+◌, ◌-◌, ◌*◌, ◌≤◌, ◌<◌}
use native.Mathlib.Omega.{arith}
use native.Mathlib.Numerals.{add-one}
use mathlib.Core.Path.{◌≡◌, refl, ap, ap₂, sym, ◌∙◌, subst}
use mathlib.Core.List.{List, [], ◌∷◌}
use mathlib.Core.Bool.{Bool, true, false, cond, ◌&&◌, ◌||◌, false≢true, and-true, and-false}
use borrow.Author.Tests.{leb-true, leb-false, ne_eqb, eqb-true}
use lib.ListN.{length, get_or, take, drop, drop_of_length-le}
use lib.Seq.{drop-cons}
use lib.Dec.{leb, eqb}
use lib.Pointwise.{pointwise}
use Rattle.kinds.specs.Byte.{among, same_bytes}
use Rattle.kinds.specs.Compare.{compare_encodings, compare_labels, compare_children, length_or_offset, bits, level_for}
use Rattle.kinds.specs.Level.{shows_fields, container_include_fields}
use Rattle.kinds.specs.Primitive.{is_object, equivalent}
use Rattle.kinds.specs.Sheet.{kind_at, first_at, second_at, count_at, label_at, label, is_container_kind, read, trees, nests}
use Rattle.kinds.specs.Tree.{Label, Trees, end, node, is_end, kind, name, is_container, inside, shows}
use Rattle.kinds.specs.Walk.{NodeAt, TreesAt, KindsAndNames}
use Rattle.std.specs.Prelude.{Some, None}
use Rattle.kinds.specs.declared.NestingLevel.{NestingLevel}
use Rattle.kinds.specs.declared.NestingLevel.TheVariants.{Top, Within, Bottom}
use Rattle.kinds.proofs.KindLaws.{inside-kind, included, dropped}
use Rattle.kinds.proofs.SheetLaws.{nests-none, trees-step}
use Rattle.kinds.proofs.TableLaws.{both_left}
use Rattle.kinds.proofs.NodeLaws.{leaf-count, none-count, node-child, node-inner, child-count, first_some, first-within, first-node, other-trees, label-primitive, label-struct, label-union, by_kind, kind-label}
use Rattle.kinds.proofs.NodeLaws.{container-label, no-trees, some-trees, walk_here, walk-inner, walk-rest, held-trees}
use Rattle.helper.specs.Measure.{compare_fields, shown_count, level_after}

-- ---- Bytes.

-- what `==` says of two slices of bytes
pub bytes-pointwise : (a b : List ℕ) → pointwise eqb a b ≡ same_bytes a b
unfolding same_bytes
bytes-pointwise [] [] = refl
bytes-pointwise [] (y ∷ b) = refl
bytes-pointwise (x ∷ a) [] = refl
bytes-pointwise (x ∷ a) (y ∷ b) = ap (λ t. eqb x y && t) (bytes-pointwise a b)

-- ---- Kinds and labels.

-- a kind above the objects matches itself alone
pub partner : (k j : ℕ) → equivalent k j ≡ true → 22 ≤ k → j ≡ k
unfolding equivalent is_object among
partner k j h p = go (eqb k j) refl
  where
    go : (t : Bool) → eqb k j ≡ t → j ≡ k
    go true q = sym (eqb-true k j q)
    go false q = absurd (false≢true (sym (rw (q, ne_eqb k 19 (λ e. omega arith), ne_eqb k 20 (λ e. omega arith), ne_eqb k 21 (λ e. omega arith))) ∙ h))

pub low-partner : (k j : ℕ) → equivalent k j ≡ true → k < 24 → j < 24
unfolding equivalent is_object among
low-partner k j h p = go (eqb k j) refl (eqb j 19) refl (eqb j 20) refl (eqb j 21) refl
  where
    less : {x n : ℕ} → x ≡ n → n < 24 → x < 24
    less e q = omega arith

    lo : (eqb k 19 || (eqb k 20 || (eqb k 21 || false))) && false ≡ true → ⊥
    lo r = false≢true (sym (and-false (eqb k 19 || (eqb k 20 || (eqb k 21 || false)))) ∙ r)

    go : (t : Bool) → eqb k j ≡ t → (u : Bool) → eqb j 19 ≡ u → (v : Bool) → eqb j 20 ≡ v → (x : Bool) → eqb j 21 ≡ x → j < 24
    go true q u e₁ v e₂ x e₃ = less (sym (eqb-true k j q)) p
    go false q true e₁ v e₂ x e₃ = less (eqb-true j 19 e₁) (omega arith)
    go false q false e₁ true e₂ x e₃ = less (eqb-true j 20 e₂) (omega arith)
    go false q false e₁ false e₂ true e₃ = less (eqb-true j 21 e₃) (omega arith)
    go false q false e₁ false e₂ false e₃ = absurd (lo (rw (q, e₁, e₂, e₃) at h))

-- a kind that is no container's matches none
pub plain-partner : (k j : ℕ) → equivalent k j ≡ true → is_container_kind k ≡ false → is_container_kind j ≡ false
plain-partner k j h c = go (leb 24 k) refl
  where
    low : j < 24 → is_container_kind j ≡ false
    low p = rw (ne_eqb j 29 (λ e. omega arith), ne_eqb j 30 (λ e. omega arith))

    go : (t : Bool) → leb 24 k ≡ t → is_container_kind j ≡ false
    go true i = let q = leb-true 24 k i in ap is_container_kind (partner k j h (omega arith)) ∙ c
    go false i = low (low-partner k j h (leb-false 24 k i))

-- two labels of one kind
module _ (s t : List ℕ) (k a b c d : ℕ) where
  pub labels-bits : k ≡ 24 → compare_labels (label s k a b) (label t k c d) ≡ eqb b d
  unfolding compare_labels equivalent kind length_or_offset bits name label same_bytes
  labels-bits p = rw p (and-true (eqb b d))

  pub labels-typed : k ≡ 25 → compare_labels (label s k a b) (label t k c d) ≡ (eqb a c && eqb b d)
  unfolding compare_labels equivalent kind length_or_offset bits name label same_bytes
  labels-typed p = rw p (ap (λ x. eqb a c && x) (and-true (eqb b d)))

  pub labels-array : k ≡ 28 → compare_labels (label s k a b) (label t k c d) ≡ eqb a c
  unfolding compare_labels equivalent kind length_or_offset bits name label same_bytes
  labels-array p = rw p (and-true (eqb a c))

  pub labels-plain : 24 ≤ k → k ≤ 31 → is_container_kind k ≡ false → (k ≡ 24 → ⊥) → (k ≡ 25 → ⊥) → (k ≡ 28 → ⊥) → compare_labels (label s k a b) (label t k c d) ≡ true
  unfolding compare_labels equivalent kind length_or_offset bits name label same_bytes
  labels-plain lo hi p q r u =
      by_kind (λ (j : ℕ). is_container_kind j ≡ false → (j ≡ 24 → ⊥) → (j ≡ 25 → ⊥) → (j ≡ 28 → ⊥) → compare_labels (label s j a b) (label t j c d) ≡ true)
      (λ x y z n. absurd (y refl)) (λ x y z n. absurd (z refl)) (λ x y z n. refl) (λ x y z n. refl) (λ x y z n. absurd (n refl)) (λ x y z n. absurd (false≢true (sym x)))
      (λ x y z n. absurd (false≢true (sym x))) (λ x y z n. refl) k lo hi p q r u

module _ (s w : List ℕ) (at : ℕ) (s' w' : List ℕ) (bt : ℕ) where
  pub labels-differ : kind_at w at ≤ 31 → kind_at w' bt ≤ 31 → equivalent (kind_at w at) (kind_at w' bt) ≡ false → compare_labels (label_at s w at) (label_at s' w' bt) ≡ false
  unfolding compare_labels
  labels-differ p q h = rw (kind-label s (first_at w at) (second_at w at) (kind_at w at) p, kind-label s' (first_at w' bt) (second_at w' bt) (kind_at w' bt) q, h)

  pub labels-kinds : kind_at w at ≤ 31 → kind_at w' bt ≤ 31 → compare_labels (label_at s w at) (label_at s' w' bt) ≡ true → equivalent (kind_at w at) (kind_at w' bt) ≡ true
  unfolding compare_labels
  labels-kinds p q h = both_left (equivalent (kind_at w at) (kind_at w' bt)) _ (rw (kind-label s (first_at w at) (second_at w at) (kind_at w at) p, kind-label s' (first_at w' bt) (second_at w' bt) (kind_at w' bt) q) at h)

  module _ (h : equivalent (kind_at w at) (kind_at w' bt) ≡ true) where
    pub labels-primitive : kind_at w at < 24 → compare_labels (label_at s w at) (label_at s' w' bt) ≡ true
    unfolding compare_labels kind length_or_offset bits name same_bytes
    labels-primitive p =
        rw (label-primitive s (kind_at w at) (first_at w at) (second_at w at) p, label-primitive s' (kind_at w' bt) (first_at w' bt) (second_at w' bt) (low-partner (kind_at w at) (kind_at w' bt) h p), h)

    pub labels-named : is_container_kind (kind_at w at) ≡ true → compare_labels (label_at s w at) (label_at s' w' bt) ≡ same_bytes (take (second_at w at) (drop (first_at w at) s)) (take (second_at w' bt) (drop (first_at w' bt) s'))
    unfolding compare_labels equivalent kind length_or_offset bits name
    labels-named p = go (eqb (kind_at w at) 29) refl (eqb (kind_at w at) 30) refl p
      where
        go : (t : Bool) → eqb (kind_at w at) 29 ≡ t → (u : Bool) → eqb (kind_at w at) 30 ≡ u → (t || u) ≡ true → compare_labels (label_at s w at) (label_at s' w' bt)
            ≡ same_bytes (take (second_at w at) (drop (first_at w at) s)) (take (second_at w' bt) (drop (first_at w' bt) s'))
        go true e u d r =
            let k = eqb-true (kind_at w at) 29 e in
            rw (label-struct s (kind_at w at) (first_at w at) (second_at w at) k, label-struct s' (kind_at w' bt) (first_at w' bt) (second_at w' bt) (partner (kind_at w at) (kind_at w' bt) h (omega arith) ∙ k))
        go false e true d r =
            let k = eqb-true (kind_at w at) 30 d in
            rw (label-union s (kind_at w at) (first_at w at) (second_at w at) k, label-union s' (kind_at w' bt) (first_at w' bt) (second_at w' bt) (partner (kind_at w at) (kind_at w' bt) h (omega arith) ∙ k))
        go false e false d r = absurd (false≢true r)

    pub labels-numbers : 24 ≤ kind_at w at → compare_labels (label_at s w at) (label_at s' w' bt) ≡ compare_labels (label s (kind_at w at) (first_at w at) (second_at w at)) (label s' (kind_at w at) (first_at w' bt) (second_at w' bt))
    labels-numbers p = ap (λ (j : ℕ). compare_labels (label_at s w at) (label s' j (first_at w' bt) (second_at w' bt))) (partner (kind_at w at) (kind_at w' bt) h (omega arith))

-- ---- Whole trees.

-- The nodes after one that is no container: what it holds, or the trees after it.
module _ (w : List ℕ) (at n : ℕ) (h : TreesAt w at n) (p : 0 < n) (plain : is_container_kind (kind_at w at) ≡ false) where
  module _ (lo : 25 ≤ kind_at w at) (hi : kind_at w at ≤ 28) where
    held : NodeAt w (at + 4)
    held = node-child w at (first-node w at n h p) lo hi

    held-count : count_at w at ≡ count_at w (at + 4) + 1
    held-count = child-count w at (first-node w at n h p) lo hi

    -- the trees from the held one on have those after the node at their end
    pub held_then : (s : List ℕ) → trees s w (n - 1) (at + 4) ≡ node (label_at s w (at + 4)) (trees s w (count_at w (at + 4) - 1) (at + 4 + 4)) (trees s w (n - count_at w at) (at + 4 * count_at w at))
    held_then s =
        let c = held-count in
        let q = first-within w at n h p in
        trees-step s w (n - 1) (at + 4) held.some-node (omega arith)
        ∙ ap₂ (λ (i j : ℕ). node (label_at s w (at + 4)) (trees s w (count_at w (at + 4) - 1) (at + 4 + 4)) (trees s w i j)) (omega arith) (omega arith)

    pub held-alone : (s : List ℕ) → trees s w (count_at w at - 1) (at + 4) ≡ node (label_at s w (at + 4)) (trees s w (count_at w (at + 4) - 1) (at + 4 + 4)) end
    held-alone s =
        let c = held-count in
        trees-step s w (count_at w at - 1) (at + 4) held.some-node (omega arith)
        ∙ ap (node (label_at s w (at + 4)) (trees s w (count_at w (at + 4) - 1) (at + 4 + 4))) (no-trees s w (count_at w at - 1 - count_at w (at + 4)) (at + 4 + 4 * count_at w (at + 4)) (omega arith))

  pub after-trees : TreesAt w (at + 4) (n - 1)
  after-trees = go (leb 25 (kind_at w at)) refl (leb (kind_at w at) 28) refl
    where
      alone : count_at w at ≡ 1 → TreesAt w (at + 4) (n - 1)
      alone c = let o = other-trees w at n h p in let q = first-within w at n h p in record {
        room = let r = h.room in omega arith;
        nested = ap₂ (nests w) (omega arith) (omega arith) ∙ o.nested;
      }

      go : (t : Bool) → leb 25 (kind_at w at) ≡ t → (u : Bool) → leb (kind_at w at) 28 ≡ u → TreesAt w (at + 4) (n - 1)
      go true e true d = held-trees w at n h p (leb-true 25 (kind_at w at) e) (leb-true (kind_at w at) 28 d)
      go true e false d = alone (none-count w at (first-node w at n h p) (leb-false (kind_at w at) 28 d) plain)
      go false e u d = alone (leaf-count w at (first-node w at n h p) (leb-false 25 (kind_at w at) e))

-- ---- The walk over trees side by side.

-- What is left of a comparison at the level `v`, of whose first trees the comparison has come down to the level `here`.
unfoldable pub resume : Bool → NestingLevel → NestingLevel → Trees → Trees → Bool
resume all here v end end = true
resume all here v end (node m ds us) = false
resume all here v (node l cs ts) end = false
resume all here v (node l cs ts) (node m ds us) =
    compare_labels l m
    && (compare_children (is_container l) (shows l (level_for all here)) (is_end cs || is_end ds) (compare_encodings all (inside l (level_for all here)) cs ds)
    && compare_encodings all v ts us)

pub resume-level : (all : Bool) (v : NestingLevel) (t u : Trees) → resume all v v t u ≡ compare_encodings all v t u
unfolding resume compare_encodings
resume-level all v end end = refl
resume-level all v end (node m ds us) = refl
resume-level all v (node l cs ts) end = refl
resume-level all v (node l cs ts) (node m ds us) = refl

shown-fields : (all : Bool) (u : NestingLevel) (s w : List ℕ) (n at : ℕ) (t : Trees) → cond (shows_fields u) ((is_end (trees s w n at) || is_end t) || compare_encodings all Within (trees s w n at) t) true
    ≡ compare_fields all Within (trees s w (shown_count u n) at) t
unfolding compare_fields shown_count trees read is_end
shown-fields all Top s w n at t = refl
shown-fields all Within s w n at t = refl
shown-fields all Bottom s w n at t = refl

pub level-container : (all : Bool) (k : ℕ) (v here : NestingLevel) → is_container_kind k ≡ true → level_after all k v here ≡ v
unfolding level_after
level-container all k v here c = go (eqb k 29) refl (eqb k 30) refl c
  where
    go : (t : Bool) → eqb k 29 ≡ t → (u : Bool) → eqb k 30 ≡ u → (t || u) ≡ true → level_after all k v here ≡ v
    go true i u j r = rw (eqb-true k 29 i)
    go false i true j r = rw (eqb-true k 30 j)
    go false i false j r = absurd (false≢true r)

pub count-included : (v u : NestingLevel) (n : ℕ) → container_include_fields v ≡ Some u → n ≡ shown_count v n
unfolding shown_count
count-included v u n h = sym (ap (λ x. cond x n 0) (included v u h).0)

pub count-dropped : (v : NestingLevel) (n : ℕ) → container_include_fields v ≡ None → 0 ≡ shown_count v n
unfolding shown_count
count-dropped v n h = sym (ap (λ x. cond x n 0) (dropped v h))

regroup : (all : Bool) (here v : NestingLevel) (l : Label) (cs ts : Trees) (m : Label) (ds us : Trees) → (compare_encodings all here (node l cs end) (node m ds end) && compare_encodings all v ts us)
    ≡ resume all here v (node l cs ts) (node m ds us)
unfolding compare_encodings resume
regroup all here v l cs ts m ds us = go (compare_labels l m) (compare_children (is_container l) (shows l (level_for all here)) (is_end cs || is_end ds) (compare_encodings all (inside l (level_for all here)) cs ds))
  where
    go : (x y : Bool) → ((x && (y && true)) && compare_encodings all v ts us) ≡ (x && (y && compare_encodings all v ts us))
    go true true = refl
    go true false = refl
    go false y = refl

module _ (all : Bool) (here v : NestingLevel) (s w s' w' : List ℕ) (n m at bt : ℕ) where
  pub resume-end : n ≤ 0 → resume all here v (trees s w n at) (trees s' w' m bt) ≡ eqb m 0
  unfolding resume trees read
  resume-end p = go n m p
    where
      go : (i j : ℕ) → i ≤ 0 → resume all here v (trees s w i at) (trees s' w' j bt) ≡ eqb j 0
      go zero zero q = refl
      go zero (suc j) q = sym (ne_eqb (suc j) 0 (λ e. omega arith))
      go (suc i) j q = absurd (omega arith)

  pub resume-short : 0 < n → m ≤ 0 → resume all here v (trees s w n at) (trees s' w' m bt) ≡ false
  unfolding resume trees read
  resume-short p q = go n m p q
    where
      go : (i j : ℕ) → 0 < i → j ≤ 0 → resume all here v (trees s w i at) (trees s' w' j bt) ≡ false
      go zero j x y = absurd (omega arith)
      go (suc i) zero x y = refl
      go (suc i) (suc j) x y = absurd (omega arith)

  module _ (g : TreesAt w at n) (h : TreesAt w' bt m) (p : 0 < n) (q : 0 < m) where
    resume-step : resume all here v (trees s w n at) (trees s' w' m bt) ≡ (compare_labels (label_at s w at) (label_at s' w' bt)
        && (compare_children (is_container (label_at s w at)) (shows (label_at s w at) (level_for all here))
        (is_end (trees s w (count_at w at - 1) (at + 4)) || is_end (trees s' w' (count_at w' bt - 1) (bt + 4)))
        (compare_encodings all (inside (label_at s w at) (level_for all here)) (trees s w (count_at w at - 1) (at + 4)) (trees s' w' (count_at w' bt - 1) (bt + 4)))
        && compare_encodings all v (trees s w (n - count_at w at) (at + 4 * count_at w at)) (trees s' w' (m - count_at w' bt) (bt + 4 * count_at w' bt))))
    unfolding resume
    resume-step = ap₂ (resume all here v) (trees-step s w n at (first_some w at n g p) (first-within w at n g p)) (trees-step s' w' m bt (first_some w' bt m h q) (first-within w' bt m h q))

    pub resume-differ : compare_labels (label_at s w at) (label_at s' w' bt) ≡ false → resume all here v (trees s w n at) (trees s' w' m bt) ≡ false
    resume-differ e = resume-step ∙ rw e

    module _ (ka : kind_at w at ≤ 31) (kb : kind_at w' bt ≤ 31) (e : compare_labels (label_at s w at) (label_at s' w' bt) ≡ true) where
      twin : equivalent (kind_at w at) (kind_at w' bt) ≡ true
      twin = labels-kinds s w at s' w' bt ka kb e

      -- a container: its shown fields, and the trees after it
      pub resume-container : is_container_kind (kind_at w at) ≡ true
          → resume all here v (trees s w n at) (trees s' w' m bt) ≡ (compare_fields all Within (trees s w (shown_count (level_for all here) (count_at w at - 1)) (at + 4)) (trees s' w' (count_at w' bt - 1) (bt + 4))
          && compare_encodings all v (trees s w (n - count_at w at) (at + 4 * count_at w at)) (trees s' w' (m - count_at w' bt) (bt + 4 * count_at w' bt)))
      unfolding compare_children is_container
      resume-container c =
          resume-step ∙ rw e (ap (λ x. x && compare_encodings all v (trees s w (n - count_at w at) (at + 4 * count_at w at)) (trees s' w' (m - count_at w' bt) (bt + 4 * count_at w' bt)))
          (fields (eqb (kind_at w at) 29) refl (eqb (kind_at w at) 30) refl c))
        where
          shown : cond (shows_fields (level_for all here)) ((is_end (trees s w (count_at w at - 1) (at + 4)) || is_end (trees s' w' (count_at w' bt - 1) (bt + 4))) || compare_encodings all Within
              (trees s w (count_at w at - 1) (at + 4)) (trees s' w' (count_at w' bt - 1) (bt + 4))) true
              ≡ compare_fields all Within (trees s w (shown_count (level_for all here) (count_at w at - 1)) (at + 4)) (trees s' w' (count_at w' bt - 1) (bt + 4))
          shown = shown-fields all (level_for all here) s w (count_at w at - 1) (at + 4) (trees s' w' (count_at w' bt - 1) (bt + 4))

          fields : (t : Bool) → eqb (kind_at w at) 29 ≡ t → (u : Bool) → eqb (kind_at w at) 30 ≡ u → (t || u) ≡ true
              → compare_children (is_container (label_at s w at)) (shows (label_at s w at) (level_for all here))
              (is_end (trees s w (count_at w at - 1) (at + 4)) || is_end (trees s' w' (count_at w' bt - 1) (bt + 4)))
              (compare_encodings all (inside (label_at s w at) (level_for all here)) (trees s w (count_at w at - 1) (at + 4)) (trees s' w' (count_at w' bt - 1) (bt + 4)))
              ≡ compare_fields all Within (trees s w (shown_count (level_for all here) (count_at w at - 1)) (at + 4)) (trees s' w' (count_at w' bt - 1) (bt + 4))
          fields true i u j r = rw (label-struct s (kind_at w at) (first_at w at) (second_at w at) (eqb-true (kind_at w at) 29 i)) shown
          fields false i true j r = rw (label-union s (kind_at w at) (first_at w at) (second_at w at) (eqb-true (kind_at w at) 30 j)) shown
          fields false i false j r = absurd (false≢true r)

      module _ (c : is_container_kind (kind_at w at) ≡ false) where
        plain : is_container (label_at s w at) ≡ false
        plain = container-label s (first_at w at) (second_at w at) (kind_at w at) ka ∙ c

        other-plain : is_container_kind (kind_at w' bt) ≡ false
        other-plain = plain-partner (kind_at w at) (kind_at w' bt) twin c

        leaf : count_at w at ≡ 1 → count_at w' bt ≡ 1 → resume all here v (trees s w n at) (trees s' w' m bt) ≡ compare_encodings all v (trees s w (n - 1) (at + 4)) (trees s' w' (m - 1) (bt + 4))
        unfolding compare_children compare_encodings
        leaf x y =
            resume-step
            ∙ rw (e, plain, no-trees s w (count_at w at - 1) (at + 4) (omega arith), no-trees s' w' (count_at w' bt - 1) (bt + 4) (omega arith))
            (ap₂ (compare_encodings all v) (ap₂ (trees s w) (omega arith) (omega arith)) (ap₂ (trees s' w') (omega arith) (omega arith)))

        module _ (lo : 25 ≤ kind_at w at) (hi : kind_at w at ≤ 28) where
          lo' : 25 ≤ kind_at w' bt
          lo' = let k = partner (kind_at w at) (kind_at w' bt) twin (omega arith) in omega arith

          hi' : kind_at w' bt ≤ 28
          hi' = let k = partner (kind_at w at) (kind_at w' bt) twin (omega arith) in omega arith

          holder : resume all here v (trees s w n at) (trees s' w' m bt) ≡ resume all (inside (label_at s w at) (level_for all here)) v (trees s w (n - 1) (at + 4)) (trees s' w' (m - 1) (bt + 4))
          unfolding compare_children
          holder =
              let c' = other-plain in
              resume-step
              ∙ rw (e, plain, held-alone w at n g p c lo hi s, held-alone w' bt m h q c' lo' hi' s')
              (regroup all (inside (label_at s w at) (level_for all here)) v (label_at s w (at + 4)) (trees s w (count_at w (at + 4) - 1) (at + 4 + 4))
              (trees s w (n - count_at w at) (at + 4 * count_at w at)) (label_at s' w' (bt + 4)) (trees s' w' (count_at w' (bt + 4) - 1) (bt + 4 + 4)) (trees s' w' (m - count_at w' bt) (bt + 4 * count_at w' bt)))
              ∙ sym (ap₂ (resume all (inside (label_at s w at) (level_for all here)) v) (held_then w at n g p c lo hi s) (held_then w' bt m h q c' lo' hi' s'))

        leaf-low : kind_at w at < 25 → count_at w' bt ≡ 1
        leaf-low lo = leaf-count w' bt (first-node w' bt m h q) low
          where
            low : kind_at w' bt < 25
            low = go (leb 24 (kind_at w at)) refl
              where
                go : (t : Bool) → leb 24 (kind_at w at) ≡ t → kind_at w' bt < 25
                go true i = let a = leb-true 24 (kind_at w at) i in let k = partner (kind_at w at) (kind_at w' bt) twin (omega arith) in omega arith
                go false i = let k = low-partner (kind_at w at) (kind_at w' bt) twin (leb-false 24 (kind_at w at) i) in omega arith

        leaf-high : 28 < kind_at w at → count_at w' bt ≡ 1
        leaf-high lo = let k = partner (kind_at w at) (kind_at w' bt) twin (omega arith) in none-count w' bt (first-node w' bt m h q) (omega arith) other-plain

        -- another node: what it holds, or the trees after it
        pub resume-plain : resume all here v (trees s w n at) (trees s' w' m bt) ≡ resume all (level_after all (kind_at w at) v here) v (trees s w (n - 1) (at + 4)) (trees s' w' (m - 1) (bt + 4))
        unfolding level_after
        resume-plain = go (leb 25 (kind_at w at)) refl (leb (kind_at w at) 28) refl
          where
            go : (t : Bool) → leb 25 (kind_at w at) ≡ t → (u : Bool) → leb (kind_at w at) 28 ≡ u → resume all here v (trees s w n at) (trees s' w' m bt)
                ≡ resume all (level_after all (kind_at w at) v here) v (trees s w (n - 1) (at + 4)) (trees s' w' (m - 1) (bt + 4))
            go true i true j = holder (leb-true 25 (kind_at w at) i) (leb-true (kind_at w at) 28 j) ∙ rw (i, j, inside-kind s (kind_at w at) (first_at w at) (second_at w at) (level_for all here))
            go true i false j = leaf (none-count w at (first-node w at n g p) (leb-false (kind_at w at) 28 j) c) (leaf-high (leb-false (kind_at w at) 28 j))
                ∙ rw (i, j) (sym (resume-level all v (trees s w (n - 1) (at + 4)) (trees s' w' (m - 1) (bt + 4))))
            go false i u j = leaf (leaf-count w at (first-node w at n g p) (leb-false 25 (kind_at w at) i)) (leaf-low (leb-false 25 (kind_at w at) i))
                ∙ rw i (sym (resume-level all v (trees s w (n - 1) (at + 4)) (trees s' w' (m - 1) (bt + 4))))

-- ---- The comparison of fields.

module _ (all : Bool) (v : NestingLevel) (s w s' w' : List ℕ) (n m at bt : ℕ) where
  fields-first-none : n ≤ 0 → compare_fields all v (trees s w n at) (trees s' w' m bt) ≡ true
  unfolding compare_fields is_end
  fields-first-none p = rw (no-trees s w n at p)

  fields-second-none : m ≤ 0 → compare_fields all v (trees s w n at) (trees s' w' m bt) ≡ true
  unfolding compare_fields is_end
  fields-second-none p = rw (no-trees s' w' m bt p) (go (is_end (trees s w n at)))
    where
      go : (x : Bool) → ((x || true) || compare_encodings all v (trees s w n at) end) ≡ true
      go true = refl
      go false = refl

  pub fields-none : (eqb n 0 || eqb m 0) ≡ true → compare_fields all v (trees s w n at) (trees s' w' m bt) ≡ true
  fields-none h = go (eqb n 0) refl (eqb m 0) refl h
    where
      go : (x : Bool) → eqb n 0 ≡ x → (y : Bool) → eqb m 0 ≡ y → (x || y) ≡ true → compare_fields all v (trees s w n at) (trees s' w' m bt) ≡ true
      go true p y q r = let e = eqb-true n 0 p in fields-first-none (omega arith)
      go false p true q r = let e = eqb-true m 0 q in fields-second-none (omega arith)
      go false p false q r = absurd (false≢true r)

  pub fields-some : 0 < n → 0 < m → compare_fields all v (trees s w n at) (trees s' w' m bt) ≡ compare_encodings all v (trees s w n at) (trees s' w' m bt)
  unfolding compare_fields
  fields-some p q = rw (some-trees s w n at p, some-trees s' w' m bt q)

pub both_some : (n m : ℕ) → (eqb n 0 || eqb m 0) ≡ false → (0 < n) × (0 < m)
both_some zero m h = absurd (false≢true (sym h))
both_some (suc n) zero h = absurd (false≢true (sym h ∙ rw (ne_eqb (suc n) 0 (λ e. omega arith))))
both_some (suc n) (suc m) h = (omega arith, omega arith)

pub shown-le : (v : NestingLevel) (n : ℕ) → shown_count v n ≤ n
unfolding shown_count
shown-le Top n = omega arith
shown-le Within n = omega arith
shown-le Bottom n = omega arith

pub shown-trees : (v : NestingLevel) (w : List ℕ) (at n : ℕ) → TreesAt w at n → TreesAt w at (shown_count v n)
unfolding shown_count
shown-trees Top w at n h = h
shown-trees Within w at n h = h
shown-trees Bottom w at n h = record { room = let r = h.room in omega arith; nested = nests-none w 0 at (omega arith) }

-- The first trees of two runs lie within them, and the runs within the node words.
pub record Bounds (w : List ℕ) (at n : ℕ) (w' : List ℕ) (bt m : ℕ) : Type 0 where
  pub first_some : 1 ≤ count_at w at
  pub first-within : count_at w at ≤ n
  pub first-room : at + 4 * n ≤ length w
  pub second-some : 1 ≤ count_at w' bt
  pub second-within : count_at w' bt ≤ m
  pub second-room : bt + 4 * m ≤ length w'

-- What is left to compare has the answer `r`.
pub record Left (all : Bool) (v : NestingLevel) (s w s' w' : List ℕ) (at n bt m : ℕ) (here : NestingLevel) (r : Bool) : Type 0 where
  pub first : TreesAt w at n
  pub second : TreesAt w' bt m
  pub first_walk : KindsAndNames w (length s) at n
  pub second_walk : KindsAndNames w' (length s') bt m
  pub rest : resume all here v (trees s w n at) (trees s' w' m bt) ≡ r

module _ {all : Bool} {v : NestingLevel} {s w s' w' : List ℕ} {at n bt m : ℕ} {here : NestingLevel} {r : Bool} (l : Left all v s w s' w' at n bt m here r) where
  left-moved : (i₀ j₀ : ℕ) (x₀ : NestingLevel) (i j : ℕ) → i ≡ i₀ → j ≡ j₀ → (x : NestingLevel) → x ≡ x₀
      → Left all v s w s' w' (at + 4 * i₀) (n - i₀) (bt + 4 * j₀) (m - j₀) x₀ r → Left all v s w s' w' (at + 4 * i) (n - i) (bt + 4 * j) (m - j) x r
  left-moved i₀ j₀ x₀ i j ei ej x ex k =
      subst (λ (y : ℕ). Left all v s w s' w' (at + 4 * y) (n - y) (bt + 4 * j) (m - j) x r) (sym ei)
      (subst (λ (y : ℕ). Left all v s w s' w' (at + 4 * i₀) (n - i₀) (bt + 4 * y) (m - y) x r) (sym ej)
      (subst (λ (y : NestingLevel). Left all v s w s' w' (at + 4 * i₀) (n - i₀) (bt + 4 * j₀) (m - j₀) y r) (sym ex) k))

  -- one side is at its end: they match if both are
  pub left-stop : (eqb n 0 || eqb m 0) ≡ true → eqb n m ≡ r
  left-stop h = go n refl m refl h
    where
      go : (x : ℕ) → n ≡ x → (y : ℕ) → m ≡ y → (eqb x 0 || eqb y 0) ≡ true → eqb n m ≡ r
      go zero e y f k = rw e (ends m) ∙ sym (resume-end all here v s w s' w' n m at bt (omega arith)) ∙ l.rest
        where
          ends : (z : ℕ) → eqb 0 z ≡ eqb z 0
          ends zero = refl
          ends (suc z) = ne_eqb 0 (suc z) (λ d. omega arith) ∙ sym (ne_eqb (suc z) 0 (λ d. omega arith))
      go (suc x) e zero f k = ne_eqb n m (λ d. omega arith) ∙ sym (resume-short all here v s w s' w' n m at bt (omega arith) (omega arith)) ∙ l.rest
      go (suc x) e (suc y) f k = absurd (false≢true (sym (rw (ne_eqb (suc x) 0 (λ d. omega arith), ne_eqb (suc y) 0 (λ d. omega arith))) ∙ k))

  module _ (p : 0 < n) where
    module _ (q : 0 < m) where
      pub left-bounds : Bounds w at n w' bt m
      left-bounds = record {
        first_some = first_some w at n l.first p;
        first-within = first-within w at n l.first p;
        first-room = l.first.room;
        second-some = first_some w' bt m l.second q;
        second-within = first-within w' bt m l.second q;
        second-room = l.second.room;
      }

      pub left-differ : compare_labels (label_at s w at) (label_at s' w' bt) ≡ false → false ≡ r
      left-differ e = sym (resume-differ all here v s w s' w' n m at bt l.first l.second p q e) ∙ l.rest

      module _ (e : compare_labels (label_at s w at) (label_at s' w' bt) ≡ true) where
        ka : kind_at w at ≤ 31
        ka = (walk_here w (length s) at n l.first_walk p).kind

        kb : kind_at w' bt ≤ 31
        kb = (walk_here w' (length s') bt m l.second_walk q).kind

        -- a container, of whose fields `k` nodes are shown
        module _ (c : is_container_kind (kind_at w at) ≡ true) {u : NestingLevel} (lu : u ≡ level_for all here) {k : ℕ} (lk : k ≡ shown_count u (count_at w at - 1)) where
          container : (compare_fields all Within (trees s w k (at + 4)) (trees s' w' (count_at w' bt - 1) (bt + 4))
              && compare_encodings all v (trees s w (n - count_at w at) (at + 4 * count_at w at)) (trees s' w' (m - count_at w' bt) (bt + 4 * count_at w' bt))) ≡ r
          container =
              ap (λ i. compare_fields all Within (trees s w i (at + 4)) (trees s' w' (count_at w' bt - 1) (bt + 4)) && compare_encodings all v (trees s w (n - count_at w at) (at + 4 * count_at w at))
              (trees s' w' (m - count_at w' bt) (bt + 4 * count_at w' bt))) (lk ∙ ap (λ x. shown_count x (count_at w at - 1)) lu)
              ∙ sym (resume-container all here v s w s' w' n m at bt l.first l.second p q ka kb e c) ∙ l.rest

          pub left-fields : compare_fields all Within (trees s w k (at + 4)) (trees s' w' (count_at w' bt - 1) (bt + 4)) ≡ false → false ≡ r
          left-fields f = sym (rw f) ∙ container

          pub left_after : compare_fields all Within (trees s w k (at + 4)) (trees s' w' (count_at w' bt - 1) (bt + 4)) ≡ true
              → {i j : ℕ} → i ≡ count_at w at → j ≡ count_at w' bt → {x : NestingLevel} → x ≡ level_after all (kind_at w at) v here → Left all v s w s' w' (at + 4 * i) (n - i) (bt + 4 * j) (m - j) x r
          left_after f {i} {j} ei ej {x} ex = left-moved (count_at w at) (count_at w' bt) (level_after all (kind_at w at) v here) i j ei ej x ex (record {
            first = other-trees w at n l.first p;
            second = other-trees w' bt m l.second q;
            first_walk = walk-rest w (length s) at n l.first_walk (count_at w at) (first-within w at n l.first p);
            second_walk = walk-rest w' (length s') bt m l.second_walk (count_at w' bt) (first-within w' bt m l.second q);
            rest = ap (λ x. resume all x v (trees s w (n - count_at w at) (at + 4 * count_at w at)) (trees s' w' (m - count_at w' bt) (bt + 4 * count_at w' bt))) (level-container all (kind_at w at) v here c)
                ∙ resume-level all v (trees s w (n - count_at w at) (at + 4 * count_at w at)) (trees s' w' (m - count_at w' bt) (bt + 4 * count_at w' bt)) ∙ sym (rw f) ∙ container;
          })

          -- what the comparison of the fields may rely on
          pub left-inner : (k < n) × (TreesAt w (at + 4) k × TreesAt w' (bt + 4) (count_at w' bt - 1)) × (KindsAndNames w (length s) (at + 4) k × KindsAndNames w' (length s') (bt + 4) (count_at w' bt - 1))
          left-inner =
              let a = first-within w at n l.first p in
              let b = first-within w' bt m l.second q in
              let x = first_some w at n l.first p in
              let y = first_some w' bt m l.second q in
              let z = shown-le u (count_at w at - 1) in (
                omega arith,
                (subst (TreesAt w (at + 4)) (sym lk) (shown-trees u w (at + 4) (count_at w at - 1) (node-inner w at (first-node w at n l.first p))), node-inner w' bt (first-node w' bt m l.second q)),
                (walk-inner w (length s) at n l.first_walk k (omega arith), walk-inner w' (length s') bt m l.second_walk (count_at w' bt - 1) (omega arith)),
              )

          -- the last of both: their fields stand in their place
          pub left-last : count_at w at ≡ n → count_at w' bt ≡ m → 0 < k → 0 < count_at w' bt - 1 → Left all Within s w s' w' (at + 4) k (bt + 4) (count_at w' bt - 1) Within r
          unfolding compare_encodings
          left-last x y i j = record {
            first = left-inner.1.0;
            second = left-inner.1.1;
            first_walk = left-inner.2.0;
            second_walk = left-inner.2.1;
            rest = resume-level all Within (trees s w k (at + 4)) (trees s' w' (count_at w' bt - 1) (bt + 4))
                ∙ sym (fields-some all Within s w s' w' k (count_at w' bt - 1) (at + 4) (bt + 4) i j)
                ∙ sym (rw (no-trees s w (n - count_at w at) (at + 4 * count_at w at) (omega arith), no-trees s' w' (m - count_at w' bt) (bt + 4 * count_at w' bt) (omega arith))
                (and-true (compare_fields all Within (trees s w k (at + 4)) (trees s' w' (count_at w' bt - 1) (bt + 4)))))
                ∙ container;
          }

        pub left-next : is_container_kind (kind_at w at) ≡ false → {i j : ℕ} → i ≡ 1 → j ≡ 1 → {x : NestingLevel} → x ≡ level_after all (kind_at w at) v here → Left all v s w s' w' (at + 4 * i) (n - i) (bt + 4 * j) (m - j) x r
        left-next c {i} {j} ei ej {x} ex = left-moved 1 1 (level_after all (kind_at w at) v here) i j ei ej x ex (record {
          first = after-trees w at n l.first p c;
          second = after-trees w' bt m l.second q (plain-partner (kind_at w at) (kind_at w' bt) (labels-kinds s w at s' w' bt ka kb e) c);
          first_walk = walk-rest w (length s) at n l.first_walk 1 (omega arith);
          second_walk = walk-rest w' (length s') bt m l.second_walk 1 (omega arith);
          rest = sym (resume-plain all here v s w s' w' n m at bt l.first l.second p q ka kb e c) ∙ l.rest;
        })
