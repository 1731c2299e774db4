-- Words and name bytes beyond those used are not looked at (01, "The sheet").
use Prim.Native.Nat.{ℕ, zero, suc, ◌+◌, ◌-◌, ◌*◌, ◌≤◌, ◌<◌}
use native.Mathlib.Omega.{arith}
use mathlib.Core.Path.{◌≡◌, refl, ap, sym, ◌∙◌}
use mathlib.Core.List.{List, ◌++◌}
use mathlib.Core.Bool.{Bool, true, false, cond, ◌&&◌}
use borrow.Author.Tests.{le-leb, leb-true, eqb-true}
use lib.Dec.{leb, eqb}
use lib.ListN.{length, get_or, take, drop, length-append, length-drop, get_or-append}
use lib.Seq.{take-append-le, drop-append-le}
use Rattle.kinds.specs.Tree.{Trees, struct, union}
use Rattle.kinds.specs.Sheet.{kind_at, first_at, second_at, count_at, label, is_container_kind, numbers, next_name, packed, below, arity, nest, nests, header_words, header, node_words, is_sheet, read, trees, tree_of}
use Rattle.kinds.specs.Sound.{good_names}
use Rattle.kinds.specs.Walk.{KindsAndNames}
use Rattle.kinds.proofs.SheetLaws.{Header, header-says}
use Rattle.kinds.proofs.NodeLaws.{label-struct, label-union, walk_here, walk-inner, walk-rest, packed-walk, sheet-says}
use Rattle.kinds.specs.declared.Refusal.TheVariants.{NotASheet, BadName}
use Rattle.sheet.specs.Answer.{Held, held, refused, holding}

front : (v x : List ℕ) (i : ℕ) → i < length v → get_or (v ++ x) i 0 ≡ get_or v i 0
front v x i h = get_or-append v x 0 i h

-- ---- The tests of the nodes.

module _ (v x : List ℕ) where
  packed-beyond : (n at p e : ℕ) → at + 4 * n ≤ length v → packed (v ++ x) n at p e ≡ packed v n at p e
  unfolding packed
  packed-beyond zero at p e h = refl
  packed-beyond (suc n) at p e h =
      rw (front v x at (omega arith), front v x (at + 1) (omega arith), front v x (at + 2) (omega arith))
      (ap (λ (t : Bool). numbers (kind_at v at) (first_at v at) (second_at v at) p e && t) (packed-beyond n (at + 4) (next_name (kind_at v at) (second_at v at) p) e (omega arith)))

  -- the node after the last is looked at by no test
  arity-beyond : (n at k c : ℕ) (t : Bool) → at + 4 * suc n ≤ length v → (leb c (suc n) && (arity k c (count_at (v ++ x) (at + 4)) && t)) ≡ (leb c (suc n) && (arity k c (count_at v (at + 4)) && t))
  unfolding arity
  arity-beyond n at k c t h = go (leb c (suc n)) refl (leb 2 c) refl
    where
      go : (a : Bool) → leb c (suc n) ≡ a → (b : Bool) → leb 2 c ≡ b → (leb c (suc n) && (arity k c (count_at (v ++ x) (at + 4)) && t)) ≡ (leb c (suc n) && (arity k c (count_at v (at + 4)) && t))
      go false p b q = rw p
      go true p false q = rw (p, q)
      go true p true q = let l = leb-true c (suc n) p in let m = leb-true 2 c q in rw (front v x (at + 4 + 3) (omega arith))

  nest-beyond : (f n at : ℕ) → at + 4 * n ≤ length v → nest (v ++ x) f n at ≡ nest v f n at
  unfolding nest
  nest-beyond zero zero at h = refl
  nest-beyond zero (suc n) at h = refl
  nest-beyond (suc f) zero at h = refl
  nest-beyond (suc f) (suc n) at h =
      rw (front v x (at + 3) (omega arith), front v x at (omega arith), nest-beyond f (below v n at) (at + 4) (omega arith), nest-beyond f (n - below v n at) (at + 4 + 4 * below v n at) (omega arith))
      (ap (λ (t : Bool). leb 1 (count_at v at) && t) (arity-beyond n at (kind_at v at) (count_at v at) (nest v f (below v n at) (at + 4) && nest v f (n - below v n at) (at + 4 + 4 * below v n at)) h))

-- ---- The tree.

part-beyond : (s y : List ℕ) (a b : ℕ) → a + b ≤ length s → take b (drop a (s ++ y)) ≡ take b (drop a s)
part-beyond s y a b h = ap (take b) (drop-append-le a s y (omega arith)) ∙ take-append-le b (drop a s) y (simp length-drop (omega arith))

label-beyond : (s y : List ℕ) (k a b : ℕ) → (is_container_kind k ≡ true → a + b ≤ length s) → label (s ++ y) k a b ≡ label s k a b
unfolding label
label-beyond s y k a b h = go (eqb k 29) refl (eqb k 30) refl
  where
    go : (t : Bool) → eqb k 29 ≡ t → (u : Bool) → eqb k 30 ≡ u → label (s ++ y) k a b ≡ label s k a b
    go true p u q = label-struct (s ++ y) k a b (eqb-true k 29 p) ∙ ap struct (part-beyond s y a b (h (rw p))) ∙ sym (label-struct s k a b (eqb-true k 29 p))
    go false p true q = label-union (s ++ y) k a b (eqb-true k 30 q) ∙ ap union (part-beyond s y a b (h (rw (p, q)))) ∙ sym (label-union s k a b (eqb-true k 30 q))
    go false p false q = rw (p, q)

module _ (v x s y : List ℕ) where
  read-beyond : (f n at : ℕ) → at + 4 * n ≤ length v → KindsAndNames v (length s) at n → read (s ++ y) (v ++ x) f n at ≡ read s v f n at
  unfolding read
  read-beyond zero n at h w = refl
  read-beyond (suc f) zero at h w = refl
  read-beyond (suc f) (suc n) at h w =
      let i = walk-inner v (length s) at (suc n) w in
      rw (
        front v x at (omega arith),
        front v x (at + 1) (omega arith),
        front v x (at + 2) (omega arith),
        front v x (at + 3) (omega arith),
        label-beyond s y (kind_at v at) (first_at v at) (second_at v at) (walk_here v (length s) at (suc n) w (omega arith)).name,
        read-beyond f (below v n at) (at + 4) (omega arith) (i (below v n at) (omega arith)),
        read-beyond f (n - below v n at) (at + 4 + 4 * below v n at) (omega arith)
            (walk-rest v (length s) (at + 4) n (i n (omega arith)) (below v n at) (omega arith)),
      )

-- ---- The lists. `w` has the words that its header says are used and `s` the name bytes; `x` and `y` stand behind them.

module _ (w s x y : List ℕ) (head : header_words ≤ length w) (words : get_or w 3 0 ≤ length w) (bytes : get_or w 2 0 ≤ length s) where
  header-beyond : header (w ++ x) (length (s ++ y)) ≡ header w (length s)
  unfolding header
  header-beyond =
      let a = length-append w x in
      let b = length-append s y in
      rw (
        front w x 0 (omega arith),
        front w x 1 (omega arith),
        front w x 2 (omega arith),
        front w x 3 (omega arith),
        le-leb header_words (length (w ++ x)) (omega arith),
        le-leb header_words (length w) head,
        le-leb (get_or w 3 0) (length (w ++ x)) (omega arith),
        le-leb (get_or w 3 0) (length w) words,
        le-leb (get_or w 2 0) (length (s ++ y)) (omega arith),
        le-leb (get_or w 2 0) (length s) bytes,
      )

  nodes-beyond : node_words (w ++ x) ≡ node_words w ++ x
  nodes-beyond = drop-append-le header_words w x head

  nodes-room : Header w (length s) → 0 + 4 * get_or w 0 0 ≤ length (node_words w)
  nodes-room h = let a = h.room in let b = length-drop header_words w in omega arith

  sheet-beyond : is_sheet (w ++ x) (s ++ y) ≡ is_sheet w s
  unfolding is_sheet nests
  sheet-beyond = rw (header-beyond, nodes-beyond, front w x 0 (omega arith), front w x 2 (omega arith)) (same-when (header w (length s)) _ _ nodes)
    where
      same-when : (a b c : Bool) → (a ≡ true → b ≡ c) → (a && b) ≡ (a && c)
      same-when true b c h = h refl
      same-when false b c h = refl

      nodes : header w (length s) ≡ true
          → (packed (node_words w ++ x) (get_or w 0 0) 0 0 (get_or w 2 0) && (eqb (count_at (node_words w ++ x) 0) (get_or w 0 0) && nest (node_words w ++ x) (get_or w 0 0) (get_or w 0 0) 0))
          ≡ (packed (node_words w) (get_or w 0 0) 0 0 (get_or w 2 0) && (eqb (count_at (node_words w) 0) (get_or w 0 0) && nest (node_words w) (get_or w 0 0) (get_or w 0 0) 0))
      nodes h =
          let d = header-says w (length s) h in
          let r = nodes-room d in
          let l = d.some-nodes in
          rw (packed-beyond (node_words w) x (get_or w 0 0) 0 0 (get_or w 2 0) r, front (node_words w) x 3 (omega arith), nest-beyond (node_words w) x (get_or w 0 0) (get_or w 0 0) 0 r)

  -- The tree of a sheet is the same, whatever stands behind.
  pub tree-beyond : is_sheet w s ≡ true → tree_of (w ++ x) (s ++ y) ≡ tree_of w s
  unfolding tree_of trees
  tree-beyond h =
      let d = sheet-says w s h in
      rw (nodes-beyond, front w x 0 (omega arith))
      (read-beyond (node_words w) x s y (get_or w 0 0) (get_or w 0 0) 0 (nodes-room d.head) (packed-walk (node_words w) (length s) (get_or w 0 0) 0 0 (get_or w 2 0) bytes d.packs))

  -- So is what the lists hold, also where it is a refusal.
  pub held-beyond : held (w ++ x) (s ++ y) ≡ held w s
  unfolding held
  held-beyond = rw sheet-beyond (go (is_sheet w s) refl)
    where
      this : Trees → Held
      this t = cond (good_names t) (holding t) (refused BadName)

      go : (t : Bool) → is_sheet w s ≡ t → cond (is_sheet w s) (this (tree_of (w ++ x) (s ++ y))) (refused NotASheet) ≡ cond (is_sheet w s) (this (tree_of w s)) (refused NotASheet)
      go true h = rw (tree-beyond h)
      go false h = rw h
