-- Trees with equal shown parts are laid out alike: each is laid out as its shown part is, in the numbers of the shown nodes.
use Prim.Native.Nat.{ℕ, zero, suc, ◌+◌}
use native.Mathlib.Nat.{zero-add, suc-add}
use native.Mathlib.Omega.{arith}
use mathlib.Core.Bool.{Bool, true, false, cond, not, ◌&&◌, ◌||◌}
use mathlib.Core.List.{List, [], ◌∷◌, ◌++◌, append_assoc, append-nil}
use Rattle.std.specs.Prelude.{Option, Some, None}
use mathlib.Core.Path.{◌≡◌, refl, sym, ap, ap₂, ◌∙◌}
use borrow.Author.Tests.{not-false}
use lib.ListN.{length, get_or, take, drop, replicate, length-append, length-replicate, replicate-append-replicate}
use lib.Seq.{take_at, drop_at, get_or-drop, drop-drop}
use Rattle.kinds.specs.Level.{shows_fields}
use Rattle.kinds.specs.Primitive.{Widths}
use Rattle.kinds.specs.Tree as T
use Rattle.kinds.specs.Tree.{Label, Trees, end, node, primitive, bit_field, typed_bit_field, pointer, atomic, array, struct, union, is_end, count, inside, shows, keep, shown}
use Rattle.kinds.specs.declared.NestingLevel.{NestingLevel}
use Rattle.kinds.specs.declared.NestingLevel.TheVariants.{Top}
use Rattle.kinds.proofs.TreeLaws.{end-shown}
use Rattle.layout.specs.Layout.{Extent, is_pointer, laid_out, is_bit_field, first_bit_field, sizeless, any_sizeless, node_extent, extents, Side, in_node, begins, holds_inside, offsets}
use Rattle.layout_agreement.specs.Shown.{shown_only, up_from, shown_numbers, number_in}
use Rattle.layout_agreement.proofs.OffsetLaws.{below, below_length}
use Rattle.layout_agreement.proofs.PartLaws.{neither, ◌or_else◌, first-append, any_append, held, sized-parts}

-- ---- Whether a node has no size.

-- Of a node that hides its fields it does not matter whether there are any.
hidden-size : (w : Widths) (l : Label) (x y : Bool) → sizeless w l false x ≡ sizeless w l false y
unfolding sizeless
hidden-size w (primitive p) x y = refl
hidden-size w (bit_field n) x y = refl
hidden-size w (typed_bit_field o n) x y = refl
hidden-size w pointer x y = refl
hidden-size w atomic x y = refl
hidden-size w (array n) x y = refl
hidden-size w (struct s) x y = refl
hidden-size w (union s) x y = refl
hidden-size w T.none x y = refl

module _ (w : Widths) where
  own-shown : (l : Label) (v : NestingLevel) (b : Bool) (cs : Trees) → sizeless w l b (is_end (keep b (shown v cs))) ≡ sizeless w l b (is_end cs)
  unfolding keep
  own-shown l v true cs = ap (sizeless w l true) (end-shown v cs)
  own-shown l v false cs = hidden-size w l (is_end end) (is_end cs)

  held-shown : (b c : Bool) (v : NestingLevel) (k i : ℕ) (cs : Trees) → any_sizeless w (laid_out v k (shown v cs)) ≡ any_sizeless w (laid_out v i cs)
      → any_sizeless w (cond (b && c) (laid_out v k (keep b (shown v cs))) []) ≡ any_sizeless w (cond (b && c) (laid_out v i cs) [])
  unfolding keep
  held-shown true true v k i cs e = e
  held-shown true false v k i cs e = refl
  held-shown false c v k i cs e = refl

  pub sizeless-shown : (v : NestingLevel) (k i : ℕ) (ts : Trees) → any_sizeless w (laid_out v k (shown v ts)) ≡ any_sizeless w (laid_out v i ts)
  unfolding laid_out shown any_sizeless
  sizeless-shown v k i end = refl
  sizeless-shown v k i (node l cs ts) =
      ap₂ ◌||◌ (own-shown l (inside l v) (shows l v) cs)
      (any_append w (held v k l (keep (shows l v) (shown (inside l v) cs)) end) (laid_out v (k + 1 + count (keep (shows l v) (shown (inside l v) cs))) (shown v ts))
      ∙ ap₂ ◌||◌ (held-shown (shows l v) (not (is_pointer l)) (inside l v) (k + 1) (i + 1) cs (sizeless-shown (inside l v) (k + 1) (i + 1) cs))
      (sizeless-shown v (k + 1 + count (keep (shows l v) (shown (inside l v) cs))) (i + 1 + count cs) ts)
      ∙ sym (any_append w (held v i l cs end) (laid_out v (i + 1 + count cs) ts)))

  -- ---- Extents, where each laid-out node has a size.

  pub node-shown : (l : Label) (v : NestingLevel) (cs : Trees) → sizeless w l (shows l v) (is_end cs) ≡ false
      → ((shows l v && not (is_pointer l)) ≡ true → extents w (shown (inside l v) cs) ≡ extents w cs)
      → node_extent w l (extents w (keep (shows l v) (shown (inside l v) cs))) ≡ node_extent w l (extents w cs)
  unfolding sizeless is_pointer node_extent keep
  node-shown (primitive p) v cs z e = refl
  node-shown (bit_field n) v cs z e = refl
  node-shown (typed_bit_field o n) v cs z e = refl
  node-shown pointer v cs z e = refl
  node-shown atomic v cs z e = ap (node_extent w atomic) (e refl)
  node-shown (array n) v cs z e = ap (node_extent w (array n)) (e refl)
  node-shown (struct s) v cs z e = let h = not-false (shows_fields v) z in
      ap (λ b. node_extent w (struct s) (extents w (keep b (shown (inside (struct s) v) cs)))) h ∙ ap (node_extent w (struct s)) (e (ap (λ b. b && true) h))
  node-shown (union s) v cs z e = let h = not-false (shows_fields v) (neither (not (shows_fields v)) (is_end cs) z).0 in
      ap (λ b. node_extent w (union s) (extents w (keep b (shown (inside (union s) v) cs)))) h ∙ ap (node_extent w (union s)) (e (ap (λ b. b && true) h))
  node-shown T.none v cs z e = refl

  pub extents-shown : (v : NestingLevel) (i : ℕ) (ts : Trees) → any_sizeless w (laid_out v i ts) ≡ false → extents w (shown v ts) ≡ extents w ts
  unfolding shown extents
  extents-shown v i end a = refl
  extents-shown v i (node l cs ts) a =
      let s = sized-parts v i l cs ts w a in
      ap₂ ◌∷◌ (node-shown l v cs s.own (λ q. extents-shown (inside l v) (i + 1) cs (s.inner q))) (extents-shown v (i + 1 + count cs) ts s.after)

-- ---- Numbers of shown nodes.

cond-keep : (b : Bool) (ns : List ℕ) (ts : Trees) → length ns ≡ count ts → length (cond b ns []) ≡ count (keep b ts)
unfolding keep count
cond-keep true ns ts e = e
cond-keep false ns ts e = refl

-- The numbers of the shown nodes, where `i` is that of the first node.
numbers : NestingLevel → ℕ → Trees → List ℕ
numbers v i end = []
numbers v i (node l cs ts) = i ∷ (cond (shows l v) (numbers (inside l v) (i + 1) cs) [] ++ numbers v (i + 1 + count cs) ts)

numbers-length : (v : NestingLevel) (i : ℕ) (ts : Trees) → length (numbers v i ts) ≡ count (shown v ts)
unfolding numbers shown count
numbers-length v i end = refl
numbers-length v i (node l cs ts) =
    omega (
      arith,
      length-append (cond (shows l v) (numbers (inside l v) (i + 1) cs) []) (numbers v (i + 1 + count cs) ts),
      cond-keep (shows l v) (numbers (inside l v) (i + 1) cs) (shown (inside l v) cs) (numbers-length (inside l v) (i + 1) cs),
      numbers-length v (i + 1 + count cs) ts,
    )

up-length : (i n : ℕ) → length (up_from i n) ≡ n
unfolding up_from
up-length i zero = refl
up-length i (suc n) = ap suc (up-length (i + 1) n)

plain : (n : ℕ) → n ≡ n + 0
plain n = omega arith

up-append : (i n m : ℕ) → up_from i (n + m) ≡ up_from i n ++ up_from (i + n) m
unfolding up_from
up-append i zero m = ap₂ up_from (plain i) (zero-add m)
up-append i (suc n) m = ap (up_from i) (suc-add n m) ∙ ap (λ x. i ∷ x) (up-append (i + 1) n m ∙ ap (λ k. up_from (i + 1) n ++ up_from k m) (further i n))
  where
    further : (i n : ℕ) → i + 1 + n ≡ i + suc n
    further i n = omega arith

numbers-are : (v : NestingLevel) (i : ℕ) (ts : Trees) → shown_only v ts (up_from i (count ts)) ≡ numbers v i ts
unfolding shown_only numbers count up_from
numbers-are v i end = refl
numbers-are v i (node l cs ts) =
    ap (λ x. i ∷ (cond (shows l v) (shown_only (inside l v) cs (take (count cs) x)) [] ++ shown_only v ts (drop (count cs) x))) (up-append (i + 1) (count cs) (count ts))
    ∙ ap₂ (λ x y. i ∷ (cond (shows l v) (shown_only (inside l v) cs x) [] ++ shown_only v ts y))
    (take_at (up_from (i + 1) (count cs)) (up_from (i + 1 + count cs) (count ts)) (count cs) (up-length (i + 1) (count cs)))
    (drop_at (up_from (i + 1) (count cs)) (up_from (i + 1 + count cs) (count ts)) (count cs) (up-length (i + 1) (count cs)))
    ∙ ap₂ (λ x y. i ∷ (cond (shows l v) x [] ++ y)) (numbers-are (inside l v) (i + 1) cs) (numbers-are v (i + 1 + count cs) ts)

-- ---- The first bitfield, by its number among the shown nodes.

head_at : (L : List ℕ) (k i : ℕ) (rest : List ℕ) → drop k L ≡ i ∷ rest → get_or L k 0 ≡ i
head_at L k i rest h = ap (λ n. get_or L n 0) (plain k) ∙ sym (get_or-drop k L 0 0) ∙ ap (λ x. get_or x 0 0) h

rest_at : (L : List ℕ) (k i : ℕ) (rest : List ℕ) → drop k L ≡ i ∷ rest → drop (k + 1) L ≡ rest
rest_at L k i rest h = sym (drop-drop 1 k L) ∙ ap (drop 1) h

number-or : (L : List ℕ) (a b : Option ℕ) → (number_in L a or_else number_in L b) ≡ number_in L (a or_else b)
number-or L None b = refl
number-or L (Some k) b = refl

held-bits : (L : List ℕ) (b c : Bool) (v : NestingLevel) (k i : ℕ) (cs : Trees) → (b ≡ true → first_bit_field (laid_out v i cs) ≡ number_in L (first_bit_field (laid_out v k (shown v cs))))
    → first_bit_field (cond (b && c) (laid_out v i cs) []) ≡ number_in L (first_bit_field (cond (b && c) (laid_out v k (keep b (shown v cs))) []))
unfolding keep first_bit_field
held-bits L true true v k i cs e = e refl
held-bits L true false v k i cs e = refl
held-bits L false c v k i cs e = refl

bits_in : (L Q : List ℕ) (v : NestingLevel) (k i : ℕ) (ts : Trees) → drop k L ≡ numbers v i ts ++ Q
    → first_bit_field (laid_out v i ts) ≡ number_in L (first_bit_field (laid_out v k (shown v ts)))
unfolding laid_out first_bit_field shown numbers
bits_in L Q v k i end h = refl
bits_in L Q v k i (node l cs ts) h =
    let first = head_at L k i ((C ++ R) ++ Q) h in
    let next : drop (k + 1) L ≡ C ++ (R ++ Q) = rest_at L k i ((C ++ R) ++ Q) h ∙ append_assoc C R Q in
    let inner = held-bits L (shows l v) (not (is_pointer l)) (inside l v) (k + 1) (i + 1) cs
    (λ q. bits_in L (R ++ Q) (inside l v) (k + 1) (i + 1) cs (next ∙ ap (λ b. cond b (numbers (inside l v) (i + 1) cs) [] ++ (R ++ Q)) q)) in
    let long = cond-keep (shows l v) (numbers (inside l v) (i + 1) cs) (shown (inside l v) cs) (numbers-length (inside l v) (i + 1) cs) in
    let after = bits_in L Q v (k + 1 + count K) (i + 1 + count cs) ts (sym (drop-drop (count K) (k + 1) L) ∙ ap (drop (count K)) next ∙ drop_at C (R ++ Q) (count K) long) in
    go (is_bit_field l) (first_bit_field (held v i l cs end ++ laid_out v (i + 1 + count cs) ts)) (first_bit_field (held v k l K end ++ laid_out v (k + 1 + count K) (shown v ts))) first
    (first-append (held v i l cs end) (laid_out v (i + 1 + count cs) ts) ∙ ap₂ ◌or_else◌ inner after
    ∙ number-or L (first_bit_field (held v k l K end)) (first_bit_field (laid_out v (k + 1 + count K) (shown v ts)))
    ∙ ap (number_in L) (sym (first-append (held v k l K end) (laid_out v (k + 1 + count K) (shown v ts)))))
  where
    C : List ℕ
    C = cond (shows l v) (numbers (inside l v) (i + 1) cs) []

    R : List ℕ
    R = numbers v (i + 1 + count cs) ts

    K : Trees
    K = keep (shows l v) (shown (inside l v) cs)

    go : (b : Bool) (x y : Option ℕ) → get_or L k 0 ≡ i → x ≡ number_in L y → cond b (Some i) x ≡ number_in L (cond b (Some k) y)
    go true x y e d = ap Some (sym e)
    go false x y e d = d

pub bits-shown : (t : Trees) → first_bit_field (laid_out Top 0 t) ≡ number_in (shown_numbers t) (first_bit_field (laid_out Top 0 (shown Top t)))
bits-shown t = bits_in (shown_numbers t) [] Top 0 0 t (numbers-are Top 0 t ∙ sym (append-nil (numbers Top 0 t)))

-- ---- Numbers, where each laid-out node has a size.

zeros-shown : (v : NestingLevel) (ts : Trees) → shown_only v ts (replicate (count ts) 0) ≡ replicate (count (shown v ts)) 0
unfolding shown_only shown count keep
zeros-shown v end = refl
zeros-shown v (node l cs ts) =
    ap (λ x. 0 ∷ (cond (shows l v) (shown_only (inside l v) cs (take (count cs) x)) [] ++ shown_only v ts (drop (count cs) x))) (sym (replicate-append-replicate (count cs) (count ts) 0))
    ∙ ap₂ (λ x y. 0 ∷ (cond (shows l v) (shown_only (inside l v) cs x) [] ++ shown_only v ts y)) (take_at (replicate (count cs) 0) (replicate (count ts) 0) (count cs) (length-replicate (count cs) 0))
    (drop_at (replicate (count cs) 0) (replicate (count ts) 0) (count cs) (length-replicate (count cs) 0))
    ∙ ap₂ (λ x y. 0 ∷ (x ++ y)) (go (shows l v) (zeros-shown (inside l v) cs)) (zeros-shown v ts)
    ∙ ap (λ x. 0 ∷ x) (replicate-append-replicate (count (keep (shows l v) (shown (inside l v) cs))) (count (shown v ts)) 0)
  where
    go : (b : Bool) → shown_only (inside l v) cs (replicate (count cs) 0) ≡ replicate (count (shown (inside l v) cs)) 0
        → cond b (shown_only (inside l v) cs (replicate (count cs) 0)) [] ≡ replicate (count (keep b (shown (inside l v) cs))) 0
    go true e = e
    go false e = refl

module _ (w : Widths) where
  -- The numbers of what a node holds.
  below-shown : (l : Label) (v : NestingLevel) (cs : Trees) → sizeless w l (shows l v) (is_end cs) ≡ false
      → ((shows l v && not (is_pointer l)) ≡ true → (k : Side) → shown_only (inside l v) cs (offsets w k 0 cs) ≡ offsets w k 0 (shown (inside l v) cs))
      → cond (shows l v) (shown_only (inside l v) cs (below w l cs)) [] ≡ below w l (keep (shows l v) (shown (inside l v) cs))
  unfolding sizeless is_pointer holds_inside keep
  below-shown (primitive p) v cs z e = zeros-shown v cs
  below-shown (bit_field n) v cs z e = zeros-shown v cs
  below-shown (typed_bit_field o n) v cs z e = zeros-shown v cs
  below-shown pointer v cs z e = zeros-shown (inside pointer v) cs
  below-shown atomic v cs z e = e refl (in_node atomic)
  below-shown (array n) v cs z e = e refl (in_node (array n))
  below-shown (struct s) v cs z e = let h = not-false (shows_fields v) z in
      ap (λ b. cond b (shown_only (inside (struct s) v) cs (offsets w (in_node (struct s)) 0 cs)) []) h
      ∙ e (ap (λ b. b && true) h) (in_node (struct s)) ∙ ap (λ b. offsets w (in_node (struct s)) 0 (keep b (shown (inside (struct s) v) cs))) (sym h)
  below-shown (union s) v cs z e = let h = not-false (shows_fields v) (neither (not (shows_fields v)) (is_end cs) z).0 in
      ap (λ b. cond b (shown_only (inside (union s) v) cs (offsets w (in_node (union s)) 0 cs)) []) h
      ∙ e (ap (λ b. b && true) h) (in_node (union s)) ∙ ap (λ b. offsets w (in_node (union s)) 0 (keep b (shown (inside (union s) v) cs))) (sym h)
  below-shown T.none v cs z e = zeros-shown v cs

  pub offsets-shown : (v : NestingLevel) (i : ℕ) (k : Side) (e : ℕ) (ts : Trees) → any_sizeless w (laid_out v i ts) ≡ false → shown_only v ts (offsets w k e ts) ≡ offsets w k e (shown v ts)
  unfolding shown shown_only offsets
  offsets-shown v i k e end a = refl
  offsets-shown v i k e (node l cs ts) a =
      let s = sized-parts v i l cs ts w a in
      ap₂ (λ x y. begins k e X ∷ (cond (shows l v) (shown_only (inside l v) cs x) [] ++ shown_only v ts y)) (take_at (below w l cs) rest (count cs) (below_length w l cs))
      (drop_at (below w l cs) rest (count cs) (below_length w l cs))
      ∙ ap₂ (λ x y. begins k e X ∷ (x ++ y)) (below-shown l v cs s.own (λ q k. offsets-shown (inside l v) (i + 1) k 0 cs (s.inner q)))
      (offsets-shown v (i + 1 + count cs) k (begins k e X + X.bytes) ts s.after)
      ∙ ap (λ (x : Extent). begins k e x ∷ (below w l (keep (shows l v) (shown (inside l v) cs)) ++ offsets w k (begins k e x + x.bytes) (shown v ts)))
      (sym (node-shown w l v cs s.own (λ q. extents-shown w (inside l v) (i + 1) cs (s.inner q))))
    where
      X : Extent
      X = node_extent w l (extents w cs)

      rest : List ℕ
      rest = offsets w k (begins k e X + X.bytes) ts
