-- Laws of the walk that fills a list with the numbers of nodes.
use Prim.Native.Nat.{ℕ, zero, suc, ◌+◌, ◌-◌, ◌*◌, ◌≤◌, ◌<◌, max}
use native.Mathlib.Omega.{arith}
use mathlib.Core.Path.{◌≡◌, refl, ap, ap₂, sym, ◌∙◌, subst}
use mathlib.Core.List.{List, [], ◌∷◌, ◌++◌, map, append-nil}
use mathlib.Core.Bool.{Bool, true, false, cond, ◌&&◌, ◌||◌, false≢true, and-true}
use borrow.Author.Tests.{le-leb, leb-true, ne_eqb, eqb-true, eqb-false, ltb-true, ltb-false}
use lib.Dec.{leb, ltb, eqb}
use lib.ListN.{length, get_or, set, replicate, length-append, length-replicate, length-set}
use lib.Seq.{sets, set-get_or, get_or-set_other}
use Rattle.kinds.specs.Parse.{max_u64}
use Rattle.kinds.specs.Primitive.{Widths}
use Rattle.kinds.specs.Sheet.{kind_at, first_at, second_at, count_at, label, label_at, trees}
use Rattle.kinds.specs.Tree.{Trees, end, node, count}
use Rattle.kinds.specs.Walk.{NodeAt, TreesAt}
use Rattle.kinds.proofs.SheetLaws.{trees-step, trees-count}
use Rattle.kinds.proofs.NodeLaws.{node-child, child-count, first_some, first-within, first-node, other-trees, no-trees, label-atomic, label-array, label-struct, label-union}
use Rattle.kinds.proofs.TableLaws.{both_left, both_right}
use Rattle.kinds.proofs.StoreLaws.{sets-append, set-sets, sets_same}
use Rattle.helper.specs.Measure.{RowOf, fit, times_measured}
use Rattle.layout.specs.Answer.{all_within}
use Rattle.layout.specs.Layout.{Extent, no_room, alignments, fields_end, members_end, only_extent, node_extent, extents, Side, fields, others, in_node, begins, holds_inside, offsets, next_multiple}
use Rattle.layout.specs.Placing.{placed_of, stored, stored_of, is_plain, is_simple, simple_placed, plain_extent, begin_measured, with_field, closed, held_by, ended_by, inside_at, extent_at, offsets_below, Zeros, LaidBelow, Laid}
use Rattle.layout.specs.Walking.{side_of, end_of, Gathers, Filling}
use Rattle.layout.specs.declared.place.Placed.{Placed}
use Rattle.layout.proofs.ExtentLaws.{stored-fit, times-fit, begin_in, end_with, begin-fit, with-field, closed-fit, plain-extent, plain-inside, plain-positive, held-positive, closed-positive, not_plain}

-- ---- Lists of numbers.

pub within-append : (l : ℕ) (xs ys : List ℕ) → all_within l (xs ++ ys) ≡ (all_within l xs && all_within l ys)
unfolding all_within
within-append l [] ys = refl
within-append l (x ∷ xs) ys = ap (λ t. leb x l && t) (within-append l xs ys) ∙ and-group (leb x l) (all_within l xs) (all_within l ys)
  where
    and-group : (a b c : Bool) → (a && (b && c)) ≡ ((a && b) && c)
    and-group true b c = refl
    and-group false b c = refl

pub zeros_within : (l n : ℕ) → all_within l (replicate n 0) ≡ true
unfolding all_within
zeros_within l zero = refl
zeros_within l (suc n) = rw (le-leb 0 l (omega arith)) (zeros_within l n)

pub map-append : (f : ℕ → ℕ) (xs ys : List ℕ) → map f (xs ++ ys) ≡ map f xs ++ map f ys
map-append f [] ys = refl
map-append f (x ∷ xs) ys = ap (λ (t : List ℕ). f x ∷ t) (map-append f xs ys)

pub map-length : (f : ℕ → ℕ) (xs : List ℕ) → length (map f xs) ≡ length xs
map-length f [] = refl
map-length f (x ∷ xs) = ap suc (map-length f xs)

pub zeros-stored : (n : ℕ) → map stored (replicate n 0) ≡ replicate n 0
unfolding stored
zeros-stored zero = refl
zeros-stored (suc n) = ap (λ (t : List ℕ). 0 ∷ t) (zeros-stored n)

pub all-stored : (xs : List ℕ) → all_within max_u64 xs ≡ true → map stored xs ≡ xs
unfolding all_within stored
all-stored [] h = refl
all-stored (x ∷ xs) h = go (leb x max_u64) refl h (λ k. all-stored xs k)
  where
    go : (t : Bool) → leb x max_u64 ≡ t → (t && all_within max_u64 xs) ≡ true → (all_within max_u64 xs ≡ true → map stored xs ≡ xs) → cond (leb x max_u64) x 0 ∷ map stored xs ≡ x ∷ xs
    go true e k rec = rw e (ap (λ (t : List ℕ). x ∷ t) (rec k))
    go false e k rec = absurd (false≢true k)

-- ---- One number for each node.

pub offsets-length : (m : Widths) (k : Side) (e : ℕ) (ts : Trees) → length (offsets m k e ts) ≡ count ts
unfolding offsets count
offsets-length m k e end = refl
offsets-length m k e (node l cs ts) =
    ap suc (length-append (cond (holds_inside l) (offsets m (in_node l) 0 cs) (replicate (count cs) 0)) _
    ∙ ap₂ ◌+◌ (below (holds_inside l) (offsets-length m (in_node l) 0 cs)) (offsets-length m k _ ts))
  where
    below : (t : Bool) → length (offsets m (in_node l) 0 cs) ≡ count cs → length (cond t (offsets m (in_node l) 0 cs) (replicate (count cs) 0)) ≡ count cs
    below true e = e
    below false e = length-replicate (count cs) 0

-- Where a tree that is no struct's field begins does not depend on the others.
pub others-alike : (m : Widths) (e d : ℕ) (ts : Trees) → offsets m others e ts ≡ offsets m others d ts
unfolding offsets
others-alike m e d end = refl
others-alike m e d (node l cs ts) = refl

-- ---- Nodes by their place.

module _ (m : Widths) (s w : List ℕ) (at n : ℕ) (p : 1 ≤ count_at w at) (q : count_at w at ≤ n) where
  pub extents-step : extents m (trees s w n at) ≡ extent_at m s w at ∷ extents m (trees s w (n - count_at w at) (at + 4 * count_at w at))
  unfolding extents extent_at
  extents-step = rw (trees-step s w n at p q)

  pub offsets-step : (k : Side) (e : ℕ) → offsets m k e (trees s w n at)
      ≡ begins k e (extent_at m s w at) ∷ (offsets_below m s w at
      ++ offsets m k (begins k e (extent_at m s w at) + (extent_at m s w at).bytes) (trees s w (n - count_at w at) (at + 4 * count_at w at)))
  unfolding offsets extent_at offsets_below
  offsets-step k e = rw (trees-step s w n at p q)

pub below_length : (m : Widths) (s w : List ℕ) (at : ℕ) → length (offsets_below m s w at) ≡ count_at w at - 1
unfolding offsets_below
below_length m s w at = go (holds_inside (label_at s w at))
  where
    go : (t : Bool) → length (cond t (offsets m (in_node (label_at s w at)) 0 (inside_at s w at)) (replicate (count (inside_at s w at)) 0)) ≡ count_at w at - 1
    go true = offsets-length m (in_node (label_at s w at)) 0 (inside_at s w at) ∙ trees-count s w (count_at w at - 1) (at + 4)
    go false = length-replicate (count (inside_at s w at)) 0 ∙ trees-count s w (count_at w at - 1) (at + 4)

-- A node that holds nothing inside leaves a list of zeros as it is.
module _ (row : List ℕ) (m : Widths) (o : RowOf row m) (s w : List ℕ) (i : ℕ) (h : is_plain (kind_at w (4 * i)) ≡ true) where
  plain_at : extent_at m s w (4 * i) ≡ plain_extent row (kind_at w (4 * i))
  unfolding extent_at
  plain_at = plain-extent row m o s (first_at w (4 * i)) (second_at w (4 * i)) (kind_at w (4 * i)) h (extents m (inside_at s w (4 * i)))

  plain-below : offsets_below m s w (4 * i) ≡ replicate (count_at w (4 * i) - 1) 0
  unfolding offsets_below
  plain-below = rw (plain-inside s (first_at w (4 * i)) (second_at w (4 * i)) (kind_at w (4 * i)) h)
      (ap (λ (n : ℕ). replicate n 0) (trees-count s w (count_at w (4 * i) - 1) (4 * i + 4)))

  plain-laid-below : (l : List ℕ) → Zeros l (i + 1) (count_at w (4 * i) - 1) → {x : Placed} → x ≡ placed_of (plain_extent row (kind_at w (4 * i))) true → LaidBelow m s w i l l x
  plain-laid-below l z {x} e = record {
    takes = e ∙ ap₂ placed_of (sym plain_at) (sym (ap (all_within max_u64) plain-below ∙ zeros_within max_u64 (count_at w (4 * i) - 1)));
    list = sym (ap (λ (v : List ℕ). sets l (i + 1) (map stored v)) plain-below
        ∙ ap (sets l (i + 1)) (zeros-stored (count_at w (4 * i) - 1)) ∙ sets_same l (i + 1) (count_at w (4 * i) - 1) 0 z);
  }

pub plain-laid : (row w : List ℕ) (i : ℕ) → is_plain (kind_at w (4 * i)) ≡ true → (l : List ℕ) → Zeros l (i + 1) (count_at w (4 * i) - 1)
    → {x : Placed} → x ≡ placed_of (plain_extent row (kind_at w (4 * i))) true → Laid row w i l l x
plain-laid row w i h l z e = record {
  aligned = plain-positive row (kind_at w (4 * i)) e;
  as_long = refl;
  beyond = λ k g. refl;
  below = λ m o s. plain-laid-below row m o s w i h l z e;
}

-- ---- A container of kind `k`: what its fields make together.

end_step : (k e : ℕ) (x : Extent) (xs : List Extent) → end_of k e (x ∷ xs) ≡ end_of k (end_with k e x) xs
unfolding end_of end_with fields_end members_end
end_step k e x xs = go (eqb k 29)
  where
    go : (t : Bool) → cond t (fields_end (next_multiple x.alignment e + x.bytes) xs) (max e (max x.bytes (members_end xs)))
        ≡ cond t (fields_end (cond t (next_multiple x.alignment e + x.bytes) (max e x.bytes)) xs) (max (cond t (next_multiple x.alignment e + x.bytes) (max e x.bytes)) (members_end xs))
    go true = refl
    go false = omega arith

end_none : (k e : ℕ) → end_of k e [] ≡ e
unfolding end_of fields_end members_end
end_none k e = go (eqb k 29)
  where
    go : (t : Bool) → cond t e (max e 0) ≡ e
    go true = refl
    go false = omega arith

begin-side : (k e : ℕ) (x : Extent) → begins (side_of k) e x ≡ begin_in k e x
unfolding side_of begin_in
begin-side k e x = go (eqb k 29)
  where
    go : (t : Bool) → begins (cond t fields others) e x ≡ cond t (next_multiple x.alignment e) 0
    go true = refl
    go false = refl

side-step : (m : Widths) (k e : ℕ) (x : Extent) (ts : Trees) → offsets m (side_of k) (begins (side_of k) e x + x.bytes) ts ≡ offsets m (side_of k) (end_with k e x) ts
unfolding side_of end_with
side-step m k e x ts = go (eqb k 29)
  where
    go : (t : Bool) → offsets m (cond t fields others) (begins (cond t fields others) e x + x.bytes) ts
        ≡ offsets m (cond t fields others) (cond t (next_multiple x.alignment e + x.bytes) (max e x.bytes)) ts
    go true = refl
    go false = others-alike m (0 + x.bytes) (max e x.bytes) ts

pub alignments-positive : (xs : List Extent) → 0 < alignments xs
unfolding alignments
alignments-positive [] = omega arith
alignments-positive (x ∷ xs) = let h = alignments-positive xs in omega arith

-- The first of the fields, node `j`, and those after it.
module _ (m : Widths) (s w : List ℕ) (j n : ℕ) (p : 1 ≤ count_at w (4 * j)) (q : count_at w (4 * j) ≤ n) where
  extents-turn : extents m (trees s w n (4 * j)) ≡ extent_at m s w (4 * j) ∷ extents m (trees s w (n - count_at w (4 * j)) (4 * (j + count_at w (4 * j))))
  extents-turn = extents-step m s w (4 * j) n p q
      ∙ ap (λ (at : ℕ). extent_at m s w (4 * j) ∷ extents m (trees s w (n - count_at w (4 * j)) at)) (omega arith)

  offsets-turn : (k e : ℕ) → offsets m (side_of k) e (trees s w n (4 * j))
      ≡ begin_in k e (extent_at m s w (4 * j)) ∷ (offsets_below m s w (4 * j)
      ++ offsets m (side_of k) (end_with k e (extent_at m s w (4 * j))) (trees s w (n - count_at w (4 * j)) (4 * (j + count_at w (4 * j)))))
  offsets-turn k e = offsets-step m s w (4 * j) n p q (side_of k) e
      ∙ ap₂ (λ (b : ℕ) (r : List ℕ). b ∷ (offsets_below m s w (4 * j) ++ r)) (begin-side k e (extent_at m s w (4 * j)))
      (side-step m k e (extent_at m s w (4 * j)) (trees s w (n - count_at w (4 * j)) (4 * j + 4 * count_at w (4 * j)))
      ∙ ap (λ (at : ℕ). offsets m (side_of k) (end_with k e (extent_at m s w (4 * j))) (trees s w (n - count_at w (4 * j)) at)) (omega arith))

within-turn : (f lb : Bool) (l b : ℕ) (xs ys : List ℕ) → leb b l ≡ lb → ((f && (all_within l xs && lb)) && all_within l ys) ≡ (f && all_within l (b ∷ (xs ++ ys)))
unfolding all_within
within-turn f lb l b xs ys e = rw (within-append l xs ys, e) (go f lb (all_within l xs) (all_within l ys))
  where
    go : (f lb wb r : Bool) → ((f && (wb && lb)) && r) ≡ (f && (lb && (wb && r)))
    go false lb wb r = refl
    go true true true r = refl
    go true true false r = refl
    go true false true r = refl
    go true false false r = refl

-- A run of numbers stored behind the first, then the first, then those after it.
list-turn : (now mid : List ℕ) (j c b : ℕ) (xs ys : List ℕ) → 1 ≤ c → length xs ≡ c - 1 → mid ≡ sets now (j + 1) (map stored xs)
    → sets (set mid j (stored b)) (j + c) (map stored ys) ≡ sets now j (map stored (b ∷ (xs ++ ys)))
list-turn now mid j c b xs ys p e h =
    ap (λ (l : List ℕ). sets (set l j (stored b)) (j + c) (map stored ys)) h
    ∙ ap (λ (l : List ℕ). sets l (j + c) (map stored ys)) (set-sets now j (stored b) (j + 1) (map stored xs) (omega arith) ∙ ap (λ (i : ℕ). sets (set now j (stored b)) i (map stored xs)) (omega arith))
    ∙ ap (λ (i : ℕ). sets (sets (set now j (stored b)) (suc j) (map stored xs)) i (map stored ys)) (let l = map-length stored xs in omega arith)
    ∙ sym (sets-append (set now j (stored b)) (suc j) (map stored xs) (map stored ys))
    ∙ ap (sets (set now j (stored b)) (suc j)) (sym (map-append stored xs ys))

aligned-as : (x : Placed) (z : Extent) (t : Bool) → x ≡ placed_of z t → 0 < x.alignment → 0 < z.alignment
unfolding placed_of
aligned-as x z t h p = subst (λ (n : ℕ). 0 < n) (ap (λ (u : Placed). u.alignment) h) p

begin-is : (k : ℕ) (run x : Placed) (d a : ℕ) (f : Bool) (z : Extent) (t : Bool) → run ≡ placed_of (record { bytes = d; alignment = a }) f → x ≡ placed_of z t → 0 < z.alignment
    → stored_of (begin_measured k run.bytes x.alignment) ≡ stored (begin_in k d z)
unfolding placed_of
begin-is k run x d a f z t h i p =
    ap₂ (λ (u v : Placed). stored_of (begin_measured k u.bytes v.alignment)) h i ∙ ap stored_of (begin-fit k d z p) ∙ stored-fit (begin_in k d z)

module _ {row w : List ℕ} {k first total : ℕ} {entry : List ℕ} where
  pub filling-start : TreesAt w (4 * first) total → first + total ≤ length entry → Zeros entry first total → {run : Placed} → run ≡ placed_of no_room true
      → Filling row w k first total entry entry first total run
  unfolding end_of placed_of
  filling-start t r z {run} e = record {
    there = t;
    begun = omega arith;
    goes_on = refl;
    room = r;
    as_long = refl;
    beyond = λ i h. refl;
    zeros = z;
    positive = positive-run run e;
    gathers = λ m o s. record {
      ended = 0;
      aligned = 1;
      fitted = true;
      takes = e;
      ends = refl;
      aligns = one (extents m (trees s w total (4 * first)));
      fits = refl;
      leads = λ h. absurd (omega arith);
      list = refl;
    };
  }
    where
      positive-run : (run : Placed) → run ≡ placed_of no_room true → 0 < run.alignment
      positive-run run e = subst (λ (x : Placed). 0 < x.alignment) (sym e) (omega arith)

      one : (xs : List Extent) → max 1 (alignments xs) ≡ alignments xs
      one xs = let h = alignments-positive xs in omega arith

  module _ {now : List ℕ} {j n : ℕ} {run : Placed} (g : Filling row w k first total entry now j n run) (p : 0 < n) where
    pub filling-node : NodeAt w (4 * j)
    filling-node = first-node w (4 * j) n g.there p

    pub filling-within : (1 ≤ count_at w (4 * j)) × (count_at w (4 * j) ≤ n) × (4 * j + 4 * n ≤ length w) × (j + n ≤ length now)
    filling-within =
        let a = g.goes_on in let b = g.room in let c = g.as_long in
        (first_some w (4 * j) n g.there p, first-within w (4 * j) n g.there p, g.there.room, omega arith)

    pub filling-zeros : Zeros now (j + 1) (count_at w (4 * j) - 1)
    filling-zeros i h =
        let b = filling-within in
        ap (λ (x : ℕ). get_or now x 0) (omega arith) ∙ g.zeros (i + 1) (omega arith)

    -- A field more: `mid` is the list after the walk of the field, and `after` with the field's own number.
    module _ (x : Placed) (mid after : List ℕ) (laid : Laid row w j now mid x)
        (put : after ≡ set mid j (stored_of (begin_measured k run.bytes x.alignment)))
        {y : Placed} (e : y ≡ with_field k run x) where
      after-beyond : (i : ℕ) → j + count_at w (4 * j) ≤ i → get_or after i 0 ≡ get_or now i 0
      after-beyond i h =
          let b = filling-within in
          ap (λ (l : List ℕ). get_or l i 0) put ∙ get_or-set_other mid j i _ 0 (λ q. omega arith) ∙ laid.beyond i h

      -- The first field's alignment is positive once it has been put.
      lead_is : (m : Widths) (s : List ℕ) → 1 ≤ count_at w (4 * j) → count_at w (4 * j) ≤ n → 0 < (extent_at m s w (4 * j)).alignment → total ≤ n
          → 0 < (only_extent (extents m (trees s w total (4 * first)))).alignment
      unfolding only_extent
      lead_is m s a b ph h =
          let c = g.goes_on in
          let d = g.begun in
          let e₁ : total ≡ n = omega arith in
          let e₂ : first ≡ j = omega arith in
          subst (λ (z : Extent). 0 < z.alignment)
          (sym (ap only_extent (ap₂ (λ (x y : ℕ). extents m (trees s w x (4 * y))) e₁ e₂ ∙ extents-turn m s w j n a b))) ph

      leads-on : {A : Type 0} (t : Bool) → ltb n total ≡ t → (n < total → A) → (total ≤ n → A) → A
      leads-on true e f h = f (ltb-true n total e)
      leads-on false e f h = h (ltb-false n total e)

      turn-gathers : (m : Widths) → RowOf row m → (s : List ℕ) → Gathers m s w k first total entry after (j + count_at w (4 * j)) (n - count_at w (4 * j)) y
      unfolding alignments
      turn-gathers m o s =
          let b = filling-within in
          let q = g.gathers m o s in
          let l = laid.below m o s in
          let here = extent_at m s w (4 * j) in
          let xs = extents-turn m s w j n b.0 b.1 in
          let os = offsets-turn m s w j n b.0 b.1 k q.ended in
          let ph : 0 < here.alignment = aligned-as x here _ l.takes laid.aligned in
          record {
            ended = end_with k q.ended here;
            aligned = max q.aligned here.alignment;
            fitted = q.fitted && (all_within max_u64 (offsets_below m s w (4 * j)) && leb (begin_in k q.ended here) max_u64);
            takes = e ∙ ap₂ (with_field k) q.takes l.takes ∙ with-field k _ here q.fitted _ ph;
            ends = sym (ap (end_of k q.ended) xs ∙ end_step k q.ended here _) ∙ q.ends;
            aligns = regroup q.aligned here.alignment (alignments (extents m (trees s w (n - count_at w (4 * j)) (4 * (j + count_at w (4 * j)))))) ∙ sym (ap (λ (z : List Extent). max q.aligned (alignments z)) xs) ∙ q.aligns;
            fits = within-turn q.fitted (leb (begin_in k q.ended here) max_u64) max_u64 (begin_in k q.ended here) (offsets_below m s w (4 * j))
                (offsets m (side_of k) (end_with k q.ended here) (trees s w (n - count_at w (4 * j)) (4 * (j + count_at w (4 * j))))) refl
                ∙ sym (ap (λ (z : List ℕ). q.fitted && all_within max_u64 z) os) ∙ q.fits;
            leads = λ h. leads-on (ltb n total) refl q.leads (lead_is m s b.0 b.1 ph);
            list = ap (λ (z : List ℕ). sets z (j + count_at w (4 * j))
                (map stored (offsets m (side_of k) (end_with k q.ended here) (trees s w (n - count_at w (4 * j)) (4 * (j + count_at w (4 * j)))))))
                (put ∙ ap (set mid j) (begin-is k run x q.ended q.aligned q.fitted here _ q.takes l.takes ph))
                ∙ list-turn now mid j (count_at w (4 * j)) (begin_in k q.ended here) (offsets_below m s w (4 * j))
                (offsets m (side_of k) (end_with k q.ended here) (trees s w (n - count_at w (4 * j)) (4 * (j + count_at w (4 * j))))) b.0 (below_length m s w (4 * j)) l.list
                ∙ sym (ap (λ (z : List ℕ). sets now j (map stored z)) os) ∙ q.list;
          }
        where
          regroup : (a c d : ℕ) → max (max a c) d ≡ max a (max c d)
          regroup a c d = omega arith

      pub filling-turn : Filling row w k first total entry after (j + count_at w (4 * j)) (n - count_at w (4 * j)) y
      unfolding with_field
      filling-turn =
          let b = filling-within in
          let i = g.goes_on in
          let q = g.positive in
          record {
            there = subst (λ (at : ℕ). TreesAt w at (n - count_at w (4 * j))) (omega arith) (other-trees w (4 * j) n g.there p);
            begun = let d = g.begun in omega arith;
            goes_on = omega arith;
            room = g.room;
            as_long = ap length put ∙ length-set mid j _ ∙ laid.as_long ∙ g.as_long;
            beyond = λ z h. after-beyond z (omega arith) ∙ g.beyond z h;
            zeros = λ z h. after-beyond (j + count_at w (4 * j) + z) (omega arith) ∙ ap (λ (u : ℕ). get_or now u 0) (omega arith) ∙ g.zeros (count_at w (4 * j) + z) (omega arith);
            positive = subst (λ (u : Placed). 0 < u.alignment) (sym e) (omega arith);
            gathers = turn-gathers;
          }

-- ---- Nodes that hold something inside.

pub no-offsets : (m : Widths) (k : Side) (e : ℕ) (s w : List ℕ) (n at : ℕ) → n ≤ 0 → offsets m k e (trees s w n at) ≡ []
unfolding offsets
no-offsets m k e s w n at h = ap (offsets m k e) (no-trees s w n at h)

-- One of two kinds that stand side by side.
by_two : (P : ℕ → Type 0) (n : ℕ) → P n → P (n + 1) → (k : ℕ) → n ≤ k → k ≤ n + 1 → P k
by_two P n a b k lo hi = go (eqb k n) refl
  where
    next : (k ≡ n → ⊥) → n + 1 ≡ k
    next h = omega arith

    go : (t : Bool) → eqb k n ≡ t → P k
    go true e = subst P (sym (eqb-true k n e)) a
    go false e = subst P (next (eqb-false k n e)) b

-- What an atomic, or an array of `n`, makes of what it holds.
held_extent : ℕ → ℕ → Extent → Extent
held_extent k n x = record { bytes = cond (eqb k 28) (n * x.bytes) x.bytes; alignment = x.alignment }

module _ (m : Widths) (s : List ℕ) (a b : ℕ) where
  label-held : (x : Extent) (k : ℕ) → 27 ≤ k → k ≤ 28 → node_extent m (label s k a b) (x ∷ []) ≡ held_extent k a x
  unfolding node_extent only_extent held_extent
  label-held x k lo hi = by_two (λ j. node_extent m (label s j a b) (x ∷ []) ≡ held_extent j a x) 27 (rw (label-atomic s 27 a b refl)) (rw (label-array s 28 a b refl)) k lo hi

  label-item : (cs : Trees) (k : ℕ) → 27 ≤ k → k ≤ 28 → cond (holds_inside (label s k a b)) (offsets m (in_node (label s k a b)) 0 cs) (replicate (count cs) 0) ≡ offsets m others 0 cs
  unfolding holds_inside in_node
  label-item cs k lo hi = by_two (λ j. cond (holds_inside (label s j a b)) (offsets m (in_node (label s j a b)) 0 cs) (replicate (count cs) 0) ≡ offsets m others 0 cs) 27
      (rw (label-atomic s 27 a b refl)) (rw (label-array s 28 a b refl)) k lo hi

  label-fields : (xs : List Extent) (k : ℕ) → 29 ≤ k → k ≤ 30 → node_extent m (label s k a b) xs ≡ record { bytes = next_multiple (alignments xs) (end_of k 0 xs); alignment = alignments xs }
  unfolding node_extent end_of
  label-fields xs k lo hi = by_two (λ j. node_extent m (label s j a b) xs ≡ record { bytes = next_multiple (alignments xs) (end_of j 0 xs); alignment = alignments xs }) 29
      (rw (label-struct s 29 a b refl)) (rw (label-union s 30 a b refl, max-from-zero (members_end xs))) k lo hi
    where
      max-from-zero : (n : ℕ) → max 0 n ≡ n
      max-from-zero n = omega arith

  label-inner : (cs : Trees) (k : ℕ) → 29 ≤ k → k ≤ 30 → cond (holds_inside (label s k a b)) (offsets m (in_node (label s k a b)) 0 cs) (replicate (count cs) 0) ≡ offsets m (side_of k) 0 cs
  unfolding holds_inside in_node side_of
  label-inner cs k lo hi = by_two (λ j. cond (holds_inside (label s j a b)) (offsets m (in_node (label s j a b)) 0 cs) (replicate (count cs) 0) ≡ offsets m (side_of j) 0 cs) 29
      (rw (label-struct s 29 a b refl)) (rw (label-union s 30 a b refl)) k lo hi

held-placed : (k n : ℕ) (x : Extent) (f : Bool) → held_by k n (placed_of x f) ≡ placed_of (held_extent k n x) f
unfolding held_by placed_of held_extent
held-placed k n x f = ap (λ b. record { bytes = b; alignment = x.alignment; fits = f }) (go (eqb k 28))
  where
    go : (t : Bool) → cond t (times_measured n (fit x.bytes)) (fit x.bytes) ≡ fit (cond t (n * x.bytes) x.bytes)
    go true = times-fit n x.bytes
    go false = refl

-- An atomic or an array, node `i`, and what it holds.
module _ (m : Widths) (s w : List ℕ) (i : ℕ) (h : NodeAt w (4 * i)) (lo : 27 ≤ kind_at w (4 * i)) (hi : kind_at w (4 * i) ≤ 28) where
  child : NodeAt w (4 * i + 4)
  child = node-child w (4 * i) h (omega arith) hi

  counts : count_at w (4 * i) ≡ count_at w (4 * i + 4) + 1
  counts = child-count w (4 * i) h (omega arith) hi

  item-extents : extents m (inside_at s w (4 * i)) ≡ extent_at m s w (4 * (i + 1)) ∷ []
  unfolding extents
  item-extents =
      let c = counts in
      extents-step m s w (4 * i + 4) (count_at w (4 * i) - 1) child.some-node (omega arith)
      ∙ ap₂ (λ (at : ℕ) (xs : List Extent). extent_at m s w at ∷ xs) (omega arith) (ap (extents m) (no-trees s w _ _ (omega arith)))

  item-offsets : offsets m others 0 (inside_at s w (4 * i)) ≡ 0 ∷ offsets_below m s w (4 * (i + 1))
  item-offsets =
      let c = counts in
      offsets-step m s w (4 * i + 4) (count_at w (4 * i) - 1) child.some-node (omega arith) others 0
      ∙ ap (λ (xs : List ℕ). 0 ∷ (offsets_below m s w (4 * i + 4) ++ xs)) (no-offsets m others _ s w _ _ (omega arith))
      ∙ ap (λ (xs : List ℕ). 0 ∷ xs) (append-nil (offsets_below m s w (4 * i + 4)))
      ∙ ap (λ (at : ℕ). 0 ∷ offsets_below m s w at) (omega arith)

  held-extent : extent_at m s w (4 * i) ≡ held_extent (kind_at w (4 * i)) (first_at w (4 * i)) (extent_at m s w (4 * (i + 1)))
  unfolding extent_at
  held-extent =
      ap (node_extent m (label_at s w (4 * i))) item-extents
      ∙ label-held m s (first_at w (4 * i)) (second_at w (4 * i)) (extent_at m s w (4 * (i + 1))) (kind_at w (4 * i)) lo hi

  held_below : offsets_below m s w (4 * i) ≡ 0 ∷ offsets_below m s w (4 * (i + 1))
  unfolding offsets_below
  held_below = label-item m s (first_at w (4 * i)) (second_at w (4 * i)) (inside_at s w (4 * i)) (kind_at w (4 * i)) lo hi ∙ item-offsets

  held-below-laid : (entry exit : List ℕ) → Zeros entry (i + 1) (count_at w (4 * i) - 1) → {x : Placed} → LaidBelow m s w (i + 1) entry exit x
      → {r : Placed} → r ≡ held_by (kind_at w (4 * i)) (first_at w (4 * i)) x → LaidBelow m s w i entry exit r
  unfolding all_within stored
  held-below-laid entry exit z {x} l {r} e = record {
    takes = e ∙ ap (held_by (kind_at w (4 * i)) (first_at w (4 * i))) l.takes
        ∙ held-placed (kind_at w (4 * i)) (first_at w (4 * i)) (extent_at m s w (4 * (i + 1))) (all_within max_u64 (offsets_below m s w (4 * (i + 1))))
        ∙ ap₂ placed_of (sym held-extent) (sym (ap (all_within max_u64) held_below));
    list = l.list
        ∙ ap₂ (λ (t : List ℕ) (j : ℕ). sets t j (map stored (offsets_below m s w (4 * (i + 1))))) (sym zero-there) (omega arith)
        ∙ sym (ap (λ (v : List ℕ). sets entry (i + 1) (map stored v)) held_below);
  }
    where
      zero-there : set entry (i + 1) 0 ≡ entry
      zero-there =
          let c = counts in
          let d = child.some-node in
          ap (set entry (i + 1)) (sym (ap (λ (j : ℕ). get_or entry j 0) (omega arith) ∙ z 0 (omega arith))) ∙ set-get_or entry (i + 1) 0

pub held-laid : (row w : List ℕ) (i : ℕ) → NodeAt w (4 * i) → 27 ≤ kind_at w (4 * i) → kind_at w (4 * i) ≤ 28 → (entry exit : List ℕ)
    → Zeros entry (i + 1) (count_at w (4 * i) - 1) → {x : Placed} → Laid row w (i + 1) entry exit x → {r : Placed} → r ≡ held_by (kind_at w (4 * i)) (first_at w (4 * i)) x
    → Laid row w i entry exit r
held-laid row w i h lo hi entry exit z {x} l e =
    let c : count_at w (4 * i) ≡ count_at w (4 * (i + 1)) + 1 = child-count w (4 * i) h (omega arith) hi ∙ ap (λ (at : ℕ). count_at w at + 1) (omega arith) in
    record {
      aligned = held-positive (kind_at w (4 * i)) (first_at w (4 * i)) x e l.aligned;
      as_long = l.as_long;
      beyond = λ k g. l.beyond k (omega arith);
      below = λ m o s. held-below-laid m s w i h lo hi entry exit z (l.below m o s) e;
    }

-- ---- A container, node `i`, whose fields have all been put.

module _ (row w : List ℕ) (i : ℕ) (lo : 29 ≤ kind_at w (4 * i)) (hi : kind_at w (4 * i) ≤ 30) {entry now : List ℕ} {j n : ℕ} {run : Placed}
    (g : Filling row w (kind_at w (4 * i)) (i + 1) (count_at w (4 * i) - 1) entry now j n run) (h : n ≤ 0) where
  module _ (m : Widths) (o : RowOf row m) (s : List ℕ) where
    inside_is : trees s w (count_at w (4 * i) - 1) (4 * (i + 1)) ≡ inside_at s w (4 * i)
    inside_is = ap (trees s w (count_at w (4 * i) - 1)) (omega arith)

    fields-extent : extent_at m s w (4 * i) ≡ record {
      bytes = next_multiple (alignments (extents m (trees s w (count_at w (4 * i) - 1) (4 * (i + 1))))) (end_of (kind_at w (4 * i)) 0 (extents m (trees s w (count_at w (4 * i) - 1) (4 * (i + 1)))));
      alignment = alignments (extents m (trees s w (count_at w (4 * i) - 1) (4 * (i + 1))));
    }
    unfolding extent_at
    fields-extent = ap (λ (ts : Trees). node_extent m (label_at s w (4 * i)) (extents m ts)) (sym inside_is)
        ∙ label-fields m s (first_at w (4 * i)) (second_at w (4 * i)) (extents m (trees s w (count_at w (4 * i) - 1) (4 * (i + 1)))) (kind_at w (4 * i)) lo hi

    fields-below : offsets_below m s w (4 * i) ≡ offsets m (side_of (kind_at w (4 * i))) 0 (trees s w (count_at w (4 * i) - 1) (4 * (i + 1)))
    unfolding offsets_below
    fields-below = label-inner m s (first_at w (4 * i)) (second_at w (4 * i)) (inside_at s w (4 * i)) (kind_at w (4 * i)) lo hi
        ∙ ap (offsets m (side_of (kind_at w (4 * i))) 0) (sym inside_is)

    end_below : {r : Placed} → r ≡ closed run → LaidBelow m s w i entry now r
    unfolding extents offsets alignments all_within
    end_below {r} e =
        let q = g.gathers m o s in
        let none : trees s w n (4 * j) ≡ end = no-trees s w n (4 * j) h in
        let pa : 0 < q.aligned = aligned-as run _ q.fitted q.takes g.positive in
        let es = sym (end_none (kind_at w (4 * i)) q.ended) ∙ sym (ap (λ (t : Trees). end_of (kind_at w (4 * i)) q.ended (extents m t)) none) ∙ q.ends in
        let al = sym (at_least_one q.aligned pa) ∙ sym (ap (λ (t : Trees). max q.aligned (alignments (extents m t))) none) ∙ q.aligns in
        let fs = sym (and-true q.fitted) ∙ sym (ap (λ (t : Trees). q.fitted && all_within max_u64 (offsets m (side_of (kind_at w (4 * i))) q.ended t)) none) ∙ q.fits in
        record {
          takes = e ∙ ap closed q.takes ∙ closed-fit (record { bytes = q.ended; alignment = q.aligned }) q.fitted pa
              ∙ ap₂ placed_of (ap₂ (λ (a d : ℕ). record { bytes = next_multiple a d; alignment = a }) al es ∙ sym fields-extent) (fs ∙ sym (ap (all_within max_u64) fields-below));
          list = sym (ap (λ (t : Trees). sets now j (map stored (offsets m (side_of (kind_at w (4 * i))) q.ended t))) none) ∙ q.list
              ∙ sym (ap (λ (v : List ℕ). sets entry (i + 1) (map stored v)) fields-below);
        }
      where
        at_least_one : (a : ℕ) → 0 < a → max a 1 ≡ a
        at_least_one a p = omega arith

  pub filling-end : 1 ≤ count_at w (4 * i) → {r : Placed} → r ≡ closed run → Laid row w i entry now r
  filling-end c e = record {
    aligned = closed-positive run e g.positive;
    as_long = g.as_long;
    beyond = λ k p. g.beyond k (omega arith);
    below = λ m o s. end_below m o s e;
  }

-- ---- An atomic or an array, node `i`, whose item has been put.

module _ (row w : List ℕ) (i : ℕ) (stands : NodeAt w (4 * i)) (lo : 27 ≤ kind_at w (4 * i)) (hi : kind_at w (4 * i) ≤ 28) {entry now : List ℕ} {j n : ℕ} {run : Placed}
    (g : Filling row w (kind_at w (4 * i)) (i + 1) (count_at w (4 * i) - 1) entry now j n run) (h : n ≤ 0) where
  module _ (m : Widths) (o : RowOf row m) (s : List ℕ) where
    here-is : trees s w (count_at w (4 * i) - 1) (4 * (i + 1)) ≡ inside_at s w (4 * i)
    here-is = ap (trees s w (count_at w (4 * i) - 1)) (omega arith)

    item-is : extents m (trees s w (count_at w (4 * i) - 1) (4 * (i + 1))) ≡ extent_at m s w (4 * (i + 1)) ∷ []
    item-is = ap (extents m) here-is ∙ item-extents m s w i stands lo hi

    item-below : offsets_below m s w (4 * i) ≡ offsets m (side_of (kind_at w (4 * i))) 0 (trees s w (count_at w (4 * i) - 1) (4 * (i + 1)))
    unfolding offsets_below side_of
    item-below = label-item m s (first_at w (4 * i)) (second_at w (4 * i)) (inside_at s w (4 * i)) (kind_at w (4 * i)) lo hi
        ∙ rw (ne_eqb (kind_at w (4 * i)) 29 (λ e. omega arith)) (ap (offsets m others 0) (sym here-is))

    item-end : end_of (kind_at w (4 * i)) 0 (extent_at m s w (4 * (i + 1)) ∷ []) ≡ (extent_at m s w (4 * (i + 1))).bytes
    unfolding end_of members_end
    item-end = rw (ne_eqb (kind_at w (4 * i)) 29 (λ e. omega arith)) (omega arith)

    held-end-below : {r : Placed} → r ≡ held_by (kind_at w (4 * i)) (first_at w (4 * i)) run → LaidBelow m s w i entry now r
    unfolding extents offsets alignments all_within only_extent
    held-end-below {r} e =
        let q = g.gathers m o s in
        let none : trees s w n (4 * j) ≡ end = no-trees s w n (4 * j) h in
        let pa : 0 < q.aligned = aligned-as run _ q.fitted q.takes g.positive in
        let c : count_at w (4 * i) ≡ count_at w (4 * i + 4) + 1 = child-count w (4 * i) stands (omega arith) hi in
        let d = (node-child w (4 * i) stands (omega arith) hi).some-node in
        let px : 0 < (extent_at m s w (4 * (i + 1))).alignment = subst (λ (xs : List Extent). 0 < (only_extent xs).alignment) item-is (q.leads (omega arith)) in
        let es = sym (end_none (kind_at w (4 * i)) q.ended) ∙ sym (ap (λ (t : Trees). end_of (kind_at w (4 * i)) q.ended (extents m t)) none) ∙ q.ends
        ∙ ap (end_of (kind_at w (4 * i)) 0) item-is ∙ item-end in
        let al = sym (at_least_one q.aligned pa) ∙ sym (ap (λ (t : Trees). max q.aligned (alignments (extents m t))) none) ∙ q.aligns
        ∙ ap alignments item-is ∙ at_least_one (extent_at m s w (4 * (i + 1))).alignment px in
        let fs = sym (and-true q.fitted) ∙ sym (ap (λ (t : Trees). q.fitted && all_within max_u64 (offsets m (side_of (kind_at w (4 * i))) q.ended t)) none) ∙ q.fits in
        record {
          takes = e ∙ ap (held_by (kind_at w (4 * i)) (first_at w (4 * i))) q.takes
              ∙ held-placed (kind_at w (4 * i)) (first_at w (4 * i)) (record { bytes = q.ended; alignment = q.aligned }) q.fitted
              ∙ ap₂ placed_of (ap₂ (λ (x y : ℕ). held_extent (kind_at w (4 * i)) (first_at w (4 * i)) (record { bytes = x; alignment = y })) es al ∙ sym (held-extent m s w i stands lo hi))
              (fs ∙ sym (ap (all_within max_u64) item-below));
          list = sym (ap (λ (t : Trees). sets now j (map stored (offsets m (side_of (kind_at w (4 * i))) q.ended t))) none) ∙ q.list
              ∙ sym (ap (λ (v : List ℕ). sets entry (i + 1) (map stored v)) item-below);
        }
      where
        at_least_one : (a : ℕ) → 0 < a → max a 1 ≡ a
        at_least_one a p = omega arith

  held-end : 1 ≤ count_at w (4 * i) → {r : Placed} → r ≡ held_by (kind_at w (4 * i)) (first_at w (4 * i)) run → Laid row w i entry now r
  held-end c e = record {
    aligned = held-positive (kind_at w (4 * i)) (first_at w (4 * i)) run e g.positive;
    as_long = g.as_long;
    beyond = λ k p. g.beyond k (omega arith);
    below = λ m o s. held-end-below m o s e;
  }

-- Any node that holds something inside, whose children have all been put.
pub walk_end : (row w : List ℕ) (i : ℕ) → NodeAt w (4 * i) → 27 ≤ kind_at w (4 * i) → kind_at w (4 * i) ≤ 30 → {entry now : List ℕ} {j n : ℕ} {run : Placed}
    → Filling row w (kind_at w (4 * i)) (i + 1) (count_at w (4 * i) - 1) entry now j n run → n ≤ 0 → {r : Placed} → r ≡ ended_by (kind_at w (4 * i)) (first_at w (4 * i)) run
    → Laid row w i entry now r
unfolding ended_by
walk_end row w i stands lo hi {entry} {now} {j} {n} {run} g h {r} e = go (ltb (kind_at w (4 * i)) 29) refl
  where
    low : kind_at w (4 * i) < 29 → kind_at w (4 * i) ≤ 28
    low p = omega arith

    go : (t : Bool) → ltb (kind_at w (4 * i)) 29 ≡ t → Laid row w i entry now r
    go true d = held-end row w i stands lo (low (ltb-true (kind_at w (4 * i)) 29 d)) g h stands.some-node (e ∙ rw d)
    go false d = filling-end row w i (ltb-false (kind_at w (4 * i)) 29 d) hi g h stands.some-node (e ∙ rw d)

-- What the walk of what an atomic or an array holds asks for.
pub held_asks : (w : List ℕ) (i : ℕ) (l : List ℕ) → NodeAt w (4 * i) → 27 ≤ kind_at w (4 * i) → kind_at w (4 * i) ≤ 28 → Zeros l (i + 1) (count_at w (4 * i) - 1)
    → NodeAt w (4 * (i + 1)) × (count_at w (4 * i) ≡ count_at w (4 * (i + 1)) + 1) × Zeros l (i + 1 + 1) (count_at w (4 * (i + 1)) - 1)
held_asks w i l h lo hi z =
    let e : 4 * i + 4 ≡ 4 * (i + 1) = omega arith in
    let c : count_at w (4 * i) ≡ count_at w (4 * (i + 1)) + 1 = child-count w (4 * i) h (omega arith) hi ∙ ap (λ (at : ℕ). count_at w at + 1) e in
    (subst (NodeAt w) e (node-child w (4 * i) h (omega arith) hi), c, λ k g. ap (λ (j : ℕ). get_or l j 0) (omega arith) ∙ z (k + 1) (omega arith))

-- ---- Nodes that are plain, or hold one that is.

pub not-simple : (w : List ℕ) (at : ℕ) → is_simple w at ≡ false → is_plain (kind_at w at) ≡ false
unfolding is_simple
not-simple w at h = go (is_plain (kind_at w at)) refl h
  where
    go : (t : Bool) → is_plain (kind_at w at) ≡ t → (t || (leb (kind_at w at) 28 && is_plain (kind_at w (at + 4)))) ≡ false → t ≡ false
    go true e d = absurd (false≢true (sym d))
    go false e d = refl

-- What holds a plain node directly.
pub simple-held : (w : List ℕ) (at : ℕ) → is_simple w at ≡ true → is_plain (kind_at w at) ≡ false → (27 ≤ kind_at w at) × (kind_at w at ≤ 28) × (is_plain (kind_at w (at + 4)) ≡ true)
unfolding is_simple
simple-held w at h e =
    let g : (leb (kind_at w at) 28 && is_plain (kind_at w (at + 4))) ≡ true = rw e at h in
    ((not_plain (kind_at w at) e).0, leb-true (kind_at w at) 28 (both_left (leb (kind_at w at) 28) _ g), both_right (leb (kind_at w at) 28) _ g)

pub simple-laid : (row w : List ℕ) (i : ℕ) → NodeAt w (4 * i) → is_simple w (4 * i) ≡ true → (l : List ℕ) → Zeros l (i + 1) (count_at w (4 * i) - 1)
    → {x : Placed} → x ≡ simple_placed row w (4 * i) → Laid row w i l l x
unfolding simple_placed
simple-laid row w i h q l z {x} e = go (is_plain (kind_at w (4 * i))) refl
  where
    next : 4 * i + 4 ≡ 4 * (i + 1)
    next = omega arith

    go : (t : Bool) → is_plain (kind_at w (4 * i)) ≡ t → Laid row w i l l x
    go true d = plain-laid row w i d l z (e ∙ rw d)
    go false d =
        let k = simple-held w (4 * i) q d in
        let a = held_asks w i l h k.0 k.1 z in
        held-laid row w i h k.0 k.1 l l z
        (plain-laid row w (i + 1) (ap (λ (at : ℕ). is_plain (kind_at w at)) (sym next) ∙ k.2) l a.2 refl)
        (e ∙ rw d (ap (λ (at : ℕ). held_by (kind_at w (4 * i)) (first_at w (4 * i)) (placed_of (plain_extent row (kind_at w at)) true)) next))

pub laid_as : {row w : List ℕ} {i : ℕ} {entry exit : List ℕ} {x : Placed} → Laid row w i entry exit x → {after : List ℕ} {y : Placed} → after ≡ exit → y ≡ x → Laid row w i entry after y
laid_as {row} {w} {i} {entry} {exit} {x} l {after} {y} e d =
    subst (λ (z : Placed). Laid row w i entry after z) (sym d) (subst (λ (v : List ℕ). Laid row w i entry v x) (sym e) l)
