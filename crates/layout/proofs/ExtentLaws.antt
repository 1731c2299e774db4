-- Laws of extents that are cut off at 2^64 - 1, and of the extents of nodes that hold nothing inside.
use Prim.Native.Nat.{ℕ, zero, suc, ◌+◌, ◌-◌, ◌*◌, ◌%◌, ◌≤◌, ◌<◌, max}
use native.Mathlib.Omega.{arith}
use mathlib.Core.Path.{◌≡◌, refl, ap, ap₂, sym, ◌∙◌, subst}
use mathlib.Core.List.{List, [], ◌∷◌, map}
use Rattle.std.specs.Prelude.{Option, Some, None, unwrap_or}
use mathlib.Core.Bool.{Bool, true, false, cond, ◌&&◌, ◌||◌, false≢true}
use borrow.Author.Tests.{leb-false, ltb-true, ltb-false, lt-ltb, le-ltb, ne_eqb, eqb-true, eqb-false}
use lib.Dec.{leb, ltb, eqb}
use lib.ListN.{length, get_or}
use Rattle.kinds.specs.Parse.{max_u64}
use Rattle.kinds.specs.Primitive.{Widths, primitive_size, entry}
use Rattle.kinds.specs.Sheet.{label}
use Rattle.kinds.proofs.NodeLaws.{label-primitive, label-bits, label-typed, label-pointer, label-none}
use Rattle.kinds.proofs.TableLaws.{every_below, pass_below}
use Rattle.helper.specs.Measure.{fit, clip, plus_measured, larger_measured, times_measured, RowOf}
use Rattle.helper.specs.declared.Measured.{Measured}
use Rattle.helper.specs.declared.Measured.TheVariants.{Bytes, TooLarge}
use Rattle.helper.proofs.SizeLaws.{fit-le, fit-gt, clip-plus, clip-larger, clip-times}
use Rattle.kinds.specs.Size.{plus, larger, times}
use Rattle.layout.specs.Layout.{next_multiple, Extent, no_room, primitive_alignment, primitive_extent, node_extent, holds_inside}
use Rattle.layout.specs.Placing.{next_measured, placed_of, stored, stored_of, is_bytes, is_plain, part_kind, plain_extent, begin_measured, with_field, closed, held_by}
use Rattle.layout.specs.declared.place.Placed.{Placed}
use Rattle.layout.proofs.MultipleLaws.{at_or_after, there-already, not_there, by-remainder}

-- ---- Cutting off goes with what is done to numbers.

pub next-fit : (a n : ℕ) → 0 < a → next_measured a (fit n) ≡ fit (next_multiple a n)
unfolding fit next_measured
next-fit a n p = go (leb n max_u64) refl
  where
    go : (t : Bool) → leb n max_u64 ≡ t → next_measured a (cond t (Bytes n) TooLarge) ≡ fit (next_multiple a n)
    go true e = refl
    go false e = let h = at_or_after a n p in let l = leb-false n max_u64 e in sym (fit-gt (next_multiple a n) (omega arith))

pub plus-fit : (m n : ℕ) → plus_measured (fit m) (fit n) ≡ fit (m + n)
unfolding clip plus
plus-fit m n = clip-plus (Some m) (Some n)

pub larger-fit : (m n : ℕ) → larger_measured (fit m) (fit n) ≡ fit (max m n)
unfolding clip larger
larger-fit m n = clip-larger (Some m) (Some n)

pub times-fit : (m n : ℕ) → times_measured m (fit n) ≡ fit (m * n)
unfolding clip times
times-fit m n = clip-times m (Some n)

pub stored-fit : (n : ℕ) → stored_of (fit n) ≡ stored n
unfolding fit stored
stored-fit n = go (leb n max_u64)
  where
    go : (t : Bool) → stored_of (cond t (Bytes n) TooLarge) ≡ cond t n 0
    go true = refl
    go false = refl

pub bytes_fit : (n : ℕ) → is_bytes (fit n) ≡ leb n max_u64
unfolding fit
bytes_fit n = go (leb n max_u64)
  where
    go : (t : Bool) → is_bytes (cond t (Bytes n) TooLarge) ≡ t
    go true = refl
    go false = refl

-- A number rounded up, by what is left over.
module _ (a n : ℕ) (p : 0 < a) where
  pub rounded-sum : {b r : ℕ} → b ≡ a → r ≡ (n + (b - 1)) % a → n + (b - 1) ≤ max_u64 → Bytes (n + (b - 1) - r) ≡ fit (next_multiple a n)
  rounded-sum {b} {r} e d h =
      let f : n + (b - 1) - r ≡ next_multiple a n = ap₂ (λ (x y : ℕ). x - y) (ap (λ (x : ℕ). n + (x - 1)) e) (d ∙ ap (λ (x : ℕ). (n + (x - 1)) % a) e) ∙ by-remainder a n in
      sym (ap fit (sym f) ∙ fit-le (n + (b - 1) - r) (omega arith))

  pub rounded-there : n ≤ max_u64 → {r : ℕ} → r ≡ n % a → r ≡ 0 → Bytes n ≡ fit (next_multiple a n)
  rounded-there h e z = sym (ap fit (there-already a n p (sym e ∙ z)) ∙ fit-le n h)

  pub rounded-up : {r b : ℕ} → r ≡ n % a → b ≡ a → (r ≡ 0 → ⊥) → n ≤ max_u64 - (b - r) → b - r ≤ max_u64 → Bytes (n + (b - r)) ≡ fit (next_multiple a n)
  rounded-up {r} {b} e f z h k = sym (ap fit (not_there a n p (some_left e z) ∙ ap₂ (λ (x y : ℕ). n + (x - y)) (sym f) (sym e)) ∙ fit-le (n + (b - r)) (omega arith))
    where
      some_left : r ≡ n % a → (r ≡ 0 → ⊥) → 0 < n % a
      some_left e z = omega arith

  pub rounded-over : {r b : ℕ} → r ≡ n % a → b ≡ a → (r ≡ 0 → ⊥) → max_u64 - (b - r) < n → TooLarge ≡ fit (next_multiple a n)
  rounded-over {r} {b} e f z h = sym (ap fit (not_there a n p (some_left e z) ∙ ap₂ (λ (x y : ℕ). n + (x - y)) (sym f) (sym e)) ∙ fit-gt (n + (b - r)) (omega arith))
    where
      some_left : r ≡ n % a → (r ≡ 0 → ⊥) → 0 < n % a
      some_left e z = omega arith

-- ---- What a container of kind `k` makes of a field more.

-- Where the field begins, and where the container ends with it.
unfoldable pub begin_in : ℕ → ℕ → Extent → ℕ
begin_in k e x = cond (eqb k 29) (next_multiple x.alignment e) 0

unfoldable pub end_with : ℕ → ℕ → Extent → ℕ
end_with k e x = cond (eqb k 29) (next_multiple x.alignment e + x.bytes) (max e x.bytes)

pub begin-fit : (k e : ℕ) (x : Extent) → 0 < x.alignment → begin_measured k (fit e) x.alignment ≡ fit (begin_in k e x)
unfolding begin_measured begin_in
begin-fit k e x p = go (eqb k 29)
  where
    go : (t : Bool) → cond t (next_measured x.alignment (fit e)) (Bytes 0) ≡ fit (cond t (next_multiple x.alignment e) 0)
    go true = next-fit x.alignment e p
    go false = sym (fit-le 0 (omega arith))

module _ (k : ℕ) (y x : Extent) (f g : Bool) (p : 0 < x.alignment) where
  pub with-field : with_field k (placed_of y f) (placed_of x g)
      ≡ placed_of (record { bytes = end_with k y.bytes x; alignment = max y.alignment x.alignment }) (f && (g && leb (begin_in k y.bytes x) max_u64))
  unfolding with_field placed_of end_with begin_in
  with-field = ap₂ (λ b t. record { bytes = b; alignment = max y.alignment x.alignment; fits = f && (g && t) }) (go (eqb k 29) refl)
      (ap is_bytes (begin-fit k y.bytes x p) ∙ bytes_fit (begin_in k y.bytes x))
    where
      go : (t : Bool) → eqb k 29 ≡ t → cond (eqb k 29) (plus_measured (begin_measured k (fit y.bytes) x.alignment) (fit x.bytes))
          (larger_measured (fit y.bytes) (fit x.bytes)) ≡ fit (end_with k y.bytes x)
      go true e = rw e (ap (λ z. plus_measured z (fit x.bytes)) (begin-fit k y.bytes x p ∙ rw e) ∙ plus-fit (next_multiple x.alignment y.bytes) x.bytes)
      go false e = rw e (larger-fit y.bytes x.bytes)

pub closed-fit : (y : Extent) (f : Bool) → 0 < y.alignment
    → closed (placed_of y f) ≡ placed_of (record { bytes = next_multiple y.alignment y.bytes; alignment = y.alignment }) f
unfolding closed placed_of
closed-fit y f p = ap (λ b. record { bytes = b; alignment = y.alignment; fits = f }) (next-fit y.alignment y.bytes p)

-- ---- Nodes that hold nothing inside.

part_kinds : List ℕ
part_kinds = 0 ∷ 1 ∷ 2 ∷ 3 ∷ 4 ∷ 5 ∷ 6 ∷ 7 ∷ 8 ∷ 9 ∷ 10 ∷ 11 ∷ 12 ∷ 10 ∷ 11 ∷ 12 ∷ 16 ∷ 17 ∷ 18 ∷ 19 ∷ 20 ∷ 21 ∷ 22 ∷ 23 ∷ []

right : ℕ → Bool
right k = eqb (get_or part_kinds k 0) (part_kind k)

all_right : every_below right 24 ≡ true
unfolding every_below right part_kinds part_kind
all_right = refl

get_d_map : (f : ℕ → Option ℕ) (xs : List ℕ) (k : ℕ) → k < length xs → get_or (map f xs) k None ≡ f (get_or xs k 0)
get_d_map f [] k h = absurd (omega arith)
get_d_map f (x ∷ xs) zero h = refl
get_d_map f (x ∷ xs) (suc k) h = get_d_map f xs k (omega arith)

alignment-list : (w : Widths) (k : ℕ) → primitive_alignment w k ≡ get_or (map (primitive_size w) part_kinds) k None
unfolding primitive_alignment primitive_size part_kinds
alignment-list w k = refl

kinds-long : (k : ℕ) → k < 24 → k < length part_kinds
unfolding part_kinds
kinds-long k h = h

part-alignment : (w : Widths) (k : ℕ) → k < 24 → primitive_alignment w k ≡ primitive_size w (part_kind k)
unfolding right
part-alignment w k h =
    alignment-list w k ∙ get_d_map (primitive_size w) part_kinds k (kinds-long k h)
    ∙ ap (primitive_size w) (eqb-true (get_or part_kinds k 0) (part_kind k) (pass_below right 24 all_right k h))

part_low : (k : ℕ) → k < 24 → part_kind k < 24
unfolding part_kind
part_low k h = go (leb 13 k && leb k 15)
  where
    go : (t : Bool) → cond t (k - 3) k < 24
    go true = omega arith
    go false = h

entry_zero : (n : ℕ) → unwrap_or (entry n) 0 ≡ n
unfolding entry
entry_zero zero = refl
entry_zero (suc n) = rw (ne_eqb (suc n) 0 (λ e. omega arith))

entry-one : (n : ℕ) → unwrap_or (entry n) 1 ≡ max 1 n
unfolding entry
entry-one zero = refl
entry-one (suc n) = rw (ne_eqb (suc n) 0 (λ e. omega arith)) (omega arith)

pub primitive-extent : (row : List ℕ) (m : Widths) → RowOf row m → (k : ℕ) → k < 24 → primitive_extent m k ≡ plain_extent row k
unfolding primitive_extent plain_extent
primitive-extent row m o k h =
    rw (lt-ltb k 24 h)
    (ap₂ (λ x y. record { bytes = x; alignment = y })
    (ap (λ z. unwrap_or z 0) (sym (o.codes k h)) ∙ entry_zero (get_or row k 0))
    (ap (λ z. unwrap_or z 1) (part-alignment m k h ∙ sym (o.codes (part_kind k) (part_low k h))) ∙ entry-one (get_or row (part_kind k) 0)))

module _ (row : List ℕ) (m : Widths) (o : RowOf row m) (s : List ℕ) where
  code-extent : (k a b : ℕ) (xs : List Extent) → k < 24 → node_extent m (label s k a b) xs ≡ plain_extent row k
  unfolding node_extent
  code-extent k a b xs h = rw (label-primitive s k a b h) (primitive-extent row m o k h)

  pointer-extent : (k a b : ℕ) (xs : List Extent) → k ≡ 26 → node_extent m (label s k a b) xs ≡ plain_extent row k
  unfolding node_extent plain_extent
  pointer-extent k a b xs e =
      rw (label-pointer s k a b e, e)
      (ap₂ (λ x y. record { bytes = x; alignment = y })
      (ap (λ z. unwrap_or z 0) (sym o.pointers) ∙ entry_zero (get_or row 18 0))
      (ap (λ z. unwrap_or z 1) (sym o.pointers) ∙ entry-one (get_or row 18 0)))

-- Kinds that hold nothing inside, one by one.
pub by-plain : (P : ℕ → Type 0) → ((k : ℕ) → k < 24 → P k) → P 24 → P 25 → P 26 → ((k : ℕ) → 30 < k → P k) → (k : ℕ) → is_plain k ≡ true → P k
unfolding is_plain
by-plain P codes a b c d k h = go (ltb k 24) refl (eqb k 24) refl (eqb k 25) refl (eqb k 26) refl (ltb 30 k) refl
  where
    go : (t : Bool) → ltb k 24 ≡ t → (u : Bool) → eqb k 24 ≡ u → (v : Bool) → eqb k 25 ≡ v → (x : Bool) → eqb k 26 ≡ x → (y : Bool) → ltb 30 k ≡ y → P k
    go true e u e₁ v e₂ x e₃ y e₄ = codes k (ltb-true k 24 e)
    go false e true e₁ v e₂ x e₃ y e₄ = subst P (sym (eqb-true k 24 e₁)) a
    go false e false e₁ true e₂ x e₃ y e₄ = subst P (sym (eqb-true k 25 e₂)) b
    go false e false e₁ false e₂ true e₃ y e₄ = subst P (sym (eqb-true k 26 e₃)) c
    go false e false e₁ false e₂ false e₃ true e₄ = d k (ltb-true 30 k e₄)
    go false e false e₁ false e₂ false e₃ false e₄ = absurd (no (ltb-false k 24 e) (eqb-false k 24 e₁) (eqb-false k 25 e₂) (eqb-false k 26 e₃))
      where
        no : 24 ≤ k → (k ≡ 24 → ⊥) → (k ≡ 25 → ⊥) → (k ≡ 26 → ⊥) → ⊥
        no p q r t =
            let z : (ltb k 27 || ltb 30 k) ≡ false = rw (le-ltb k 27 (omega arith), e₄) in
            false≢true (sym z ∙ h)

module _ (row : List ℕ) (m : Widths) (o : RowOf row m) (s : List ℕ) (a b : ℕ) where
  pub plain-extent : (k : ℕ) → is_plain k ≡ true → (xs : List Extent) → node_extent m (label s k a b) xs ≡ plain_extent row k
  unfolding node_extent plain_extent
  plain-extent k h xs =
      by-plain (λ j. node_extent m (label s j a b) xs ≡ plain_extent row j) (λ j p. code-extent row m o s j a b xs p)
      (rw (label-bits s 24 a b refl)) (rw (label-typed s 25 a b refl)) (pointer-extent row m o s 26 a b xs refl)
      (λ j p. rw (label-none s j a b p, le-ltb j 24 (omega arith), ne_eqb j 26 (λ e. omega arith))) k h

pub plain-inside : (s : List ℕ) (a b k : ℕ) → is_plain k ≡ true → holds_inside (label s k a b) ≡ false
unfolding holds_inside
plain-inside s a b k h =
    by-plain (λ j. holds_inside (label s j a b) ≡ false) (λ j p. rw (label-primitive s j a b p))
    (rw (label-bits s 24 a b refl)) (rw (label-typed s 25 a b refl)) (rw (label-pointer s 26 a b refl))
    (λ j p. rw (label-none s j a b p)) k h

-- ---- The same as the code finds it.

module _ (row : List ℕ) (k : ℕ) {b a : ℕ} (h : b ≤ max_u64) where
  pub placed-code : k < 24 → b ≡ get_or row k 0 → a ≡ max 1 (get_or row (part_kind k) 0)
      → ◌≡◌ {A = Placed} (record { bytes = Bytes b; alignment = a; fits = true }) (placed_of (plain_extent row k) true)
  unfolding placed_of plain_extent
  placed-code p e f = rw (lt-ltb k 24 p) (ap₂ (λ x y. record { bytes = x; alignment = y; fits = true }) (sym (fit-le b h) ∙ ap fit e) f)

  pub placed-pointer : k ≡ 26 → b ≡ get_or row 18 0 → a ≡ max 1 (get_or row 18 0)
      → ◌≡◌ {A = Placed} (record { bytes = Bytes b; alignment = a; fits = true }) (placed_of (plain_extent row k) true)
  unfolding placed_of plain_extent
  placed-pointer p e f = rw p (ap₂ (λ x y. record { bytes = x; alignment = y; fits = true }) (sym (fit-le b h) ∙ ap fit e) f)

pub placed-none : (row : List ℕ) (k : ℕ) → 24 ≤ k → (k ≡ 26 → ⊥) → placed_of no_room true ≡ placed_of (plain_extent row k) true
unfolding plain_extent
placed-none row k p q = rw (le-ltb k 24 p, ne_eqb k 26 q)

pub part-below : (k : ℕ) {p : ℕ} → k < 24 → p ≡ part_kind k → p < 24
part-below k h e = let l = part_low k h in omega arith

pub plain-aligned : (row : List ℕ) (k : ℕ) → 0 < (plain_extent row k).alignment
unfolding plain_extent
plain-aligned row k = go (ltb k 24) (eqb k 26)
  where
    go : (t u : Bool) → 0 < (cond t (record { bytes = get_or row k 0; alignment = max 1 (get_or row (part_kind k) 0) })
        (cond u (record { bytes = get_or row 18 0; alignment = max 1 (get_or row 18 0) }) no_room)).alignment
    go true u = omega arith
    go false true = omega arith
    go false false = omega arith

pub field-added : (k : ℕ) (run x : Placed) {b n : Measured} {al : ℕ} {y t f : Bool} → b ≡ begin_measured k run.bytes x.alignment
    → n ≡ cond (eqb k 29) (plus_measured b x.bytes) (larger_measured run.bytes x.bytes) → al ≡ max run.alignment x.alignment → y ≡ is_bytes b
    → t ≡ (x.fits && y) → f ≡ (run.fits && t) → ◌≡◌ {A = Placed} (record { bytes = n; alignment = al; fits = f }) (with_field k run x)
unfolding with_field
field-added k run x e₁ e₂ e₃ e₄ e₅ e₆ = rw (e₆, e₅, e₄, e₃, e₂, e₁)

pub plain-positive : (row : List ℕ) (k : ℕ) {x : Placed} → x ≡ placed_of (plain_extent row k) true → 0 < x.alignment
unfolding placed_of
plain-positive row k e = subst (λ (x : Placed). 0 < x.alignment) (sym e) (plain-aligned row k)

pub held-positive : (k n : ℕ) (x : Placed) {r : Placed} → r ≡ held_by k n x → 0 < x.alignment → 0 < r.alignment
unfolding held_by
held-positive k n x e p = subst (λ (y : Placed). 0 < y.alignment) (sym e) p

pub closed-positive : (x : Placed) {r : Placed} → r ≡ closed x → 0 < x.alignment → 0 < r.alignment
unfolding closed
closed-positive x e p = subst (λ (y : Placed). 0 < y.alignment) (sym e) p

-- A kind that holds something inside.
pub not_plain : (k : ℕ) → is_plain k ≡ false → (27 ≤ k) × (k ≤ 30)
unfolding is_plain
not_plain k h = go (ltb k 27) refl (ltb 30 k) refl
  where
    go : (t : Bool) → ltb k 27 ≡ t → (u : Bool) → ltb 30 k ≡ u → (27 ≤ k) × (k ≤ 30)
    go true e u f = absurd (false≢true (sym h ∙ rw e))
    go false e true f = absurd (false≢true (sym h ∙ rw (e, f)))
    go false e false f = (ltb-false k 27 e, ltb-false 30 k f)
