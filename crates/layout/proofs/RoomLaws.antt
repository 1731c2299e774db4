-- Laws of what small trees take, whose alignments are powers of two and whose numbers all fit.
use Prim.Native.Nat.{ℕ, ◌+◌, ◌-◌, ◌*◌, ◌≤◌, ◌<◌, max}
use native.Mathlib.Omega.{arith}
use native.Mathlib.Nat.{mod-le, mul-le-mul}
use mathlib.Core.Path.{◌≡◌, refl, ap, ap₂, sym, ◌∙◌, subst}
use mathlib.Core.List.{List, []}
use mathlib.Core.Bool.{Bool, true, false, cond, ◌&&◌, ◌||◌}
use mathlib.Core.Logic.{inl, inr, ⊎_elim}
use borrow.Author.Tests.{lt-ltb, le-ltb, ltb-true, ltb-false, ne_eqb, eqb-true, le-leb}
use lib.Bits.{bit_and}
use lib.Dec.{ltb, eqb}
use lib.ListN.{get_or, set}
use Rattle.std.proofs.Common.{Option, Some, None, Result}
use Rattle.std.specs.Option.{IfSome, ok_or}
use Rattle.std.specs.Result.{IfOk, IfErr}
use Rattle.kinds.specs.Parse.{max_u64}
use Rattle.kinds.specs.Primitive.{size_rows}
use Rattle.kinds.specs.Sheet.{kind_at, first_at}
use Rattle.kinds.proofs.TableLaws.{both, every_below, pass_below}
use Rattle.helper.specs.Measure.{fit, plus_measured, larger_measured, times_measured}
use Rattle.helper.specs.declared.Measured.{Measured}
use Rattle.helper.specs.declared.Measured.TheVariants.{Bytes}
use Rattle.helper.proofs.SizeLaws.{fit-le}
use Rattle.layout.specs.Layout.{next_multiple}
use Rattle.layout.specs.Placing.{next_measured, placed_of, is_plain, is_simple, simple_placed, part_kind, plain_extent, begin_measured, with_field, closed, held_by, ended_by}
use Rattle.layout.specs.Walking.{IsPower, Powers, most, IsSized, PlainRoom, SimpleRoom, EndedRoom, AddedRoom}
use Rattle.layout.specs.declared.quick.Room.{Room}
use Rattle.layout.proofs.MultipleLaws.{mask-remainder, by-remainder, within-a-step}
use Rattle.layout.proofs.ExtentLaws.{plus-fit, larger-fit, times-fit, placed-code}

-- ---- Powers of two.

module _ (a n : ℕ) (p : IsPower a) where
  -- The next multiple by a mask.
  pub mask-multiple : n + (a - 1) - bit_and (n + (a - 1)) (a - 1) ≡ next_multiple a n
  mask-multiple = rw (mask-remainder (n + (a - 1)) a p.0 p.1 p.2) (by-remainder a n)

  pub mask-within : bit_and n (a - 1) ≤ n
  mask-within = rw (mask-remainder n a p.0 p.1 p.2) (mod-le n a)

-- The larger of two is one of them.
pub power-max : (a b : ℕ) → IsPower a → IsPower b → IsPower (max a b)
power-max a b p q = go (ltb a b) refl
  where
    go : (t : Bool) → ltb a b ≡ t → IsPower (max a b)
    go true e = let l = ltb-true a b e in let d : max a b ≡ b = omega arith in subst (λ (z : ℕ). IsPower z) (sym d) q
    go false e = let l = ltb-false a b e in let d : max a b ≡ a = omega arith in subst (λ (z : ℕ). IsPower z) (sym d) p

-- The table has no others for alignments.
is_power : ℕ → Bool
is_power a = ltb 0 a && (ltb a 256 && eqb (bit_and a (a - 1)) 0)

is-power : (a : ℕ) → is_power a ≡ true → IsPower a
unfolding is_power
is-power a h =
    let u = both (ltb 0 a) (ltb a 256 && eqb (bit_and a (a - 1)) 0) h in
    let v = both (ltb a 256) (eqb (bit_and a (a - 1)) 0) u.1 in
    (ltb-true 0 a u.0, ltb-true a 256 v.0, eqb-true (bit_and a (a - 1)) 0 v.1)

power-right : List ℕ → ℕ → Bool
power-right row k = eqb (get_or row k 0) 0
    || (is_power (get_or row (part_kind k) 0) && ltb (get_or row k 0) 256)

row-right : ℕ → Bool
row-right row = every_below (power-right (get_or size_rows row [])) 24

all_right : every_below row-right 4 ≡ true
unfolding every_below row-right power-right is_power part_kind
all_right = refl

right-power : (row : List ℕ) (k : ℕ) → 0 < get_or row k 0 → power-right row k ≡ true → IsPower (get_or row (part_kind k) 0) × (get_or row k 0 < 256)
unfolding power-right
right-power row k p h =
    let g : (is_power (get_or row (part_kind k) 0) && ltb (get_or row k 0) 256) ≡ true = rw (ne_eqb (get_or row k 0) 0 (λ e. omega arith)) at h in
    let u = both (is_power (get_or row (part_kind k) 0)) (ltb (get_or row k 0) 256) g in
    (is-power (get_or row (part_kind k) 0) u.0, ltb-true (get_or row k 0) 256 u.1)

pub table-powers : (row : ℕ) → row < 4 → Powers (get_or size_rows row [])
unfolding row-right
table-powers row h k l p = right-power (get_or size_rows row []) k p (pass_below (power-right (get_or size_rows row [])) 24 (pass_below row-right 4 all_right row h) k l)

-- ---- Codes and pointers.

module _ (row : List ℕ) (k : ℕ) (o : Powers row) {b : ℕ} where
  -- A code by its part.
  pub code-room : {a p : ℕ} → k < 24 → b ≡ get_or row k 0 → (b ≡ 0 → ⊥) → part_kind k ≡ p → a ≡ get_or row p 0
      → PlainRoom row k (record { bytes = b; alignment = a })
  code-room {a} {p} h e z d f =
      let l : 0 < get_or row k 0 = omega arith in
      let g : a ≡ get_or row (part_kind k) 0 = f ∙ ap (λ (i : ℕ). get_or row i 0) (sym d) in
      let q : IsPower a = subst (λ (z : ℕ). IsPower z) (sym g) (o k h l).0 in
      let r = q.0 in
      let s = (o k h l).1 in
      record { sized = inl (h, l); power = q; small = omega arith; takes = placed-code row k (omega arith) h e (omega arith) }

-- A pointer takes what the code of a string takes.
pub pointer-room : {row : List ℕ} {k : ℕ} {x : Room} → k ≡ 26 → PlainRoom row 18 x → PlainRoom row k x
unfolding plain_extent part_kind
pointer-room h p = record { sized = inr h; power = p.power; small = p.small; takes = rw h p.takes }

sized-plain : (row : List ℕ) (k : ℕ) → IsSized row k → is_plain k ≡ true
unfolding is_plain
sized-plain row k s = ⊎_elim (λ h. rw (lt-ltb k 27 (let l = h.0 in omega arith))) (λ e. rw e) s

-- ---- Nodes that are no containers.

pub array-small : (n b : ℕ) → n ≤ most → b ≤ most → n * b ≤ most * most
array-small n b h q = mul-le-mul h q

pub array-room : (n : ℕ) (x : Room) → IsPower x.alignment → x.bytes ≤ most → n ≤ most
    → EndedRoom 28 n x (record { bytes = n * x.bytes; alignment = x.alignment })
unfolding ended_by held_by
array-room n x p q h =
    let m = array-small n x.bytes h q in
    let e : Bytes (n * x.bytes) ≡ times_measured n (Bytes x.bytes) =
    sym (ap (times_measured n) (sym (fit-le x.bytes (omega arith))) ∙ times-fit n x.bytes ∙ fit-le (n * x.bytes) (omega arith)) in
    record { power = p; small = m; takes = ap (λ (z : Measured). record { bytes = z; alignment = x.alignment; fits = true }) e }

module _ (row w : List ℕ) (at : ℕ) where
  pub simple-plain : {x : Room} → kind_at w at < 27 → PlainRoom row (kind_at w at) x → SimpleRoom row w at x
  unfolding is_simple is_plain simple_placed
  simple-plain {x} h p =
      let s = p.small in
      record {
        simple = rw (lt-ltb (kind_at w at) 27 h);
        sized = inl p.sized;
        power = p.power;
        small = omega arith;
        takes = rw (lt-ltb (kind_at w at) 27 h) p.takes;
      }

  held-simple : {y : Room} → 27 ≤ kind_at w at → kind_at w at ≤ 28 → PlainRoom row (kind_at w (at + 4)) y → is_simple w at ≡ true
  unfolding is_simple
  held-simple h i p = rw (sized-plain row (kind_at w (at + 4)) p.sized, le-leb (kind_at w at) 28 i) (go (is_plain (kind_at w at)))
    where
      go : (t : Bool) → (t || true) ≡ true
      go true = refl
      go false = refl

  held-placed : 27 ≤ kind_at w at → kind_at w at ≤ 28 → simple_placed row w at ≡ held_by (kind_at w at) (first_at w at) (placed_of (plain_extent row (kind_at w (at + 4))) true)
  unfolding simple_placed is_plain
  held-placed h i = rw (le-ltb (kind_at w at) 27 h, le-ltb 30 (kind_at w at) (omega arith))

  pub simple-atomic : {x : Room} → kind_at w at ≡ 27 → PlainRoom row (kind_at w (at + 4)) x → SimpleRoom row w at x
  unfolding held_by
  simple-atomic {x} e p =
      let s = p.small in
      let lo : 27 ≤ kind_at w at = omega arith in
      let hi : kind_at w at ≤ 28 = omega arith in
      record {
        simple = held-simple lo hi p;
        sized = inr (lo, hi, p.sized);
        power = p.power;
        small = omega arith;
        takes = p.takes ∙ sym (held-placed lo hi ∙ rw e);
      }

  pub simple-array : {x y : Room} → kind_at w at ≡ 28 → PlainRoom row (kind_at w (at + 4)) y → EndedRoom 28 (first_at w at) y x → SimpleRoom row w at x
  unfolding ended_by
  simple-array {x} {y} e p t =
      let lo : 27 ≤ kind_at w at = omega arith in
      let hi : kind_at w at ≤ 28 = omega arith in
      record {
        simple = held-simple lo hi p;
        sized = inr (lo, hi, p.sized);
        power = t.power;
        small = t.small;
        takes = t.takes ∙ ap (held_by 28 (first_at w at)) p.takes ∙ sym (held-placed lo hi ∙ rw e);
      }

-- ---- Containers.

pub container-room : (k n : ℕ) (x : Room) → 29 ≤ k → IsPower x.alignment → x.bytes ≤ most → {b : ℕ} → b ≡ next_multiple x.alignment x.bytes
    → EndedRoom k n x (record { bytes = b; alignment = x.alignment })
unfolding ended_by closed next_measured
container-room k n x h p q {b} e =
    let s = within-a-step x.alignment x.bytes p.0 in
    let l = p.1 in
    record {
      power = p;
      small = omega arith;
      takes = rw (le-ltb k 29 h) (ap (λ (z : Measured). record { bytes = z; alignment = x.alignment; fits = true }) (sym (ap fit (sym e) ∙ fit-le b (omega arith))));
    }

plus-bytes : (m n : ℕ) → m + n ≤ max_u64 → plus_measured (Bytes m) (Bytes n) ≡ Bytes (m + n)
plus-bytes m n h = ap₂ plus_measured (sym (fit-le m (omega arith))) (sym (fit-le n (omega arith))) ∙ plus-fit m n ∙ fit-le (m + n) h

larger-bytes : (m n : ℕ) → max m n ≤ max_u64 → larger_measured (Bytes m) (Bytes n) ≡ Bytes (max m n)
larger-bytes m n h = ap₂ larger_measured (sym (fit-le m (omega arith))) (sym (fit-le n (omega arith))) ∙ larger-fit m n ∙ fit-le (max m n) h

module _ (k : ℕ) (run x : Room) (p : IsPower run.alignment) (q : IsPower x.alignment) where
  -- By where the field begins, and where the container ends with it.
  field_room : {b n : ℕ} {y : Room} → begin_measured k (Bytes run.bytes) x.alignment ≡ Bytes b
      → cond (eqb k 29) (plus_measured (Bytes b) (Bytes x.bytes)) (larger_measured (Bytes run.bytes) (Bytes x.bytes)) ≡ Bytes n
      → y.bytes ≡ n → y.alignment ≡ max run.alignment x.alignment → n ≤ most → (l : List ℕ) (j : ℕ) → AddedRoom k run x l (set l j b) j y
  unfolding with_field
  field_room {b} {n} {y} d e f g s l j =
      record {
        some-room = q.0;
        power = subst (λ (z : ℕ). IsPower z) (sym g) (power-max run.alignment x.alignment p q);
        small = omega arith;
        takes = rw (d, e) (ap₂ (λ (v z : ℕ). record { bytes = Bytes v; alignment = z; fits = true }) f g);
        list = rw d;
      }

  pub struct-room : {b a : ℕ} {y : Room} → k ≡ 29 → run.bytes ≤ most → b ≡ next_multiple x.alignment run.bytes → a ≡ max run.alignment x.alignment
      → y.alignment ≡ a → y.bytes ≡ b + x.bytes → b + x.bytes ≤ most → (l : List ℕ) (j : ℕ) → AddedRoom k run x l (set l j b) j y
  unfolding begin_measured next_measured
  struct-room {b} h r e f g d s l j =
      field_room (rw h (ap fit (sym e) ∙ fit-le b (omega arith))) (rw h (plus-bytes b x.bytes (omega arith))) d (g ∙ f) s l j

  pub union-room : {n a : ℕ} {y : Room} → (k ≡ 29 → ⊥) → n ≡ max run.bytes x.bytes → a ≡ max run.alignment x.alignment
      → y.alignment ≡ a → y.bytes ≡ n → n ≤ most → (l : List ℕ) (j : ℕ) → AddedRoom k run x l (set l j 0) j y
  unfolding begin_measured
  union-room {n} h e f g d s l j =
      field_room (rw (ne_eqb k 29 h)) (rw (ne_eqb k 29 h) (larger-bytes run.bytes x.bytes (omega arith) ∙ ap Bytes (sym e))) d (g ∙ f) s l j

-- ---- A room, or where there is none a number.

pub IfOk-from_ok_or : {A E : Type 0} (o : Option A) (e : E) (P : A → Type 0) {r : Result A E} → r ≡ ok_or o e → IfSome o P → IfOk r P
IfOk-from_ok_or {A} {E} (Some x) e P d h = subst (λ (z : Result A E). IfOk z P) (sym d) h
IfOk-from_ok_or {A} {E} None e P d h = subst (λ (z : Result A E). IfOk z P) (sym d) tt

pub IfErr-from_ok_or : {A E : Type 0} (o : Option A) (e : E) (Q : E → Type 0) {r : Result A E} → r ≡ ok_or o e → Q e → IfErr r Q
IfErr-from_ok_or {A} {E} (Some x) e Q d h = subst (λ (z : Result A E). IfErr z Q) (sym d) tt
IfErr-from_ok_or {A} {E} None e Q d h = subst (λ (z : Result A E). IfErr z Q) (sym d) h
