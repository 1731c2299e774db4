-- Laws of holders, fields and holes, as the code finds them.
use Prim.Native.Nat.{ℕ, zero, suc, ◌+◌, ◌-◌, ◌*◌, ◌≤◌, ◌<◌, max}
use native.Mathlib.Omega.{arith}
use mathlib.Core.Path.{◌≡◌, refl, ap, ap₂, sym, ◌∙◌}
use mathlib.Core.List.{List, [], ◌∷◌}
use mathlib.Core.Bool.{Bool, true, false, cond}
use borrow.Author.Tests.{le-leb, lt-ltb, le-ltb, eq-eqb, ne_eqb}
use lib.Dec.{leb}
use lib.ListN.{length, get_or}
use Rattle.kinds.specs.Sheet.{kind_at, count_at}
use Rattle.fields.specs.Answer.{holds, points, none_of, last_of, is_field_of, gap, is_last, largest, hole_in}
use Rattle.fields.specs.declared.Hole.{Hole}

-- ---- The last node that holds node `i` of the first `l`, and whether a pointer is among them, by the node before `l`.

before : (l : ℕ) → 0 < l → l ≡ suc (l - 1)
before l h = omega arith

module _ (w : List ℕ) (i : ℕ) where
  last_step : (l : ℕ) → 0 < l → last_of w i l ≡ cond (holds w (l - 1) i) (l - 1) (last_of w i (l - 1))
  unfolding last_of
  last_step l h = ap (last_of w i) (before l h)

  pub last-here : (l : ℕ) → 0 < l → holds w (l - 1) i ≡ true → l - 1 ≡ last_of w i l
  last-here l h e = sym (last_step l h ∙ rw e)

  pub last-next : (l : ℕ) → 0 < l → holds w (l - 1) i ≡ false → last_of w i (l - 1) ≡ last_of w i l
  last-next l h e = sym (last_step l h ∙ rw e)

  pub last_none : (l : ℕ) → l ≤ 0 → i ≡ last_of w i l
  unfolding last_of
  last_none zero h = refl
  last_none (suc l) h = absurd (omega arith)

  none-step : (l : ℕ) → 0 < l → none_of w i l ≡ cond (points w (l - 1) i) false (none_of w i (l - 1))
  unfolding none_of
  none-step l h = ap (none_of w i) (before l h)

  pub none_here : (l : ℕ) → 0 < l → points w (l - 1) i ≡ true → false ≡ none_of w i l
  none_here l h e = sym (none-step l h ∙ rw e)

  pub none-next : (l : ℕ) → 0 < l → points w (l - 1) i ≡ false → none_of w i (l - 1) ≡ none_of w i l
  none-next l h e = sym (none-step l h ∙ rw e)

  pub none_end : (l : ℕ) → l ≤ 0 → true ≡ none_of w i l
  unfolding none_of
  none_end zero h = refl
  none_end (suc l) h = absurd (omega arith)

-- ---- Lists and numbers.

pub beyond : (ns : List ℕ) (k : ℕ) → length ns ≤ k → 0 ≡ get_or ns k 0
beyond [] k h = refl
beyond (n ∷ ns) zero h = absurd (omega arith)
beyond (n ∷ ns) (suc k) h = beyond ns k (omega arith)

pub past_end : (ns : List ℕ) (i k : ℕ) {c : ℕ} → c ≡ k → length ns ≤ c → 0 ≡ get_or ns (i + k) 0
past_end ns i k e h = beyond ns (i + k) (omega arith)

pub last-past : (m n k : ℕ) {a b : ℕ} → a ≡ m → b ≡ n → a < b → true ≡ leb (m - n) k
last-past m n k e d h = sym (le-leb (m - n) k (omega arith))

pub gap-none : (o b n : ℕ) → n ≤ o + b → ◌≡◌ {A = Hole} (record { begin = 0; bytes = 0 }) (gap (o + b) n)
unfolding gap
gap-none o b n h = sym (rw (le-ltb (o + b) n h))

pub gap-some : (o b n : ℕ) → o + b < n → ◌≡◌ {A = Hole} (record { begin = o + b; bytes = n - o - b }) (gap (o + b) n)
unfolding gap
gap-some o b n h = ap (λ (k : ℕ). record { begin = o + b; bytes = k }) (less o b n) ∙ sym (rw (lt-ltb (o + b) n h))
  where
    less : (o b n : ℕ) → n - o - b ≡ n - (o + b)
    less o b n = omega arith

pub largest-next : (w xs : List ℕ) (p j : ℕ) {b f r : ℕ} → b ≡ largest w xs p j → f ≡ cond (is_field_of w p j) (get_or xs (2 * j) 0) 0 → r ≡ max b f → r ≡ largest w xs p (j + 1)
unfolding largest
largest-next w xs p j e d h = h ∙ ap₂ max e d ∙ ap (largest w xs p) (one j)
  where
    one : (j : ℕ) → suc j ≡ j + 1
    one j = omega arith

-- ---- The padding after a field.

module _ (w os xs : List ℕ) (p i : ℕ) {r : Hole} where
  pub union-last : kind_at w (4 * p) ≡ 30 → is_last w p i ≡ true → {m b : ℕ} → m ≡ max (largest w xs p i) (get_or xs (2 * i) 0) → b ≡ get_or xs (2 * p) 0 → r ≡ gap (0 + m) b
      → r ≡ hole_in w os xs p i
  unfolding hole_in
  union-last k l {m} d f e = e ∙ ap₂ gap (none_before m ∙ d) f ∙ sym (rw (eq-eqb (kind_at w (4 * p)) 30 k, l))
    where
      none_before : (m : ℕ) → 0 + m ≡ m
      none_before m = omega arith

  pub union-other : kind_at w (4 * p) ≡ 30 → is_last w p i ≡ false → r ≡ gap 0 0 → r ≡ hole_in w os xs p i
  unfolding hole_in
  union-other k l e = e ∙ sym (rw (eq-eqb (kind_at w (4 * p)) 30 k, l))

  pub struct-hole : (kind_at w (4 * p) ≡ 30 → ⊥) → {o b n : ℕ} → o ≡ get_or os i 0 → b ≡ get_or xs (2 * i) 0
      → n ≡ cond (is_last w p i) (get_or xs (2 * p) 0) (get_or os (i + count_at w (4 * i)) 0) → r ≡ gap (o + b) n → r ≡ hole_in w os xs p i
  unfolding hole_in
  struct-hole k d f g e = e ∙ ap₂ gap (ap₂ ◌+◌ d f) g ∙ sym (rw (ne_eqb (kind_at w (4 * p)) 30 k))
