-- Laws of the next multiple of a number.
use Prim.Native.Nat.{ℕ, suc, ◌+◌, ◌-◌, ◌*◌, ◌/◌, ◌%◌, ◌≤◌, ◌<◌}
use native.Mathlib.Omega.{arith}
use native.Mathlib.Nat.{div-mul-le_self, lt-div-mul-add, div-lt_iff_lt-mul, div-add-mod', mod-lt, mul-le-mul_right, lt_of_mul-lt-mul_right}
use mathlib.Core.Bool.{Bool, true, not, ◌||◌}
use mathlib.Core.List.{List, [], ◌∷◌}
use mathlib.Core.Path.{◌≡◌, refl, ◌∙◌}
use borrow.Author.Tests.{eq-eqb}
use lib.Bits.{bit_and, and_mask}
use lib.Dec.{eqb}
use Rattle.kinds.specs.Byte.{among}
use Rattle.kinds.proofs.TableLaws.{Each, each, every_below, pass_below}
use Rattle.layout.specs.Layout.{next_multiple}

module _ (a n : ℕ) where
  -- It is a multiple, and which one.
  pub times-of : ℕ
  times-of = (n + (a - 1)) / a

  pub is-multiple : next_multiple a n ≡ times-of * a
  unfolding next_multiple times-of
  is-multiple = refl

  module _ (p : 0 < a) where
    -- It lies at or after the number, and before the number is passed by a whole step.
    pub at_or_after : n ≤ next_multiple a n
    unfolding next_multiple
    at_or_after = let h : n + (a - 1) < (n + (a - 1)) / a * a + a = lt-div-mul-add p in omega arith

    pub within-a-step : next_multiple a n < n + a
    unfolding next_multiple
    within-a-step = let h : (n + (a - 1)) / a * a ≤ n + (a - 1) = div-mul-le_self (n + (a - 1)) a in omega arith

    -- No smaller multiple lies at or after the number.
    pub least : (k : ℕ) → n ≤ k * a → next_multiple a n ≤ k * a
    unfolding next_multiple
    least k h =
        let d : suc k * a ≡ a + k * a = suc-times k in
        let q : (n + (a - 1)) / a < suc k = (div-lt_iff_lt-mul p).1 (omega arith) in
        mul-le-mul_right a (omega arith)
      where
        suc-times : (k : ℕ) → suc k * a ≡ a + k * a
        suc-times k = omega arith

    -- So it is the one multiple within a step.
    pub the_one : (k : ℕ) → n ≤ k * a → k * a < n + a → next_multiple a n ≡ k * a
    the_one k h i =
        let l = least k h in
        let r = at_or_after in
        let e = is-multiple in
        let s : k ≤ times-of = go (times-of) k (omega arith) in
        let t : k * a ≤ times-of * a = mul-le-mul_right a s in
        omega arith
      where
        go : (q k : ℕ) → k * a < q * a + a → k ≤ q
        go q k h = let e : suc q * a ≡ a + q * a = omega arith in let l : k < suc q = lt_of_mul-lt-mul_right a (less e) in omega arith
          where
            less : suc q * a ≡ a + q * a → k * a < suc q * a
            less e = omega arith

    -- The number itself, or what is left to the next step added to it.
    pub there-already : n % a ≡ 0 → next_multiple a n ≡ n
    there-already e = let d = div-add-mod' n a in the_one (n / a) (omega arith) (omega arith) ∙ (omega arith)

    pub not_there : 0 < n % a → next_multiple a n ≡ n + (a - n % a)
    not_there h =
        let d = div-add-mod' n a in
        let l = mod-lt n p in
        let e : suc (n / a) * a ≡ a + n / a * a = omega arith in
        the_one (suc (n / a)) (omega arith) (omega arith) ∙ (omega arith)

-- The next multiple by what is left over of the number raised by the step less one.
pub by-remainder : (a n : ℕ) → n + (a - 1) - (n + (a - 1)) % a ≡ next_multiple a n
unfolding next_multiple
by-remainder a n = let d = div-add-mod' (n + (a - 1)) a in omega arith

-- ---- Powers of two below 256, by a mask.

powers : List ℕ
powers = 0 ∷ 1 ∷ 2 ∷ 4 ∷ 8 ∷ 16 ∷ 32 ∷ 64 ∷ 128 ∷ []

right : ℕ → Bool
right a = not (eqb (bit_and a (a - 1)) 0) || among a powers

all_right : every_below right 256 ≡ true
unfolding every_below right among powers
all_right = refl

pub mask-remainder : (n a : ℕ) → 0 < a → a < 256 → bit_and a (a - 1) ≡ 0 → bit_and n (a - 1) ≡ n % a
unfolding right powers
mask-remainder n a p h e = each (λ b. 0 < b → bit_and n (b - 1) ≡ n % b) powers table a found p
  where
    found : among a powers ≡ true
    found = rw (eq-eqb (bit_and a (a - 1)) 0 e) at (pass_below right 256 all_right a h)

    table : Each (λ b. 0 < b → bit_and n (b - 1) ≡ n % b) powers
    table = (
      λ z. absurd (omega arith),
      (λ z. and_mask n 0, (λ z. and_mask n 1, (λ z. and_mask n 2, (λ z. and_mask n 3, (λ z. and_mask n 4, (λ z. and_mask n 5, (λ z. and_mask n 6, (λ z. and_mask n 7, tt)))))))),
    )
