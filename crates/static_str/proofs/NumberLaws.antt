-- Laws of decimal text.
use Prim.Native.Nat.{ℕ, zero, suc, ◌+◌, ◌*◌, ◌/◌, ◌%◌, ◌^◌, ◌≤◌, ◌<◌}
use native.Mathlib.Omega.{arith}
use mathlib.Core.Path.{◌≡◌, refl, ap, ap₂, sym, ◌∙◌, subst}
use mathlib.Core.List.{[], ◌∷◌, ◌++◌, append_assoc}
use mathlib.Core.Bool.{Bool, true, false}
use borrow.Author.Tests.{ltb-true, ltb-false}
use lib.Dec.{ltb}
use lib.ListN.{length, length-append}
use native.Mathlib.Nat.{pow-suc}
use Rattle.kinds.specs.Print.{decimal}
use Rattle.kinds.proofs.DecimalLaws.{decimal-low, decimal-high}

pub decimal-one : (n : ℕ) → n < 10 → length (decimal n) ≡ 1
decimal-one n h = ap length (decimal-low n h)

pub decimal-more : (n : ℕ) → 10 ≤ n → length (decimal n) ≡ length (decimal (n / 10)) + 1
decimal-more n h = ap length (decimal-high n h) ∙ length-append (decimal (n / 10)) ((48 + n % 10) ∷ [])

-- two digits
pub decimal-two : (n : ℕ) → 10 ≤ n → n < 100 → decimal n ≡ (48 + n / 10 % 10) ∷ (48 + n % 10) ∷ []
decimal-two n lo hi =
    let e : n / 10 % 10 ≡ n / 10 = omega arith in
    decimal-high n lo ∙ ap (λ s. s ++ ((48 + n % 10) ∷ [])) (decimal-low (n / 10) (omega arith)) ∙ ap (λ (d : ℕ). (48 + d) ∷ (48 + n % 10) ∷ []) (sym e)

-- and two digits behind others
decimal-last-two : (n : ℕ) → 100 ≤ n → decimal n ≡ decimal (n / 100) ++ ((48 + n / 10 % 10) ∷ (48 + n % 10) ∷ [])
decimal-last-two n h =
    let e : n / 10 / 10 ≡ n / 100 = omega arith in
    decimal-high n (omega arith) ∙ ap (λ s. s ++ ((48 + n % 10) ∷ [])) (decimal-high (n / 10) (omega arith))
    ∙ append_assoc (decimal (n / 10 / 10)) ((48 + n / 10 % 10) ∷ []) ((48 + n % 10) ∷ [])
    ∙ ap (λ (m : ℕ). decimal m ++ ((48 + n / 10 % 10) ∷ (48 + n % 10) ∷ [])) e

pub decimal-three : (n : ℕ) → 100 ≤ n → n < 1000 → decimal n ≡ (48 + n / 100 % 10) ∷ (48 + n / 10 % 10) ∷ (48 + n % 10) ∷ []
decimal-three n lo hi =
    let e : n / 100 % 10 ≡ n / 100 = omega arith in
    decimal-last-two n lo ∙ ap (λ s. s ++ ((48 + n / 10 % 10) ∷ (48 + n % 10) ∷ [])) (decimal-low (n / 100) (omega arith))
    ∙ ap (λ (d : ℕ). (48 + d) ∷ (48 + n / 10 % 10) ∷ (48 + n % 10) ∷ []) (sym e)

pub decimal-four : (n : ℕ) → 1000 ≤ n → n < 10000 → decimal n ≡ (48 + n / 1000 % 10) ∷ (48 + n / 100 % 10) ∷ (48 + n / 10 % 10) ∷ (48 + n % 10) ∷ []
decimal-four n lo hi =
    let e : n / 100 / 10 ≡ n / 1000 = omega arith in
    decimal-last-two n (omega arith) ∙ ap (λ s. s ++ ((48 + n / 10 % 10) ∷ (48 + n % 10) ∷ [])) (decimal-two (n / 100) (omega arith) (omega arith))
    ∙ ap (λ (d : ℕ). (48 + d % 10) ∷ (48 + n / 100 % 10) ∷ (48 + n / 10 % 10) ∷ (48 + n % 10) ∷ []) e

-- four digits behind others
pub decimal-last-four : (n : ℕ) → 10000 ≤ n → decimal n ≡ decimal (n / 10000) ++ ((48 + n / 1000 % 10) ∷ (48 + n / 100 % 10) ∷ (48 + n / 10 % 10) ∷ (48 + n % 10) ∷ [])
decimal-last-four n h =
    let e : n / 100 / 10 ≡ n / 1000 = omega arith in
    let f : n / 100 / 100 ≡ n / 10000 = omega arith in
    decimal-last-two n (omega arith) ∙ ap (λ s. s ++ ((48 + n / 10 % 10) ∷ (48 + n % 10) ∷ [])) (decimal-last-two (n / 100) (omega arith))
    ∙ append_assoc (decimal (n / 100 / 100)) ((48 + n / 100 / 10 % 10) ∷ (48 + n / 100 % 10) ∷ []) ((48 + n / 10 % 10) ∷ (48 + n % 10) ∷ [])
    ∙ ap₂ (λ (m d : ℕ). decimal m ++ ((48 + d % 10) ∷ (48 + n / 100 % 10) ∷ (48 + n / 10 % 10) ∷ (48 + n % 10) ∷ [])) f e

pub decimal-more-four : (n : ℕ) → 10000 ≤ n → length (decimal n) ≡ length (decimal (n / 10000)) + 4
decimal-more-four n h = ap length (decimal-last-four n h) ∙ simp length-append

pub decimal-more-eight : (n : ℕ) → 100000000 ≤ n → length (decimal n) ≡ length (decimal (n / 100000000)) + 8
decimal-more-eight n h =
    let e : n / 10000 / 10000 ≡ n / 100000000 = omega arith in
    omega (arith, decimal-more-four n (omega arith), decimal-more-four (n / 10000) (omega arith), ap (λ (m : ℕ). length (decimal m)) e)

pub decimal-more-twelve : (n : ℕ) → 1000000000000 ≤ n → length (decimal n) ≡ length (decimal (n / 1000000000000)) + 12
decimal-more-twelve n h =
    let e : n / 10000 / 100000000 ≡ n / 1000000000000 = omega arith in
    omega (arith, decimal-more-four n (omega arith), decimal-more-eight (n / 10000) (omega arith), ap (λ (m : ℕ). length (decimal m)) e)

pub decimal-more-sixteen : (n : ℕ) → 10000000000000000 ≤ n → length (decimal n) ≡ length (decimal (n / 10000000000000000)) + 16
decimal-more-sixteen n h =
    let e : n / 100000000 / 100000000 ≡ n / 10000000000000000 = omega arith in
    omega (arith, decimal-more-eight n (omega arith), decimal-more-eight (n / 100000000) (omega arith), ap (λ (m : ℕ). length (decimal m)) e)

-- at most as many digits as the power of ten that it is below has zeros
pub digits-below : (k n : ℕ) → n < 10 ^ suc k → length (decimal n) ≤ suc k
digits-below zero n h = let e = decimal-one n h in omega arith
digits-below (suc k) n h = go (ltb n 10) refl (λ p. digits-below k (n / 10) p)
  where
    less : (m : ℕ) → n < m * 10 → n / 10 < m
    less m p = omega arith

    go : (t : Bool) → ltb n 10 ≡ t → (n / 10 < 10 ^ suc k → length (decimal (n / 10)) ≤ suc k) → length (decimal n) ≤ suc (suc k)
    go true e rec = let l = decimal-one n (ltb-true n 10 e) in omega arith
    go false e rec =
        let l = decimal-more n (ltb-false n 10 e) in
        let r = rec (less (10 ^ suc k) (subst (λ (m : ℕ). n < m) (pow-suc 10 (suc k)) h)) in
        omega arith

-- at most as many digits as it counts, or one
pub decimal-few : (n : ℕ) → length (decimal n) ≤ n + 1
decimal-few n = below (suc n) n (omega arith)
  where
    below : (f n : ℕ) → n < f → length (decimal n) ≤ n + 1
    below zero n h = absurd (omega arith)
    below (suc f) n h = go (ltb n 10) refl (λ k. below f (n / 10) k)
      where
        go : (t : Bool) → ltb n 10 ≡ t → (n / 10 < f → length (decimal (n / 10)) ≤ n / 10 + 1) → length (decimal n) ≤ n + 1
        go true e rec = omega (arith, decimal-one n (ltb-true n 10 e))
        go false e rec = let l = ltb-false n 10 e in omega (arith, decimal-more n l, rec (omega arith))

-- a number of 64 bits
pub decimal-fits : (n : ℕ) → n < 2 ^ 64 → length (decimal n) ≤ 20
decimal-fits n h = digits-below 19 n (more h)
  where
    more : n < 18446744073709551616 → n < 100000000000000000000
    more p = omega arith
