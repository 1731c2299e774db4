-- A bitfield's bytes are a power of two that holds its bits, and no smaller one does.
use Prim.Native.Nat.{ℕ, zero, suc, ◌+◌, ◌*◌, ◌/◌, ◌^◌, ◌≤◌, ◌<◌}
use mathlib.Core.Path.{◌≡◌, refl, ap, sym, ◌∙◌, subst}
use mathlib.Core.Bool.{Bool, true, false, cond}
use native.Mathlib.Nat.{mul_assoc, mul_comm, mul-one, pow-succ', one-le-pow, le-mul_of_pos_right}
use native.Mathlib.Omega.{arith}
use lib.Dec.{leb}
use borrow.Author.Tests.{le-leb, lt-leb, leb-true, leb-false}
use Rattle.kinds.specs.Size.{raised, bit_bytes}

-- ---- A turn of the doublings, and their end.

pub raised-there : (fuel n p : ℕ) → n ≤ p → raised fuel n p ≡ p
raised-there zero n p h = refl
raised-there (suc fuel) n p h = rw (le-leb n p h)

pub raised-on : (fuel n p : ℕ) → p < n → raised (suc fuel) n p ≡ raised fuel n (2 * p)
raised-on fuel n p h = rw (lt-leb n p h)

-- ---- What they reach.

raised-holds : (fuel n p : ℕ) → 1 ≤ p → n ≤ fuel + p → n ≤ raised fuel n p
raised-holds zero n p o h = omega arith
raised-holds (suc fuel) n p o h = go (leb n p) refl (λ a b. raised-holds fuel n (2 * p) a b)
  where
    go : (t : Bool) → leb n p ≡ t → (1 ≤ 2 * p → n ≤ fuel + 2 * p → n ≤ raised fuel n (2 * p)) → n ≤ cond t p (raised fuel n (2 * p))
    go true e more = leb-true n p e
    go false e more = more (omega arith) (omega (arith, leb-false n p e))

twice : (p k : ℕ) → 2 * p * 2 ^ k ≡ p * 2 ^ suc k
twice p k = ap (λ (x : ℕ). x * 2 ^ k) (mul_comm 2 p) ∙ mul_assoc p 2 (2 ^ k) ∙ ap (λ (x : ℕ). p * x) (sym (pow-succ' 2 k))

raised-power : (fuel n p : ℕ) → (k : ℕ) × (raised fuel n p ≡ p * 2 ^ k)
raised-power zero n p = (0, sym (mul-one p))
raised-power (suc fuel) n p = go (leb n p) (raised-power fuel n (2 * p))
  where
    go : (t : Bool) → ((k : ℕ) × (raised fuel n (2 * p) ≡ 2 * p * 2 ^ k)) → (k : ℕ) × (cond t p (raised fuel n (2 * p)) ≡ p * 2 ^ k)
    go true more = (0, sym (mul-one p))
    go false more = (suc more.0, more.1 ∙ twice p more.0)

raised-least : (fuel n p j : ℕ) → n ≤ p * 2 ^ j → raised fuel n p ≤ p * 2 ^ j
raised-least zero n p j h = le-mul_of_pos_right p (one-le-pow j 2 (omega arith))
raised-least (suc fuel) n p j h = go (leb n p) refl j h (λ i. raised-least fuel n (2 * p) i)
  where
    go : (t : Bool) → leb n p ≡ t → (j : ℕ) → n ≤ p * 2 ^ j → ((i : ℕ) → n ≤ 2 * p * 2 ^ i → raised fuel n (2 * p) ≤ 2 * p * 2 ^ i) → cond t p (raised fuel n (2 * p)) ≤ p * 2 ^ j
    go true e j h more = le-mul_of_pos_right p (one-le-pow j 2 (omega arith))
    go false e zero h more = absurd (omega (arith, leb-false n p e, mul-one p))
    go false e (suc i) h more = subst (λ (x : ℕ). raised fuel n (2 * p) ≤ x) (twice p i) (more i (subst (λ (x : ℕ). n ≤ x) (sym (twice p i)) h))

-- ---- The bytes of `n` bits.

pub record BytesOf (n bytes : ℕ) : Type 0 where
  pub exponent : ℕ
  pub power : bytes ≡ 2 ^ exponent
  pub enough : n ≤ 8 * bytes
  pub least : (j : ℕ) → n ≤ 8 * 2 ^ j → bytes ≤ 2 ^ j

eighth : (x y : ℕ) → x ≡ 8 * y → x / 8 ≡ y
eighth x y e = omega arith

pub bit-bytes : (n : ℕ) → BytesOf n (bit_bytes n)
unfolding bit_bytes
bit-bytes n =
    let p = raised-power n n 8 in
    let b : raised n n 8 / 8 ≡ 2 ^ p.0 = eighth (raised n n 8) (2 ^ p.0) p.1 in
    record {
      exponent = p.0;
      power = b;
      enough = omega (arith, raised-holds n n 8 (omega arith) (omega arith), p.1);
      least = λ j h. omega (arith, raised-least n n 8 j h, p.1);
    }
