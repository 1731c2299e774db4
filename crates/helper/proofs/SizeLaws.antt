-- Laws of sizes.
use Prim.Native.Nat.{ℕ, zero, suc, ◌+◌, ◌*◌, ◌/◌, ◌%◌, ◌^◌, ◌≤◌, ◌<◌, max, min}
use native.Mathlib.Omega.{arith}
use native.Mathlib.Nat.{zero-mul, mul_comm, mul-le-mul_right, max-zero, add_assoc, le-div_iff_mul-le, div-lt_iff_lt-mul, one-le-pow, pow-le-pow_right, pow-succ'}
use mathlib.Core.Path.{◌≡◌, refl, ap, sym, ◌∙◌, subst}
use mathlib.Core.List.{List, [], ◌∷◌}
use Rattle.std.specs.Prelude.{Option, Some, None, unwrap_or}
use mathlib.Core.Bool.{Bool, true, false, cond}
use borrow.Author.Tests.{le-leb, lt-leb, leb-true, leb-false, ne_eqb}
use lib.Dec.{leb, eqb}
use mathlib.Core.Logic.{inl, inr}
use Rattle.std.specs.Int.{IsPowerOfTwo}
use Rattle.std.proofs.lemmas.Bool.{cases_lt}
use Rattle.kinds.specs.Size.{plus, larger, times, sum, largest, raised, bit_bytes}
use Rattle.kinds.specs.Parse.{max_u64}
use Rattle.kinds.proofs.SizeLaws.{raised-there, raised-on, bit-bytes}
use Rattle.helper.specs.Measure.{fit, clip, plus_measured, larger_measured, times_measured, join_measured, join, fold, holding, holding_measured}
use Rattle.helper.specs.declared.Measured.{Measured}
use Rattle.helper.specs.declared.Measured.TheVariants.{Nothing, Bytes, TooLarge}

pub fit-le : (n : ℕ) → n ≤ max_u64 → fit n ≡ Bytes n
unfolding fit
fit-le n h = rw (le-leb n max_u64 h)

pub fit-gt : (n : ℕ) → max_u64 < n → fit n ≡ TooLarge
unfolding fit
fit-gt n h = rw (lt-leb n max_u64 h)

pub clip-some : (n : ℕ) → n ≤ max_u64 → clip (Some n) ≡ Bytes n
unfolding clip
clip-some n h = fit-le n h

-- by whether a number fits
by-fit : (P : Measured → Type 0) (n : ℕ) → (n ≤ max_u64 → P (Bytes n)) → (max_u64 < n → P TooLarge) → P (fit n)
by-fit P n f g = go (leb n max_u64) refl
  where
    go : (t : Bool) → leb n max_u64 ≡ t → P (fit n)
    go true e = subst P (sym (fit-le n (leb-true n max_u64 e))) (f (leb-true n max_u64 e))
    go false e = subst P (sym (fit-gt n (leb-false n max_u64 e))) (g (leb-false n max_u64 e))

-- clipping commutes with what is done to sizes
pub clip-plus : (a b : Option ℕ) → plus_measured (clip a) (clip b) ≡ clip (plus a b)
unfolding clip plus plus_measured
clip-plus None b = refl
clip-plus (Some m) None = by-fit (λ x. plus_measured x Nothing ≡ Nothing) m (λ h. refl) (λ h. refl)
clip-plus (Some m) (Some n) =
    by-fit (λ x. plus_measured x (fit n) ≡ fit (m + n)) m
    (λ p. by-fit (λ y. plus_measured (Bytes m) y ≡ fit (m + n)) n (λ q. refl) (λ q. sym (fit-gt (m + n) (omega arith))))
    (λ p. by-fit (λ y. plus_measured TooLarge y ≡ fit (m + n)) n (λ q. sym (fit-gt (m + n) (omega arith))) (λ q. sym (fit-gt (m + n) (omega arith))))

pub clip-larger : (a b : Option ℕ) → larger_measured (clip a) (clip b) ≡ clip (larger a b)
unfolding clip larger larger_measured
clip-larger None b = refl
clip-larger (Some m) None = by-fit (λ x. larger_measured x Nothing ≡ x) m (λ h. refl) (λ h. refl)
clip-larger (Some m) (Some n) =
    by-fit (λ x. larger_measured x (fit n) ≡ fit (max m n)) m
    (λ p. by-fit (λ y. larger_measured (Bytes m) y ≡ fit (max m n)) n (λ q. sym (fit-le (max m n) (omega arith))) (λ q. sym (fit-gt (max m n) (omega arith))))
    (λ p. sym (fit-gt (max m n) (omega arith)))

pub clip-times : (n : ℕ) (a : Option ℕ) → times_measured n (clip a) ≡ clip (times n a)
unfolding clip times times_measured
clip-times n None = refl
clip-times n (Some m) = by-fit (λ x. times_measured n x ≡ fit (n * m)) m (λ p. refl) (λ p. go n p)
  where
    go : (k : ℕ) → max_u64 < m → cond (eqb k 0) (Bytes 0) TooLarge ≡ fit (k * m)
    go zero p = sym (ap fit (zero-mul m) ∙ fit-le 0 (omega arith))
    go (suc k) p = rw (ne_eqb (suc k) 0 (λ e. omega arith)) (sym (fit-gt (suc k * m) (lt-mul k p)))
      where
        lt-mul : (j : ℕ) → max_u64 < m → max_u64 < suc j * m
        lt-mul j q = let h : 1 * m ≤ suc j * m = mul-le-mul_right m (omega arith) in omega arith

pub clip-join : (k : ℕ) (a b : Option ℕ) → join_measured k (clip a) (clip b) ≡ clip (join k a b)
unfolding join_measured join
clip-join k a b = go (eqb k 29)
  where
    go : (t : Bool) → cond t (plus_measured (clip a) (clip b)) (larger_measured (clip a) (clip b)) ≡ clip (cond t (plus a b) (larger a b))
    go true = clip-plus a b
    go false = clip-larger a b

plus_assoc : (a b c : Option ℕ) → plus (plus a b) c ≡ plus a (plus b c)
unfolding plus
plus_assoc None b c = refl
plus_assoc (Some a) None c = refl
plus_assoc (Some a) (Some b) None = refl
plus_assoc (Some a) (Some b) (Some c) = ap Some (add_assoc a b c)

larger-assoc : (a b c : Option ℕ) → larger (larger a b) c ≡ larger a (larger b c)
unfolding larger
larger-assoc None b c = refl
larger-assoc (Some a) None c = refl
larger-assoc (Some a) (Some b) None = refl
larger-assoc (Some a) (Some b) (Some c) = ap Some (omega arith)

pub join-assoc : (k : ℕ) (a b c : Option ℕ) → join k (join k a b) c ≡ join k a (join k b c)
unfolding join
join-assoc k a b c = go (eqb k 29)
  where
    go : (t : Bool) → cond t (plus (cond t (plus a b) (larger a b)) c) (larger (cond t (plus a b) (larger a b)) c) ≡ cond t (plus a (cond t (plus b c) (larger b c))) (larger a (cond t (plus b c) (larger b c)))
    go true = plus_assoc a b c
    go false = larger-assoc a b c

pub fold-cons : (k : ℕ) (a : Option ℕ) (xs : List (Option ℕ)) → fold k (a ∷ xs) ≡ join k a (fold k xs)
unfolding fold join sum largest
fold-cons k a xs = go (eqb k 29)
  where
    go : (t : Bool) → cond t (plus a (sum xs)) (larger a (largest xs)) ≡ cond t (plus a (cond t (sum xs) (largest xs))) (larger a (cond t (sum xs) (largest xs)))
    go true = refl
    go false = refl

plus-zero : (a : Option ℕ) → plus (Some 0) a ≡ a
unfolding plus
plus-zero None = refl
plus-zero (Some n) = ap Some (omega arith)

larger-none : (a : Option ℕ) → larger None a ≡ a
unfolding larger
larger-none a = refl

pub join-unit : (k : ℕ) (xs : List (Option ℕ)) → join k (fold k []) (fold k xs) ≡ fold k xs
unfolding fold join sum largest
join-unit k xs = go (eqb k 29)
  where
    go : (t : Bool) → cond t (plus (cond t (Some 0) None) (cond t (sum xs) (largest xs))) (larger (cond t (Some 0) None) (cond t (sum xs) (largest xs))) ≡ cond t (sum xs) (largest xs)
    go true = plus-zero (sum xs)
    go false = larger-none (largest xs)

pub larger-some : (b : ℕ) (x : Option ℕ) → Some (max b (unwrap_or x 0)) ≡ larger (Some b) x
unfolding larger
larger-some b None = ap Some (max-zero b)
larger-some b (Some n) = refl

-- a product that fits, by a division
pub product-fits : (n a : ℕ) → (n ≡ 0 → ⊥) → a ≤ max_u64 / n → n * a ≤ max_u64
product-fits n a p h = subst (λ (j : ℕ). j ≤ max_u64) (mul_comm a n) ((le-div_iff_mul-le (omega arith)).0 h)

pub product-over : (n a : ℕ) → (n ≡ 0 → ⊥) → max_u64 / n < a → max_u64 < n * a
product-over n a p h = subst (λ (j : ℕ). max_u64 < j) (mul_comm a n) ((div-lt_iff_lt-mul (omega arith)).0 h)

pub clip-holding : (k a b : ℕ) (x : Option ℕ) → holding_measured k a b (clip x) ≡ clip (holding k a b x)
unfolding holding_measured holding clip
clip-holding k a b x = go (eqb k 25) (eqb k 28)
  where
    go : (t u : Bool) → cond t (larger_measured (fit (bit_bytes b)) (clip x)) (cond u (times_measured a (clip x)) (clip x)) ≡ clip (cond t (larger (Some (bit_bytes b)) x) (cond u (times a x) x))
    go true u = clip-larger (Some (bit_bytes b)) x
    go false true = clip-times a x
    go false false = refl

-- ---- The bytes of a bitfield of a 64-bit number of bits.

-- They fit.
pub bits_fit : (n : ℕ) → n ≤ max_u64 → fit (bit_bytes n) ≡ Bytes (bit_bytes n)
bits_fit n h = fit-le (bit_bytes n) (most ((bit-bytes n).least 61 (room h)))
  where
    room : n ≤ 18446744073709551615 → n ≤ 18446744073709551616
    room p = omega arith

    most : bit_bytes n ≤ 2305843009213693952 → bit_bytes n ≤ 18446744073709551615
    most p = omega arith

-- a smaller power of two is at most half of a larger one
half : (i j : ℕ) → 2 ^ i < 2 ^ j → 2 * 2 ^ i ≤ 2 ^ j
half i j h = elim (cases_lt i j) [
  | inl l ↦ omega (arith, pow-le-pow_right {n = 2} (omega arith) {i = suc i} {j = j} (omega arith), pow-succ' 2 i)
  | inr g ↦ absurd (omega (arith, pow-le-pow_right {n = 2} (omega arith) g))
]

-- They are the least power of two from an eighth of the bits on.
pub bytes-next_power : (n m p : ℕ) → m ≡ n / 8 + min 1 (n % 8) → IsPowerOfTwo p → m ≤ p → p / 2 < max 1 m → p ≡ bit_bytes n
bytes-next_power n m p e w l u =
    let b = bit-bytes n in
    let up = b.least w.0 (omega (arith, w.1)) in
    let one = one-le-pow b.exponent 2 (omega arith) in
    elim (cases_lt (bit_bytes n) p) [
      | inl d ↦ absurd (omega (arith, half b.exponent w.0 (omega (arith, w.1, b.power)), w.1, b.power, b.enough, one))
      | inr d ↦ omega (arith, w.1, up)
    ]
