-- Laws of digits as bytes of a word.
use Prim.Native.Nat.{ℕ, ◌+◌, ◌-◌, ◌*◌, ◌/◌, ◌%◌, ◌≤◌, ◌<◌}
use native.Mathlib.Omega.{arith}
use native.Mathlib.Nat.{mod-eq_of_lt}
use mathlib.Core.Path.{◌≡◌, ap, ap₂, sym, ◌∙◌}
use mathlib.Core.List.{List, [], ◌∷◌, ◌++◌, append_assoc}
use lib.ListN.{length}
use Rattle.kinds.specs.Print.{decimal}
use Rattle.kinds.proofs.DecimalLaws.{decimal-low}
use Rattle.static_str.proofs.NumberLaws.{decimal-two, decimal-three, decimal-four, decimal-last-four, decimal-more-eight}
use Rattle.lines.proofs.PutLaws.{put_next, put-append, put_same}
use Rattle.lines.specs.Answer.{Put}
use Rattle.lines.specs.Digits.{in_fours, in_twos, four_digits, four_packed, eight_packed, two_bytes, four_bytes, eight_bytes}

-- ---- Two numbers below 10,000 in a word, divided by 100 at once: 10486 / 1048576 is a little more than a hundredth.

hundreds-product : (lo hi : ℕ) → (lo + 4294967296 * hi) * 10486 / 1048576 ≡ lo * 10486 / 1048576 + 42950656 * hi
hundreds-product lo hi = omega arith

hundredth : (x : ℕ) → x < 10000 → x * 10486 / 1048576 ≡ x / 100
hundredth x h = omega arith

low-hundreds : (q hi : ℕ) → q < 100 → (q + 42950656 * hi) % 128 ≡ q
low-hundreds q hi h = omega arith

high-hundreds : (q hi : ℕ) → q < 100 → hi < 10000 → (q + 42950656 * hi) / 4294967296 ≡ hi / 100
high-hundreds q hi h k = omega arith

-- a word of two halves with their hundreds put apart
apart : (x lo hi q r : ℕ) → x ≡ lo + 4294967296 * hi
    → x + (q + r * 4294967296) * 65436 ≡ lo + 65436 * q + 4294967296 * (hi + 65436 * r)
apart x lo hi q r e = omega arith

grouped : (a b c d : ℕ) → a + 65536 * b + 4294967296 * (c + 65536 * d) ≡ a + 65536 * b + 4294967296 * c + 281474976710656 * d
grouped a b c d = omega arith

low_half : (n : ℕ) → n % 10000 + 65436 * (n % 10000 / 100) ≡ n % 100 + 65536 * (n / 100 % 100)
low_half n = omega arith

high_half : (n : ℕ) → n / 10000 + 65436 * (n / 10000 / 100) ≡ n / 10000 % 100 + 65536 * (n / 1000000)
high_half n = omega arith

below-10000 : (n : ℕ) → n % 10000 < 10000
below-10000 n = omega arith

halves-few : (n : ℕ) → n < 100000000 → (n / 10000 < 10000) × ((n % 10000 / 100 < 100) × (n / 10000 / 100 < 128))
halves-few n h = (omega arith, (omega arith, omega arith))

pub twos-are : (n x : ℕ) → n < 100000000 → x ≡ in_fours n
    → x + (x * 10486 / 1048576 % 128 + x * 10486 / 1048576 / 4294967296 % 128 * 4294967296) * 65436 ≡ in_twos n
unfolding in_twos
twos-are n x h e = rw (q, r) (apart x lo hi (lo / 100) (hi / 100) e ∙ sums)
  where
    lo : ℕ
    lo = n % 10000

    hi : ℕ
    hi = n / 10000

    few : (hi < 10000) × ((lo / 100 < 100) × (hi / 100 < 128))
    few = halves-few n h

    p : x * 10486 / 1048576 ≡ lo / 100 + 42950656 * hi
    p = ap (λ (y : ℕ). y * 10486 / 1048576) e ∙ hundreds-product lo hi ∙ ap (λ (y : ℕ). y + 42950656 * hi) (hundredth lo (below-10000 n))

    q : x * 10486 / 1048576 % 128 ≡ lo / 100
    q = ap (λ (y : ℕ). y % 128) p ∙ low-hundreds (lo / 100) hi few.1.0

    r : x * 10486 / 1048576 / 4294967296 % 128 ≡ hi / 100
    r = ap (λ (y : ℕ). y / 4294967296 % 128) p ∙ ap (λ (y : ℕ). y % 128) (high-hundreds (lo / 100) hi few.1.0 few.0) ∙ mod-eq_of_lt few.1.1

    sums : lo + 65436 * (lo / 100) + 4294967296 * (hi + 65436 * (hi / 100)) ≡ in_twos n
    sums = rw (low_half n, high_half n) (grouped (n % 100) (n / 100 % 100) (n / 10000 % 100) (n / 1000000))

-- ---- Four numbers below 100 in a word, divided by 10 at once: 103 / 1024 is a little more than a tenth.

tens-product : (a b c d : ℕ)
    → (a + 65536 * b + 4294967296 * c + 281474976710656 * d) * 103 / 1024 ≡ a * 103 / 1024 + 6592 * b + 432013312 * c + 28312424415232 * d
tens-product a b c d = omega arith

tenth : (x : ℕ) → x < 100 → x * 103 / 1024 ≡ x / 10
tenth x h = omega arith

low-16 : (x y : ℕ) → x < 16 → (x + 16 * y) % 16 ≡ x
low-16 x y h = omega arith

module _ (q b c d : ℕ) (l : q < 10) (m : b < 100) (n : c < 100) where
  tens-0 : (q + 6592 * b + 432013312 * c + 28312424415232 * d) % 16 ≡ q
  tens-0 = omega arith

  tens-1 : (q + 6592 * b + 432013312 * c + 28312424415232 * d) / 65536 % 16 ≡ b / 10
  tens-1 =
      let e : (q + 6592 * b + 432013312 * c + 28312424415232 * d) / 65536 ≡ b / 10 + 16 * (412 * c + 27000832 * d) = omega arith in
      ap (λ (y : ℕ). y % 16) e ∙ low-16 (b / 10) (412 * c + 27000832 * d) (omega arith)

  tens-2 : (q + 6592 * b + 432013312 * c + 28312424415232 * d) / 4294967296 % 16 ≡ c / 10
  tens-2 =
      let e : (q + 6592 * b + 432013312 * c + 28312424415232 * d) / 4294967296 ≡ c / 10 + 16 * (412 * d) = omega arith in
      ap (λ (y : ℕ). y % 16) e ∙ low-16 (c / 10) (412 * d) (omega arith)

  tens-3 : d < 100 → (q + 6592 * b + 432013312 * c + 28312424415232 * d) / 281474976710656 % 16 ≡ d / 10
  tens-3 o =
      let e : (q + 6592 * b + 432013312 * c + 28312424415232 * d) / 281474976710656 ≡ d / 10 = omega arith in
      ap (λ (y : ℕ). y % 16) e ∙ mod-eq_of_lt (omega arith)

-- a word of four pairs with their tens put apart, and made digits
packs : (x a b c d p q r s i j k l : ℕ) → x ≡ a + 65536 * b + 4294967296 * c + 281474976710656 * d → a ≡ 10 * p + i → b ≡ 10 * q + j → c ≡ 10 * r + k
    → d ≡ 10 * s + l
    → x + (p + q * 65536 + (r * 4294967296 + s * 281474976710656)) * 246 + 3472328296227680304
    ≡ (48 + i) + 256 * (48 + p) + 65536 * (48 + j) + 16777216 * (48 + q)
    + 4294967296 * ((48 + k) + 256 * (48 + r) + 65536 * (48 + l) + 16777216 * (48 + s))
packs x a b c d p q r s i j k l e f g h m = omega arith

pair : (n : ℕ) → n % 100 ≡ 10 * (n / 10 % 10) + n % 10
pair n = omega arith

second-pair : (n : ℕ) → n / 100 % 100 ≡ 10 * (n / 1000 % 10) + n / 100 % 10
second-pair n = omega arith

last-pair : (n : ℕ) → n < 100000000 → n / 1000000 ≡ 10 * (n / 10000 / 1000 % 10) + n / 10000 / 100 % 10
last-pair n h = omega arith

pair-tens : (n : ℕ) → n % 100 / 10 ≡ n / 10 % 10
pair-tens n = omega arith

second-tens : (n : ℕ) → n / 100 % 100 / 10 ≡ n / 1000 % 10
second-tens n = omega arith

last-tens : (n : ℕ) → n < 100000000 → n / 1000000 / 10 ≡ n / 10000 / 1000 % 10
last-tens n h = omega arith

pairs-few : (n : ℕ) → n < 100000000 → (n % 100 < 100) × ((n % 100 / 10 < 10) × ((n / 100 % 100 < 100) × ((n / 10000 % 100 < 100) × (n / 1000000 < 100))))
pairs-few n h = (omega arith, (omega arith, (omega arith, (omega arith, omega arith))))

pub tens-are : (n x : ℕ) → n < 100000000 → x ≡ in_twos n
    → x
    + (x * 103 / 1024 % 16 + x * 103 / 1024 / 65536 % 16 * 65536
    + (x * 103 / 1024 / 4294967296 % 16 * 4294967296 + x * 103 / 1024 / 281474976710656 % 16 * 281474976710656)) * 246
    + 3472328296227680304 ≡ eight_packed n
unfolding in_twos eight_packed four_packed
tens-are n x h e =
    rw (p0, p1, p2, p3)
    (packs x a b c d (n / 10 % 10) (n / 1000 % 10) (n / 10000 / 10 % 10) (n / 10000 / 1000 % 10) (n % 10) (n / 100 % 10) (n / 10000 % 10) (n / 10000 / 100 % 10)
    e (pair n) (second-pair n) (pair (n / 10000)) (last-pair n h))
  where
    a : ℕ
    a = n % 100

    b : ℕ
    b = n / 100 % 100

    c : ℕ
    c = n / 10000 % 100

    d : ℕ
    d = n / 1000000

    few : (a < 100) × ((a / 10 < 10) × ((b < 100) × ((c < 100) × (d < 100))))
    few = pairs-few n h

    q : x * 103 / 1024 ≡ a / 10 + 6592 * b + 432013312 * c + 28312424415232 * d
    q = ap (λ (y : ℕ). y * 103 / 1024) e ∙ tens-product a b c d ∙ ap (λ (y : ℕ). y + 6592 * b + 432013312 * c + 28312424415232 * d) (tenth a few.0)

    p0 : x * 103 / 1024 % 16 ≡ n / 10 % 10
    p0 = ap (λ (y : ℕ). y % 16) q ∙ tens-0 (a / 10) b c d few.1.0 few.1.1.0 few.1.1.1.0 ∙ pair-tens n

    p1 : x * 103 / 1024 / 65536 % 16 ≡ n / 1000 % 10
    p1 = ap (λ (y : ℕ). y / 65536 % 16) q ∙ tens-1 (a / 10) b c d few.1.0 few.1.1.0 few.1.1.1.0 ∙ second-tens n

    p2 : x * 103 / 1024 / 4294967296 % 16 ≡ n / 10000 / 10 % 10
    p2 = ap (λ (y : ℕ). y / 4294967296 % 16) q ∙ tens-2 (a / 10) b c d few.1.0 few.1.1.0 few.1.1.1.0 ∙ pair-tens (n / 10000)

    p3 : x * 103 / 1024 / 281474976710656 % 16 ≡ n / 10000 / 1000 % 10
    p3 = ap (λ (y : ℕ). y / 281474976710656 % 16) q ∙ tens-3 (a / 10) b c d few.1.0 few.1.1.0 few.1.1.1.0 few.1.1.1.1 ∙ last-tens n h

-- ---- The sums fit into 64 bits.

pub twos_small : (n x : ℕ) → n < 100000000 → x ≡ in_twos n → x ≤ 27866447902605411
unfolding in_twos
twos_small n x h e =
    let few = pairs-few n h in
    summed (n % 100) (n / 100 % 100) (n / 10000 % 100) (n / 1000000) x few.0 few.1.1.0 few.1.1.1.0 few.1.1.1.1 e
  where
    summed : (a b c d x : ℕ) → a < 100 → b < 100 → c < 100 → d < 100 → x ≡ a + 65536 * b + 4294967296 * c + 281474976710656 * d → x ≤ 27866447902605411
    summed a b c d x h i j k e = omega arith

pub digits-fit : (x y z t u : ℕ) → x ≤ 27866447902605411
    → (x + (y % 16 + z % 16 * 65536 + (t % 16 * 4294967296 + u % 16 * 281474976710656)) * 246 < 18446744073709551616)
    × (x + (y % 16 + z % 16 * 65536 + (t % 16 * 4294967296 + u % 16 * 281474976710656)) * 246 + 3472328296227680304 < 18446744073709551616)
digits-fit x y z t u h = summed x (y % 16) (z % 16) (t % 16) (u % 16) h (low y) (low z) (low t) (low u)
  where
    low : (n : ℕ) → n % 16 < 16
    low n = omega arith

    summed : (x a b c d : ℕ) → x ≤ 27866447902605411 → a < 16 → b < 16 → c < 16 → d < 16
        → (x + (a + b * 65536 + (c * 4294967296 + d * 281474976710656)) * 246 < 18446744073709551616)
        × (x + (a + b * 65536 + (c * 4294967296 + d * 281474976710656)) * 246 + 3472328296227680304 < 18446744073709551616)
    summed x a b c d h i j k l = (omega arith, omega arith)

-- ---- Bytes of a word.

four_bytes_lem : (a b c d k : ℕ) → a < 256 → b < 256 → c < 256 → d < 256
    → four_bytes (a + 256 * b + 65536 * c + 16777216 * d + 4294967296 * k) ≡ d ∷ c ∷ b ∷ a ∷ []
unfolding four_bytes two_bytes
four_bytes_lem a b c d k ha hb hc hd =
    let w : ℕ = a + 256 * b + 65536 * c + 16777216 * d + 4294967296 * k in
    let pd : w / 65536 / 256 % 256 ≡ d = omega arith in
    let pc : w / 65536 % 256 ≡ c = omega arith in
    let pb : w / 256 % 256 ≡ b = omega arith in
    let pa : w % 256 ≡ a = omega arith in
    rw (pd, pc, pb, pa)

-- The last digits, and those before them.
pub low-digits : (n : ℕ) → four_bytes (eight_packed n) ≡ four_digits n
unfolding eight_packed four_packed four_digits
low-digits n = four_bytes_lem (48 + n % 10) (48 + n / 10 % 10) (48 + n / 100 % 10) (48 + n / 1000 % 10) (four_packed (n / 10000))
    (omega arith) (omega arith) (omega arith) (omega arith)

pub high-digits : (n : ℕ) → four_bytes (eight_packed n / 4294967296) ≡ four_digits (n / 10000)
unfolding eight_packed four_packed four_digits
high-digits n =
    let m : ℕ = n / 10000 in
    let e : eight_packed n / 4294967296 ≡ four_packed m + 4294967296 * 0 = omega arith in
    ap four_bytes e ∙ four_bytes_lem (48 + m % 10) (48 + m / 10 % 10) (48 + m / 100 % 10) (48 + m / 1000 % 10) 0 (omega arith) (omega arith) (omega arith)
    (omega arith)

-- ---- Digits that are bytes of a word, written.

last-four : (n : ℕ) → 10000 ≤ n → decimal n ≡ decimal (n / 10000) ++ four_digits n
unfolding four_digits
last-four n h = decimal-last-four n h

pub half-digits : (n w : ℕ) → 10000 ≤ n → w ≡ eight_packed n → decimal (n / 10000) ++ four_bytes w ≡ decimal n
half-digits n w h e = ap (λ s. decimal (n / 10000) ++ s) (ap four_bytes e ∙ low-digits n) ∙ sym (last-four n h)

-- of a number's last eight digits, none is changed by what stands before them
same_low : (n : ℕ) → four_digits (n % 100000000) ≡ four_digits n
unfolding four_digits
same_low n = rw (thousands, hundreds, tens, ones)
  where
    thousands : n % 100000000 / 1000 % 10 ≡ n / 1000 % 10
    thousands = omega arith

    hundreds : n % 100000000 / 100 % 10 ≡ n / 100 % 10
    hundreds = omega arith

    tens : n % 100000000 / 10 % 10 ≡ n / 10 % 10
    tens = omega arith

    ones : n % 100000000 % 10 ≡ n % 10
    ones = omega arith

same-high : (n : ℕ) → four_digits (n % 100000000 / 10000) ≡ four_digits (n / 10000)
unfolding four_digits
same-high n = rw (thousands, hundreds, tens, ones)
  where
    thousands : n % 100000000 / 10000 / 1000 % 10 ≡ n / 10000 / 1000 % 10
    thousands = omega arith

    hundreds : n % 100000000 / 10000 / 100 % 10 ≡ n / 10000 / 100 % 10
    hundreds = omega arith

    tens : n % 100000000 / 10000 / 10 % 10 ≡ n / 10000 / 10 % 10
    tens = omega arith

    ones : n % 100000000 / 10000 % 10 ≡ n / 10000 % 10
    ones = omega arith

last-eight : (n w : ℕ) → 100000000 ≤ n → w ≡ eight_packed (n % 100000000) → decimal (n / 100000000) ++ eight_bytes w ≡ decimal n
unfolding eight_bytes
last-eight n w h e =
    let m : ℕ = n % 100000000 in
    let f : n / 10000 / 10000 ≡ n / 100000000 = omega arith in
    let low : four_bytes w ≡ four_digits n = ap four_bytes e ∙ low-digits m ∙ same_low n in
    let high : four_bytes (w / 4294967296) ≡ four_digits (n / 10000) = ap (λ (x : ℕ). four_bytes (x / 4294967296)) e ∙ high-digits m ∙ same-high n in
    ap₂ (λ s t. decimal (n / 100000000) ++ (s ++ t)) high low
    ∙ sym (append_assoc (decimal (n / 100000000)) (four_digits (n / 10000)) (four_digits n))
    ∙ ap (λ s. s ++ four_digits n) (ap (λ (x : ℕ). decimal x ++ four_digits (n / 10000)) (sym f) ∙ sym (last-four (n / 10000) (omega arith)))
    ∙ sym (last-four n (omega arith))

-- Eight digits behind others.
module _ {o m : List ℕ} {a p : ℕ} (n : ℕ) (h : 100000000 ≤ n) (f : Put o a (decimal (n / 100000000)) m p) where
  pub eight-room : a + length (decimal n) ≤ length o → length m ≡ length o → p + 8 ≤ length m
  eight-room k l = let d = decimal-more-eight n h in let q = put_next f (omega arith) in omega arith

  pub eight-put : {e : List ℕ} {r : ℕ} (w : ℕ) → w ≡ eight_packed (n % 100000000) → Put m p (eight_bytes w) e r → Put o a (decimal n) e r
  eight-put w q g = put_same (last-eight n w h q) (put-append _ _ f g)

-- A number of at most four digits.
module _ (n w : ℕ) (e : four_bytes w ≡ four_digits n) where
  pub short-one : n < 10 → (w % 256) ∷ [] ≡ decimal n
  unfolding four_bytes two_bytes four_digits
  short-one h =
      let d : w % 256 ≡ 48 + n % 10 = cc in
      let f : w % 256 ≡ 48 + n = omega arith in
      ap (λ (b : ℕ). b ∷ []) f ∙ sym (decimal-low n h)

  pub short-two : 10 ≤ n → n < 100 → two_bytes w ≡ decimal n
  unfolding four_bytes two_bytes four_digits
  short-two l h =
      let d : two_bytes w ≡ (48 + n / 10 % 10) ∷ (48 + n % 10) ∷ [] = cc in
      d ∙ sym (decimal-two n l h)

  pub short-three : 100 ≤ n → n < 1000 → (w / 65536 % 256) ∷ two_bytes w ≡ decimal n
  unfolding four_bytes two_bytes four_digits
  short-three l h =
      let d : ◌≡◌ {A = List ℕ} ((w / 65536 % 256) ∷ two_bytes w) ((48 + n / 100 % 10) ∷ (48 + n / 10 % 10) ∷ (48 + n % 10) ∷ []) = cc in
      d ∙ sym (decimal-three n l h)

  pub short-four : 1000 ≤ n → n < 10000 → four_bytes w ≡ decimal n
  unfolding four_digits
  short-four l h = e ∙ sym (decimal-four n l h)
