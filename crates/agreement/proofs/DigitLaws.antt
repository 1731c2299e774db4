-- Decimal numbers are read back.
use Prim.Native.Nat.{ℕ, zero, suc, ◌+◌, ◌*◌, ◌/◌, ◌%◌, ◌<◌}
use mathlib.Core.Path.{◌≡◌, refl, ap, ◌∙◌}
use mathlib.Core.List.{List, [], ◌∷◌, ◌++◌}
use mathlib.Core.Bool.{Bool, true, false, false≢true}
use native.Mathlib.Omega.{arith}
use lib.Dec.{ltb}
use borrow.Author.Tests.{ltb-true, ltb-false, le-leb}
use Rattle.kinds.specs.Byte.{byte, is_digit, starts_digit}
use Rattle.kinds.specs.Parse.{value, more_digits, bounded, parse_number}
use Rattle.kinds.specs.Print.{digits, decimal}
use Rattle.kinds.proofs.DecimalLaws.{last-digit, one-digit}

pub digit-byte : (n : ℕ) → n < 10 → is_digit (byte "0" + n) ≡ true
unfolding is_digit
digit-byte n h = rw (le-leb (byte "0") (byte "0" + n) (omega arith), le-leb (byte "0" + n) (byte "9") (omega arith))

pub digits-stop : (n : ℕ) (r : List ℕ) → starts_digit r ≡ false → more_digits n r ≡ value n r
unfolding more_digits starts_digit
digits-stop n [] h = refl
digits-stop n (b ∷ s) h = rw (h, more_digits)

digits_more : (n d : ℕ) (s : List ℕ) → d < 10 → more_digits n ((byte "0" + d) ∷ s) ≡ more_digits (n * 10 + d) s
unfolding more_digits
digits_more n d s h = rw (digit-byte d h, more_digits) (ap (λ x. more_digits (n * 10 + x) s) (omega arith))

read-digits : (f n : ℕ) (acc : List ℕ) (r : List ℕ) → n < f → more_digits 0 (digits f n acc ++ r) ≡ more_digits n (acc ++ r)
read-digits zero n acc r h = absurd (omega arith)
read-digits (suc f) n acc r h = go (ltb n 10) refl (λ k. read-digits f (n / 10) ((byte "0" + n % 10) ∷ acc) r k)
  where
    go : (t : Bool) → ltb n 10 ≡ t → (n / 10 < f → more_digits 0 (digits f (n / 10) ((byte "0" + n % 10) ∷ acc) ++ r) ≡ more_digits (n / 10) ((byte "0" + n % 10) ∷ (acc ++ r)))
        → more_digits 0 (digits (suc f) n acc ++ r) ≡ more_digits n (acc ++ r)
    go true e ih = rw (last-digit f n acc (ltb-true n 10 e)) (digits_more 0 n (acc ++ r) (ltb-true n 10 e) ∙ ap (λ x. more_digits x (acc ++ r)) (omega arith))
    go false e ih = rw (one-digit f n acc (ltb-false n 10 e))
        (ih (omega (arith, ltb-false n 10 e)) ∙ digits_more (n / 10) (n % 10) (acc ++ r) (omega arith) ∙ ap (λ x. more_digits x (acc ++ r)) (omega arith))

digits-start : (f n : ℕ) (acc : List ℕ) (r : List ℕ) → n < f → starts_digit (digits f n acc ++ r) ≡ true
unfolding starts_digit
digits-start zero n acc r h = absurd (omega arith)
digits-start (suc f) n acc r h = go (ltb n 10) refl (λ k. digits-start f (n / 10) ((byte "0" + n % 10) ∷ acc) r k)
  where
    go : (t : Bool) → ltb n 10 ≡ t → (n / 10 < f → starts_digit (digits f (n / 10) ((byte "0" + n % 10) ∷ acc) ++ r) ≡ true) → starts_digit (digits (suc f) n acc ++ r) ≡ true
    go true e ih = rw (last-digit f n acc (ltb-true n 10 e)) (digit-byte n (ltb-true n 10 e))
    go false e ih = rw (one-digit f n acc (ltb-false n 10 e)) (ih (omega (arith, ltb-false n 10 e)))

pub decimal-start : (n : ℕ) (r : List ℕ) → starts_digit (decimal n ++ r) ≡ true
unfolding decimal
decimal-start n r = digits-start (suc n) n [] r (omega arith)

pub number-start : (limit : ℕ) (s : List ℕ) → starts_digit s ≡ true → parse_number limit s ≡ bounded limit (more_digits 0 s)
unfolding starts_digit parse_number
number-start limit [] h = absurd (false≢true h)
number-start limit (b ∷ s) h = rw (h, parse_number)

pub read-decimal : (limit n : ℕ) (r : List ℕ) → starts_digit r ≡ false → parse_number limit (decimal n ++ r) ≡ bounded limit (value n r)
unfolding decimal
read-decimal limit n r h = number-start limit (decimal n ++ r) (decimal-start n r) ∙ ap (bounded limit) (read-digits (suc n) n [] r (omega arith) ∙ digits-stop n r h)
