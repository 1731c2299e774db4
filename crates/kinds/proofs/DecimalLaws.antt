-- Laws of decimal text: its last digit stands after the text of a tenth.
use Prim.Native.Nat.{ℕ, zero, suc, ◌+◌, ◌/◌, ◌%◌, ◌≤◌, ◌<◌}
use native.Mathlib.Omega.{arith}
use mathlib.Core.Path.{◌≡◌, refl, ap, sym, ◌∙◌}
use mathlib.Core.List.{List, [], ◌∷◌, ◌++◌, append_assoc}
use mathlib.Core.Bool.{Bool, true, false}
use lib.Dec.{ltb}
use borrow.Author.Tests.{lt-ltb, le-ltb, ltb-true, ltb-false}
use Rattle.kinds.specs.Byte.{byte}
use Rattle.kinds.specs.Print.{digits, decimal}

pub last-digit : (f n : ℕ) (acc : List ℕ) → n < 10 → digits (suc f) n acc ≡ (byte "0" + n) ∷ acc
unfolding digits
last-digit f n acc h = rw (lt-ltb n 10 h, digits)

pub one-digit : (f n : ℕ) (acc : List ℕ) → 10 ≤ n → digits (suc f) n acc ≡ digits f (n / 10) ((byte "0" + n % 10) ∷ acc)
unfolding digits
one-digit f n acc h = rw (le-ltb n 10 h, digits)

digits-before : (f n : ℕ) (after : List ℕ) → digits f n after ≡ digits f n [] ++ after
unfolding digits
digits-before zero n after = refl
digits-before (suc f) n after = go (ltb n 10) refl (λ a. digits-before f (n / 10) a)
  where
    d : ℕ
    d = byte "0" + n % 10

    go : (t : Bool) → ltb n 10 ≡ t → ((a : List ℕ) → digits f (n / 10) a ≡ digits f (n / 10) [] ++ a) → digits (suc f) n after ≡ digits (suc f) n [] ++ after
    go true e rec = rw (e, digits)
    go false e rec = rw (e, digits) (rec (d ∷ after) ∙ sym (rw (rec (d ∷ [])) (append_assoc (digits f (n / 10) []) (d ∷ []) after)))

-- Any fuel above the number is enough.
digits-enough : (f g n : ℕ) → n < f → n < g → digits f n [] ≡ digits g n []
digits-enough zero g n h i = absurd (omega arith)
digits-enough (suc f) zero n h i = absurd (omega arith)
digits-enough (suc f) (suc g) n h i = go (ltb n 10) refl (λ j k. digits-enough f g (n / 10) j k)
  where
    d : List ℕ
    d = (byte "0" + n % 10) ∷ []

    go : (t : Bool) → ltb n 10 ≡ t → (n / 10 < f → n / 10 < g → digits f (n / 10) [] ≡ digits g (n / 10) []) → digits (suc f) n [] ≡ digits (suc g) n []
    go true e rec = last-digit f n [] (ltb-true n 10 e) ∙ sym (last-digit g n [] (ltb-true n 10 e))
    go false e rec =
        let l = ltb-false n 10 e in
        one-digit f n [] l ∙ digits-before f (n / 10) d ∙ ap (λ x. x ++ d) (rec (omega arith) (omega arith)) ∙ sym (one-digit g n [] l ∙ digits-before g (n / 10) d)

pub decimal-low : (n : ℕ) → n < 10 → decimal n ≡ (byte "0" + n) ∷ []
unfolding decimal
decimal-low n h = last-digit n n [] h

pub decimal-high : (n : ℕ) → 10 ≤ n → decimal n ≡ decimal (n / 10) ++ ((byte "0" + n % 10) ∷ [])
unfolding decimal
decimal-high n h =
    one-digit n n [] h ∙ digits-before n (n / 10) ((byte "0" + n % 10) ∷ [])
    ∙ ap (λ x. x ++ ((byte "0" + n % 10) ∷ [])) (digits-enough n (suc (n / 10)) (n / 10) (omega arith) (omega arith))
