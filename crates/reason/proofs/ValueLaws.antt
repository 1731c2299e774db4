-- Laws of values and of their text.
use Prim.Native.Nat.{ℕ, ◌+◌, ◌-◌, ◌/◌, ◌%◌, ◌≤◌, ◌<◌}
use native.Mathlib.Omega.{arith}
use mathlib.Core.Path.{◌≡◌, refl, ap, sym, ◌∙◌, subst}
use mathlib.Core.Logic.{⊎_elim}
use mathlib.Core.List.{List, [], ◌∷◌, ◌++◌}
use lib.ListN.{length, take, drop, length-append, length-take, length-drop}
use types.Run.{OneOf}
use denote.Enum.Declared.{tag_of}
use Rattle.kinds.specs.Print.{decimal}
use Rattle.kinds.specs.Sheet.{first_at, second_at, max_names}
use Rattle.kinds.proofs.DecimalLaws.{decimal-low}
use Rattle.static_str.proofs.NumberLaws.{decimal-two, decimal-fits, digits-below}
use Rattle.reason.specs.Reason.{path_text, value_text, values_text, difference_text, reason_text}
use Rattle.reason.specs.Spot.{name_at, word_of, number_at, value_at, value_length, difference_length, difference_at, NameWithin, NameShort, path_from, reason_at}
use Rattle.reason.specs.declared.find.Aspect.{Aspect}
use Rattle.reason.specs.declared.find.Aspect.TheVariants as A
use Rattle.reason.specs.contracts.find.Aspect.{the_type}

pub value-length : (s : List ℕ) → length (value_text s) ≡ 2 + length (decimal (length s)) + length s
unfolding value_text
value-length s = let e = length-append (decimal (length s)) (58 ∷ s) in omega arith

-- a number as a value: its head and its digits
number-value : (n d : ℕ) → d ≡ length (decimal n) → (32 ∷ decimal d) ++ (58 ∷ decimal n) ≡ value_text (decimal n)
unfolding value_text
number-value n d e = rw e

-- the pieces as they are written, of at most nine digits
pub few-digits-value : (n d : ℕ) → d ≡ length (decimal n) → d < 10 → (32 ∷ (48 + d) ∷ 58 ∷ []) ++ decimal n ≡ value_text (decimal n)
few-digits-value n d e h = ap (λ s. (32 ∷ s) ++ (58 ∷ decimal n)) (sym (decimal-low d h)) ∙ number-value n d e

-- of ten digits to 99
pub many-digits-value : (n d : ℕ) → d ≡ length (decimal n) → 10 ≤ d → d < 100
    → (32 ∷ (48 + d / 10 % 10) ∷ (48 + d % 10) ∷ 58 ∷ []) ++ decimal n ≡ value_text (decimal n)
many-digits-value n d e lo hi = ap (λ s. (32 ∷ s) ++ (58 ∷ decimal n)) (sym (decimal-two d lo hi)) ∙ number-value n d e

pub bytes-value : (s : List ℕ) → (32 ∷ decimal (length s)) ++ ((58 ∷ []) ++ s) ≡ value_text s
unfolding value_text
bytes-value s = refl

-- ---- A name.

name-within : (m : ℕ) (w : List ℕ) (at : ℕ) {a : Aspect} → a ≡ A.Name → NameWithin a m w at → first_at w at + second_at w at ≤ m
name-within m w at e h = subst (λ b. NameWithin b m w at) e h

value-name : (names w : List ℕ) (at : ℕ) {a : Aspect} → a ≡ A.Name → value_at a names w at ≡ name_at names w at
unfolding value_at
value-name names w at e = rw e

name-number : (w : List ℕ) (at : ℕ) {a : Aspect} → a ≡ A.Name → number_at a w at ≡ second_at w at
unfolding number_at
name-number w at e = rw e

pub name-end : (m : ℕ) (w : List ℕ) (at : ℕ) {a : Aspect} {n : ℕ} → a ≡ A.Name → NameWithin a m w at → n ≡ number_at a w at → first_at w at + n ≤ m
name-end m w at e h q = let i = name-within m w at e h in let j = name-number w at e in omega arith

name-length : (names w : List ℕ) (at : ℕ) → first_at w at + second_at w at ≤ length names → length (name_at names w at) ≡ second_at w at
unfolding name_at
name-length names w at h =
    let d = length-drop (first_at w at) names in
    let t = length-take (second_at w at) (drop (first_at w at) names) in
    omega arith

pub name-value-length : (names w : List ℕ) (at : ℕ) {a : Aspect} → a ≡ A.Name → NameWithin a (length names) w at
    → 2 + length (decimal (second_at w at)) + second_at w at ≡ length (value_text (value_at a names w at))
name-value-length names w at e h =
    ap (λ (n : ℕ). 2 + length (decimal n) + n) (sym (name-length names w at (name-within (length names) w at e h)))
    ∙ sym (value-length (name_at names w at))
    ∙ ap (λ s. length (value_text s)) (sym (value-name names w at e))

-- the part of the name bytes that the code takes
pub name-part : (names w : List ℕ) (at : ℕ) {a : Aspect} {n : ℕ} → a ≡ A.Name → n ≡ number_at a w at → take (first_at w at + n - first_at w at) (drop (first_at w at) names) ≡ value_at a names w at
unfolding name_at
name-part names w at {a} {n} e h =
    let q = name-number w at e in
    let k : first_at w at + n - first_at w at ≡ second_at w at = omega arith in
    ap (λ (k : ℕ). take k (drop (first_at w at) names)) k ∙ sym (value-name names w at e)

-- ---- A number: any other aspect, by its tag.

abbrev pub OtherTag : Aspect → Type 0
OtherTag a = OneOf (0 ∷ 1 ∷ 2 ∷ 3 ∷ 5 ∷ []) (tag_of the_type a)

name-tag : OneOf (0 ∷ 1 ∷ 2 ∷ 3 ∷ 5 ∷ []) 4 → ⊥
name-tag = ⊎_elim (λ e. omega arith) (⊎_elim (λ e. omega arith) (⊎_elim (λ e. omega arith) (⊎_elim (λ e. omega arith) (λ e. omega arith))))

pub value-number : (names w : List ℕ) (at : ℕ) (a : Aspect) → OtherTag a → value_at a names w at ≡ decimal (number_at a w at)
unfolding value_at number_at
value-number names w at A.Kind h = refl
value-number names w at A.Size h = refl
value-number names w at A.Offset h = refl
value-number names w at A.Length h = refl
value-number names w at A.Name h = absurd (name-tag h)
value-number names w at A.Count h = refl

-- ---- The length of a value.

pub name-short : (n : ℕ) {a : Aspect} → a ≡ A.Name → NameShort a n → n ≤ max_names
name-short n e h = subst (λ b. NameShort b n) e h

pub short-name : (a : Aspect) (w : List ℕ) (at : ℕ) {n : ℕ} → n ≡ number_at a w at → NameWithin a max_names w at → NameShort a n
unfolding number_at
short-name A.Kind w at e h = tt
short-name A.Size w at e h = tt
short-name A.Offset w at e h = tt
short-name A.Length w at e h = tt
short-name A.Name w at e h = omega arith
short-name A.Count w at e h = tt

pub length-of-name : (n : ℕ) {a : Aspect} → a ≡ A.Name → 2 + length (decimal n) + n ≡ value_length a n
unfolding value_length
length-of-name n e = sym (rw e)

pub length-of-number : (n : ℕ) (a : Aspect) → OtherTag a → length (value_text (decimal n)) ≡ value_length a n
unfolding value_length
length-of-number n A.Kind h = refl
length-of-number n A.Size h = refl
length-of-number n A.Offset h = refl
length-of-number n A.Length h = refl
length-of-number n A.Name h = absurd (name-tag h)
length-of-number n A.Count h = refl

length-of-value : (names w : List ℕ) (at : ℕ) (a : Aspect) → NameWithin a (length names) w at → value_length a (number_at a w at) ≡ length (value_text (value_at a names w at))
unfolding value_length number_at value_at
length-of-value names w at A.Kind h = refl
length-of-value names w at A.Size h = refl
length-of-value names w at A.Offset h = refl
length-of-value names w at A.Length h = refl
length-of-value names w at A.Name h = name-value-length names w at refl h
length-of-value names w at A.Count h = refl

-- ---- The most bytes of what follows the path.

number-most : (n : ℕ) → length (decimal n) ≤ 20 → length (value_text (decimal n)) ≤ 24
number-most n h = omega (arith, value-length (decimal n), digits-below 1 (length (decimal n)) (omega arith))

word-short : (a : Aspect) → length (word_of a) ≤ 6
unfolding word_of
word-short A.Kind = omega arith
word-short A.Size = omega arith
word-short A.Offset = omega arith
word-short A.Length = omega arith
word-short A.Name = omega arith
word-short A.Count = omega arith

pub numbers-most : (a : Aspect) (k j : ℕ) → OtherTag a → k < 18446744073709551616 → j < 18446744073709551616 → difference_length a k j ≤ 55
unfolding difference_length
numbers-most a k j h p q =
    omega
    (arith, word-short a, number-most k (decimal-fits k p), number-most j (decimal-fits j q), length-of-number k a h, length-of-number j a h)

pub names-most : (k j : ℕ) {a : Aspect} → a ≡ A.Name → NameShort a k → NameShort a j → difference_length a k j ≤ 17 + k + j
unfolding difference_length value_length word_of
names-most k j e p q = subst (λ (b : Aspect). difference_length b k j ≤ 17 + k + j) (sym e) (named (name-short k e p) (name-short j e q))
  where
    named : k ≤ max_names → j ≤ max_names → difference_length A.Name k j ≤ 17 + k + j
    named h i = omega (arith, digits-below 3 k (omega arith), digits-below 3 j (omega arith))

-- ---- The reason that two nodes differ in an aspect, in the pieces that are written.

module _ (a : Aspect) (an v : List ℕ) (at : ℕ) (bn w : List ℕ) (bt : ℕ) where
  pub reason-pieces : path_text (path_from v 0 at) ++ ((58 ∷ []) ++ (word_of a ++ (value_text (value_at a an v at) ++ value_text (value_at a bn w bt)))) ≡ reason_text (reason_at a an v at bn w bt)
  unfolding reason_text reason_at difference_text values_text word_of value_at difference_at
  reason-pieces = ap (λ (s : List ℕ). path_text (path_from v 0 at) ++ (58 ∷ s)) (go a)
    where
      go : (x : Aspect) → word_of x ++ (value_text (value_at x an v at) ++ value_text (value_at x bn w bt)) ≡ difference_text (difference_at x an v at bn w bt)
      go A.Kind = refl
      go A.Size = refl
      go A.Offset = refl
      go A.Length = refl
      go A.Name = refl
      go A.Count = refl

  pub reason-length : {k j : ℕ} → NameWithin a (length an) v at → NameWithin a (length bn) w bt → k ≡ number_at a v at → j ≡ number_at a w bt
      → length (path_text (path_from v 0 at)) + difference_length a k j ≡ length (reason_text (reason_at a an v at bn w bt))
  unfolding difference_length
  reason-length {k} {j} g h e f =
      let s = value_text (value_at a an v at) in
      let t = value_text (value_at a bn w bt) in
      let m : value_length a k ≡ length s = ap (value_length a) e ∙ length-of-value an v at a g in
      let n : value_length a j ≡ length t = ap (value_length a) f ∙ length-of-value bn w bt a h in
      let x = length-append s t in
      let y = length-append (word_of a) (s ++ t) in
      let z = length-append (path_text (path_from v 0 at)) ((58 ∷ []) ++ (word_of a ++ (s ++ t))) in
      let q : length (path_text (path_from v 0 at)) + (1 + length (word_of a) + value_length a k + value_length a j) ≡ length (path_text (path_from v 0 at) ++ ((58 ∷ []) ++ (word_of a ++ (s ++ t)))) = omega arith in
      q ∙ ap length reason-pieces

-- ---- Numbers of one and of two digits.

pub value-one : (n : ℕ) → n < 10 → 32 ∷ 49 ∷ 58 ∷ (48 + n) ∷ [] ≡ value_text (decimal n)
value-one n h = ap (λ s. (32 ∷ 49 ∷ 58 ∷ []) ++ s) (sym (decimal-low n h)) ∙ few-digits-value n 1 (sym (ap length (decimal-low n h))) (omega arith)

pub value-two : (n : ℕ) → 10 ≤ n → n < 100 → 32 ∷ 50 ∷ 58 ∷ (48 + n / 10 % 10) ∷ (48 + n % 10) ∷ [] ≡ value_text (decimal n)
value-two n lo hi = ap (λ s. (32 ∷ 50 ∷ 58 ∷ []) ++ s) (sym (decimal-two n lo hi)) ∙ few-digits-value n 2 (sym (ap length (decimal-two n lo hi))) (omega arith)

pub one-value-length : (n : ℕ) → n < 10 → 4 ≡ length (value_text (decimal n))
one-value-length n h = ap length (value-one n h)

pub two-value-length : (n : ℕ) → 10 ≤ n → n < 100 → 5 ≡ length (value_text (decimal n))
two-value-length n lo hi = ap length (value-two n lo hi)
