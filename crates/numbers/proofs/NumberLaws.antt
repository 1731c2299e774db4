-- Laws of the digits at a place of a text, and where a number ends.
use Prim.Native.Nat.{ℕ, suc, ◌+◌, ◌*◌, ◌-◌, ◌/◌, ◌≤◌, ◌<◌}
use mathlib.Core.Path.{◌≡◌, refl, sym, ap, ap₂, subst, ◌∙◌}
use mathlib.Core.List.{List, [], ◌∷◌}
use mathlib.Core.Bool.{Bool, true, false, ◌&&◌}
use native.Mathlib.Decide.{dec_lt}
use native.Mathlib.Omega.{arith}
use lib.ListN.{length, drop, get_or}
use lib.Dec.{leb, ltb, eqb}
use borrow.Author.Tests.{leb-true, lt-ltb, le-ltb}
use Rattle.kinds.proofs.ListLaws.{unread, unread-end}
use Rattle.kinds.proofs.ParseLaws.{number-none, beyond-limit}
use Rattle.kinds.proofs.TableLaws.{both}
use Rattle.kinds.specs.Byte.{is_digit}
use Rattle.kinds.specs.Parse as R
use Rattle.kinds.specs.Parse.{value, no_number, more_digits, bounded, parse_number}
use Rattle.kinds.specs.Strict.{digit_count, surplus_zero}
use Rattle.kinds.specs.declared.ErrorKind.{ErrorKind}
use Rattle.kinds.specs.declared.ErrorKind.TheVariants.{UnexpectedEnd, ExpectedInteger, IntegerTooLarge}
use Rattle.parser.proofs.RestLaws.{RestOf, rest_all, rest-later, rest-shorter, unread-at, place-of-drop}
use Rattle.numbers.specs.Answer.{digits_of, digits_taken, number_at}
use Rattle.parser.specs.Run.{after}
use Rattle.numbers.specs.declared.Digits.{Digits}
use Rattle.numbers.specs.declared.Number.{Number}
use Rattle.kinds.specs.Refusal.{parse_error}
use Rattle.kinds.specs.declared.ParseError.{ParseError}
use Rattle.std.specs.Prelude.{Result, Ok, Err}

pub digits_more : (n b : ℕ) (s : List ℕ) → is_digit b ≡ true → more_digits n (b ∷ s) ≡ more_digits (n * 10 + (b - 48)) s
unfolding more_digits
digits_more n b s e = rw (e, more_digits)

pub digits-stop : (n b : ℕ) (s : List ℕ) → is_digit b ≡ false → more_digits n (b ∷ s) ≡ value n (b ∷ s)
unfolding more_digits
digits-stop n b s e = rw (e, more_digits)

pub digits-end : (n : ℕ) → more_digits n [] ≡ value n []
unfolding more_digits
digits-end n = refl

-- Past the limit the digits are passed, and the number is too large.
pub too_large_lem : (limit : ℕ) (s : List ℕ) (n : ℕ) → limit < n → bounded limit (more_digits n s) ≡ no_number IntegerTooLarge (after is_digit s)
unfolding bounded more_digits after
too_large_lem limit [] n h = beyond-limit limit n [] h
too_large_lem limit (b ∷ s) n h = go (too_large_lem limit s (n * 10 + (b - 48)) (omega arith)) (is_digit b)
  where
    go : bounded limit (more_digits (n * 10 + (b - 48)) s) ≡ no_number IntegerTooLarge (after is_digit s)
        → (d : Bool) → bounded limit (elim d [ true ↦ more_digits (n * 10 + (b - 48)) s | false ↦ value n (b ∷ s) ])
        ≡ no_number IntegerTooLarge (elim d [ true ↦ after is_digit s | false ↦ b ∷ s ])
    go more true = more
    go more false = beyond-limit limit n (b ∷ s) h

pub number-starts : (limit b : ℕ) (s : List ℕ) → is_digit b ≡ true → parse_number limit (b ∷ s) ≡ bounded limit (more_digits 0 (b ∷ s))
unfolding parse_number
number-starts limit b s e = rw (e, parse_number)

pub number-end : (limit : ℕ) → parse_number limit [] ≡ no_number UnexpectedEnd []
unfolding parse_number
number-end limit = refl

-- The same at a place.
pub digits-more-at : (n : ℕ) (s : List ℕ) (i : ℕ) → i < length s → is_digit (get_or s i 0) ≡ true → more_digits n (drop i s)
    ≡ more_digits (n * 10 + (get_or s i 0 - 48)) (drop (i + 1) s)
digits-more-at n s i h e = ap (more_digits n) (unread s i h) ∙ digits_more n _ _ e

pub digits-stop-at : (n : ℕ) (s : List ℕ) (i : ℕ) → i < length s → is_digit (get_or s i 0) ≡ false → more_digits n (drop i s) ≡ value n (drop i s)
digits-stop-at n s i h e = ap (more_digits n) (unread s i h) ∙ digits-stop n _ _ e ∙ sym (ap (value n) (unread s i h))

pub digits-end-at : (n : ℕ) (s : List ℕ) (i : ℕ) → length s ≤ i → more_digits n (drop i s) ≡ value n (drop i s)
digits-end-at n s i h = ap (more_digits n) (unread-end s i h) ∙ digits-end n ∙ sym (ap (value n) (unread-end s i h))

pub number-starts-at : (limit : ℕ) (s : List ℕ) (i : ℕ) → i < length s → is_digit (get_or s i 0) ≡ true → parse_number limit (drop i s)
    ≡ bounded limit (more_digits 0 (drop i s))
number-starts-at limit s i h e = ap (parse_number limit) (unread s i h) ∙ number-starts limit _ _ e
    ∙ sym (ap (λ (t : List ℕ). bounded limit (more_digits 0 t)) (unread s i h))

pub number-none-at : (limit : ℕ) (s : List ℕ) (i : ℕ) → i < length s → is_digit (get_or s i 0) ≡ false → parse_number limit (drop i s)
    ≡ no_number ExpectedInteger (drop i s)
number-none-at limit s i h e = ap (parse_number limit) (unread s i h) ∙ number-none limit _ _ e ∙ sym (ap (no_number ExpectedInteger) (unread s i h))

pub number-end-at : (limit : ℕ) (s : List ℕ) (i : ℕ) → length s ≤ i → parse_number limit (drop i s) ≡ no_number UnexpectedEnd (drop i s)
number-end-at limit s i h = ap (parse_number limit) (unread-end s i h) ∙ number-end limit ∙ sym (ap (no_number UnexpectedEnd) (unread-end s i h))

-- Whether one digit more goes above the limit, without going above it.
pub above-is : (acc d limit : ℕ) → d ≤ 9 → 9 ≤ limit → ltb ((limit - d) / 10) acc ≡ ltb limit (acc * 10 + d)
above-is acc d limit h l = elim (dec_lt ((limit - d) / 10) acc) [
  | yes x ↦ lt-ltb ((limit - d) / 10) acc x ∙ sym (lt-ltb limit (acc * 10 + d) (omega arith))
  | no x ↦ le-ltb ((limit - d) / 10) acc (omega arith) ∙ sym (le-ltb limit (acc * 10 + d) (omega arith))
]

pub digit-range : (b : ℕ) → is_digit b ≡ true → (48 ≤ b) × (b ≤ 57)
unfolding is_digit
digit-range b e =
    let p = both (leb 48 b) (leb b 57) e in
    (leb-true _ _ p.0, leb-true _ _ p.1)

-- ---- What the digits show.

abbrev taken : ℕ → Bool → Digits
taken n x = record { «count» = n; «surplus» = x }

pub few-digits : (first n : ℕ) → n < 2 → taken n false ≡ digits_taken first n
few-digits first n h = ap (taken n) (sym (ap (λ (x : Bool). x && eqb first 48) (le-ltb 1 n (omega arith))))

pub many-digits : (first n : ℕ) → 2 ≤ n → taken n (eqb first 48) ≡ digits_taken first n
many-digits first n h = ap (taken n) (sym (ap (λ (x : Bool). x && eqb first 48) (lt-ltb 1 n (omega arith))))

-- No digit stands at the start.
pub no-digits : (s : List ℕ) → digit_count s ≡ 0 → digits_taken 0 0 ≡ digits_of s
unfolding surplus_zero
no-digits s e = ap₂ taken (sym e) (sym (ap (λ (k : ℕ). ltb 1 k && eqb (get_or s 0 0) 48) e))

-- The first of `n` digits stands at the place.
pub all_digits_lem : (text : List ℕ) (at n : ℕ) → n ≡ digit_count (drop at text) → at < length text → digits_taken (get_or text at 0) n ≡ digits_of (drop at text)
unfolding surplus_zero
all_digits_lem text at n e l =
    ap (λ (k : ℕ). taken k (ltb 1 k && eqb (get_or text at 0) 48)) e
    ∙ ap (λ (s : List ℕ). taken (digit_count (drop at text)) (ltb 1 (digit_count (drop at text)) && eqb (get_or s 0 0) 48)) (sym (unread text at l))

pub count-more-at : (s : List ℕ) (i : ℕ) → i < length s → is_digit (get_or s i 0) ≡ true → digit_count (drop i s) ≡ suc (digit_count (drop (i + 1) s))
unfolding digit_count
count-more-at s i h e = ap digit_count (unread s i h) ∙ rw (e, digit_count)

pub count-stop-at : (s : List ℕ) (i : ℕ) → i < length s → is_digit (get_or s i 0) ≡ false → digit_count (drop i s) ≡ 0
unfolding digit_count
count-stop-at s i h e = ap digit_count (unread s i h) ∙ rw (e, digit_count)

pub count-end-at : (s : List ℕ) (i : ℕ) → length s ≤ i → digit_count (drop i s) ≡ 0
unfolding digit_count
count-end-at s i h = ap digit_count (unread-end s i h)

-- What remains after the digits is shorter by as many bytes.
pub count-run : (s : List ℕ) → length s ≡ digit_count s + length (after is_digit s)
unfolding digit_count after
count-run [] = refl
count-run (b ∷ s) = go (count-run s) (is_digit b)
  where
    go : length s ≡ digit_count s + length (after is_digit s) → (d : Bool)
        → length (b ∷ s) ≡ elim d [ true ↦ suc (digit_count s) | false ↦ 0 ] + length {A = ℕ} (elim d [ true ↦ after is_digit s | false ↦ b ∷ s ])
    go more true = omega (arith, more)
    go more false = omega arith

-- ---- The answer, and what it says of the text.

abbrev pub read_as : ℕ → ℕ → Digits → Number
read_as n to d = record { «read» = Ok (n, to); «digits» = d }

abbrev pub refused_as : ErrorKind → ℕ → Digits → Number
refused_as why to d = record { «read» = Err (parse_error why to); «digits» = d }

module _ (text s : List ℕ) (q : R.Number) where
  pub answer-value : (n to : ℕ) (d : Digits) → to ≤ length text → d ≡ digits_of s → q ≡ value n (drop to text) → read_as n to d ≡ number_at text s q
  unfolding number_at
  answer-value n to d l t e = ap₂ (read_as n) (sym (place-of-drop text to l)) t ∙ ap (number_at text s) (sym e)

  pub answer-refused : (why : ErrorKind) (to : ℕ) (d : Digits) → to ≤ length text → d ≡ digits_of s → q ≡ no_number why (drop to text) → refused_as why to d
      ≡ number_at text s q
  unfolding number_at
  answer-refused why to d l t e = ap₂ (refused_as why) (sym (place-of-drop text to l)) t ∙ ap (number_at text s) (sym e)

pub answer-ended : (text : List ℕ) (limit at : ℕ) → length text ≤ at → refused_as UnexpectedEnd (length text) (digits_taken 0 0)
    ≡ number_at text (drop at text) (parse_number limit (drop at text))
answer-ended text limit at l =
    let none : drop (length text) text ≡ drop at text = unread-end text (length text) (omega arith) ∙ sym (unread-end text at l) in
    answer-refused _ _ _ _ _ _ (omega arith) (no-digits _ (count-end-at text at l)) (number-end-at limit text at l ∙ ap (no_number UnexpectedEnd) (sym none))

-- What is left after a number is the end of the text before it.
abbrev pub LeftOf : List ℕ → R.Number → Type 0
LeftOf s (value n t) = RestOf s t
LeftOf s (no_number e t) = RestOf s t

left-later : (b : ℕ) (s : List ℕ) (q : R.Number) → LeftOf s q → LeftOf (b ∷ s) q
left-later b s (value n t) r = rest-later r
left-later b s (no_number e t) r = rest-later r

left-digits : (n : ℕ) (s : List ℕ) → LeftOf s (more_digits n s)
unfolding more_digits
left-digits n [] = rest_all
left-digits n (b ∷ s) = go (is_digit b) (left-later b s (more_digits (n * 10 + (b - 48)) s) (left-digits (n * 10 + (b - 48)) s))
  where
    go : (d : Bool) → LeftOf (b ∷ s) (more_digits (n * 10 + (b - 48)) s) → LeftOf (b ∷ s)
        (elim d [ true ↦ more_digits (n * 10 + (b - 48)) s | false ↦ value n (b ∷ s) ])
    go true h = h
    go false h = rest_all

left-bounded : (limit : ℕ) (s : List ℕ) (q : R.Number) → LeftOf s q → LeftOf s (bounded limit q)
unfolding bounded
left-bounded limit s (value n t) r = go (leb n limit)
  where
    go : (d : Bool) → LeftOf s (elim d [ true ↦ value n t | false ↦ no_number IntegerTooLarge t ])
    go true = r
    go false = r
left-bounded limit s (no_number e t) r = r

pub left-number : (limit : ℕ) (s : List ℕ) → LeftOf s (parse_number limit s)
unfolding parse_number
left-number limit [] = rest_all
left-number limit (b ∷ s) = go (is_digit b) (left-bounded limit (b ∷ s) (more_digits 0 (b ∷ s)) (left-digits 0 (b ∷ s)))
  where
    go : (d : Bool) → LeftOf (b ∷ s) (bounded limit (more_digits 0 (b ∷ s))) → LeftOf (b ∷ s)
        (elim d [ true ↦ bounded limit (more_digits 0 (b ∷ s)) | false ↦ no_number ExpectedInteger (b ∷ s) ])
    go true h = h
    go false h = rest_all

-- A number takes a digit at least.
abbrev Shorter : List ℕ → R.Number → Type 0
Shorter s (value n t) = length t < length s
Shorter s (no_number e t) = Unit {0}

shorter-bounded : (limit b : ℕ) (s : List ℕ) (q : R.Number) → LeftOf s q → Shorter (b ∷ s) (bounded limit q)
unfolding bounded
shorter-bounded limit b s (value n t) r = go (leb n limit)
  where
    go : (d : Bool) → Shorter (b ∷ s) (elim d [ true ↦ value n t | false ↦ no_number IntegerTooLarge t ])
    go true = let h = rest-shorter r in omega arith
    go false = tt
shorter-bounded limit b s (no_number e t) r = tt

shorter-number : (limit : ℕ) (s : List ℕ) → Shorter s (parse_number limit s)
unfolding parse_number
shorter-number limit [] = tt
shorter-number limit (b ∷ s) = go (is_digit b) refl
  where
    go : (d : Bool) → is_digit b ≡ d → Shorter (b ∷ s) (elim d [ true ↦ bounded limit (more_digits 0 (b ∷ s)) | false ↦ no_number ExpectedInteger (b ∷ s) ])
    go true e = rw (digits_more 0 b s e) (shorter-bounded limit b s (more_digits (0 * 10 + (b - 48)) s) (left-digits (0 * 10 + (b - 48)) s))
    go false e = tt

pub value-shorter : (limit : ℕ) (s : List ℕ) (n : ℕ) (t : List ℕ) → parse_number limit s ≡ value n t → length t < length s
value-shorter limit s n t e = subst (Shorter s) e (shorter-number limit s)

-- Of an answer: what was read, what is unread after it, and that its place is at or after `at`, within the text.
abbrev pub NumberIs : List ℕ → ℕ → Result (ℕ × ℕ) ParseError → R.Number → Type 0
NumberIs text at (Ok (v, to)) q = (q ≡ value v (drop to text)) × ((at ≤ to) × (to ≤ length text))
NumberIs text at (Err e) q = (q ≡ no_number e.«kind» (drop e.«split_point» text)) × ((at ≤ e.«split_point») × (e.«split_point» ≤ length text))

answered : (text : List ℕ) (at : ℕ) → at ≤ length text → (q : R.Number) → LeftOf (drop at text) q → NumberIs text at (number_at text (drop at text) q).«read» q
unfolding number_at
answered text at l (value n t) r = let u = unread-at l r in (ap (value n) u.is, (u.onward, u.within))
answered text at l (no_number e t) r = let u = unread-at l r in (ap (no_number e) u.is, (u.onward, u.within))

pub number_is : (text : List ℕ) (limit at : ℕ) (r : Number) → at ≤ length text → r ≡ number_at text (drop at text) (parse_number limit (drop at text))
    → NumberIs text at r.«read» (parse_number limit (drop at text))
number_is text limit at r l e = rw e (answered text at l (parse_number limit (drop at text)) (left-number limit (drop at text)))

-- Its digits.
digits-told : (text s : List ℕ) (q : R.Number) → (number_at text s q).«digits» ≡ digits_of s
unfolding number_at
digits-told text s (value n t) = refl
digits-told text s (no_number e t) = refl

pub number_digits : (text : List ℕ) (limit at : ℕ) (r : Number) → r ≡ number_at text (drop at text) (parse_number limit (drop at text)) → r.«digits»
    ≡ digits_of (drop at text)
number_digits text limit at r e = ap (λ (x : Number). x.«digits») e ∙ digits-told text (drop at text) (parse_number limit (drop at text))

-- What is left after a number is what follows its digits.
after-digits : (s : List ℕ) → after is_digit s ≡ drop (digit_count s) s
unfolding after digit_count
after-digits [] = refl
after-digits (b ∷ s) = go (after-digits s) (is_digit b)
  where
    go : after is_digit s ≡ drop (digit_count s) s → (d : Bool)
        → ◌≡◌ {A = List ℕ} (elim d [ true ↦ after is_digit s | false ↦ b ∷ s ]) (drop (elim d [ true ↦ suc (digit_count s) | false ↦ 0 ]) (b ∷ s))
    go more true = more
    go more false = refl

abbrev RestIs : List ℕ → R.Number → Type 0
RestIs r (value n t) = t ≡ r
RestIs r (no_number e t) = Unit {0}

rest-digits : (n : ℕ) (s : List ℕ) → RestIs (after is_digit s) (more_digits n s)
unfolding more_digits after
rest-digits n [] = refl
rest-digits n (b ∷ s) = go (is_digit b) (rest-digits (n * 10 + (b - 48)) s)
  where
    go : (d : Bool) → RestIs (after is_digit s) (more_digits (n * 10 + (b - 48)) s)
        → RestIs (elim d [ true ↦ after is_digit s | false ↦ b ∷ s ]) (elim d [ true ↦ more_digits (n * 10 + (b - 48)) s | false ↦ value n (b ∷ s) ])
    go true h = h
    go false h = refl

rest-bounded : (limit : ℕ) (r : List ℕ) (q : R.Number) → RestIs r q → RestIs r (bounded limit q)
unfolding bounded
rest-bounded limit r (value n t) h = go (leb n limit)
  where
    go : (d : Bool) → RestIs r (elim d [ true ↦ value n t | false ↦ no_number IntegerTooLarge t ])
    go true = h
    go false = tt
rest-bounded limit r (no_number e t) h = tt

rest-number : (limit : ℕ) (s : List ℕ) → RestIs (after is_digit s) (parse_number limit s)
unfolding parse_number
rest-number limit [] = tt
rest-number limit (b ∷ s) = go (is_digit b)
  where
    go : (d : Bool) → RestIs (after is_digit (b ∷ s)) (elim d [ true ↦ bounded limit (more_digits 0 (b ∷ s)) | false ↦ no_number ExpectedInteger (b ∷ s) ])
    go true = rest-bounded limit (after is_digit (b ∷ s)) (more_digits 0 (b ∷ s)) (rest-digits 0 (b ∷ s))
    go false = tt

pub value-rest : (limit : ℕ) (s : List ℕ) (n : ℕ) (t : List ℕ) → parse_number limit s ≡ value n t → t ≡ drop (digit_count s) s
value-rest limit s n t e = subst (RestIs (after is_digit s)) e (rest-number limit s) ∙ after-digits s
