-- When strict reading differs from whole-text reading, and how.
use Rattle.std.specs.Prelude.{ℕ, ◌≡◌, Bool, true, ◌&&◌, not, List, [], ◌∷◌, ◌++◌, length}
use Rattle.std.specs.Prelude.{None}
use Rattle.kinds.specs.Parse.{refusal, from_str}
use Rattle.kinds.specs.Strict.{surplus_zero, numbers_met, first_surplus, from_str_strict}
use Rattle.kinds.specs.declared.ErrorKind.TheVariants.{SurplusZero}

-- None of the numbers has a surplus zero.
unfoldable pub without_surplus : List (List ℕ) → Bool
without_surplus [] = true
without_surplus (t ∷ ts) = not (surplus_zero t) && without_surplus ts

-- No number that reading meets has one, and the answers are the same.
pub record NoneMet (s : List ℕ) : Type 0 where
  pub no-first : first_surplus (numbers_met s) ≡ None
  pub without : without_surplus (numbers_met s) ≡ true
  pub alike : from_str_strict s ≡ from_str s

-- Reading meets one, and the first is refused at its first digit: `before` is what stands before it in the text.
pub record FirstMet (s : List ℕ) : Type 0 where
  pub before : List ℕ
  pub number : List ℕ
  pub earlier : List (List ℕ)
  pub later : List (List ℕ)
  pub met : numbers_met s ≡ earlier ++ (number ∷ later)
  pub without : without_surplus earlier ≡ true
  pub surplus : surplus_zero number ≡ true
  pub place : s ≡ before ++ number
  pub refuses : from_str_strict s ≡ refusal SurplusZero (length before)

-- Some number that reading meets has a surplus zero.
pub record SurplusMet (s : List ℕ) : Type 0 where
  pub number : List ℕ
  pub earlier : List (List ℕ)
  pub later : List (List ℕ)
  pub met : numbers_met s ≡ earlier ++ (number ∷ later)
  pub surplus : surplus_zero number ≡ true

-- Strict reading refuses by 19.
abbrev pub RefusesSurplus : List ℕ → Type 0
RefusesSurplus s = (at : ℕ) × (from_str_strict s ≡ refusal SurplusZero at)
