-- Laws of reading that need no walk over the text: where a number begins, a number within its limit, a name that is good, qualifiers.
use Prim.Native.Nat.{ℕ, ◌≤◌, ◌<◌}
use mathlib.Core.Path.{◌≡◌}
use mathlib.Core.Bool.{Bool, true, false}
use mathlib.Core.List.{List, [], ◌∷◌}
use native.Mathlib.Omega.{arith}
use lib.ListN.{length}
use borrow.Author.Tests.{le-leb, lt-leb}
use Rattle.kinds.specs.Byte.{is_digit}
use Rattle.kinds.specs.Name.{verify_name}
use Rattle.kinds.specs.Parse.{value, no_number, bounded, parse_number, named, unnamed, check_name, is_qualifier, strip_leading_qualifiers}
use Rattle.kinds.specs.declared.ContainerKind.{ContainerKind}
use Rattle.kinds.specs.declared.ErrorKind.TheVariants.{ExpectedInteger, IntegerTooLarge, InvalidIdentifier}

pub number-none : (limit b : ℕ) (s : List ℕ) → is_digit b ≡ false → parse_number limit (b ∷ s) ≡ no_number ExpectedInteger (b ∷ s)
unfolding parse_number
number-none limit b s e = rw (e, parse_number)

module _ (limit n : ℕ) (s : List ℕ) where
  pub within-limit : n ≤ limit → bounded limit (value n s) ≡ value n s
  unfolding bounded
  within-limit h = rw (le-leb n limit h, bounded)

  pub beyond-limit : limit < n → bounded limit (value n s) ≡ no_number IntegerTooLarge s
  unfolding bounded
  beyond-limit h = rw (lt-leb n limit h, bounded)

module _ (k : ContainerKind) (s here next : List ℕ) where
  pub name-checked : verify_name s ≡ true → check_name k s here next ≡ named s next
  unfolding check_name
  name-checked g = rw (g, check_name)

  pub name-bad : verify_name s ≡ false → check_name k s here next ≡ unnamed (InvalidIdentifier k) here
  unfolding check_name
  name-bad g = rw (g, check_name)

-- Stripping takes off a beginning and adds nothing.
pub strip-shorter : (s : List ℕ) → length (strip_leading_qualifiers s) ≤ length s
unfolding strip_leading_qualifiers
strip-shorter [] = omega arith
strip-shorter (b ∷ s) = go (is_qualifier b) (strip-shorter s)
  where
    go : (y : Bool) → length (strip_leading_qualifiers s) ≤ length s → length {A = ℕ} (elim y [ true ↦ strip_leading_qualifiers s | false ↦ b ∷ s ]) ≤ length (b ∷ s)
    go true h = omega (arith, h)
    go false h = omega arith
