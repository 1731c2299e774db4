-- How entries tile a signature: a type's bytes and its number's digits in turn, with nothing between them and nothing left (02, N1).
use Rattle.std.specs.Prelude.{ℕ, ◌+◌, ◌-◌, ◌*◌, ◌≤◌, ◌≡◌, Bool, true, false, ◌&&◌, List, [], ◌∷◌, ◌++◌, length}
use Rattle.kinds.specs.Byte.{byte, is_digit, starts_digit}
use Rattle.kinds.specs.Parse.{max_u32}
use Rattle.signature.specs.Signature.{Entry, entry}

unfoldable pub all_digits : List ℕ → Bool
all_digits [] = true
all_digits (b ∷ s) = is_digit b && all_digits s

-- The value of decimal digits that follow digits of value `n`.
unfoldable pub value_after : ℕ → List ℕ → ℕ
value_after n [] = n
value_after n (b ∷ s) = value_after (n * 10 + (b - byte "0")) s

-- A text begins with a type of `size` bytes, one at least, and all the digits of `number`, one at least.
pub record Tile (s : List ℕ) (size number : ℕ) : Type 0 where
  pub type : List ℕ
  pub digits : List ℕ
  pub rest : List ℕ
  pub parts : s ≡ type ++ (digits ++ rest)
  pub type-size : length type ≡ size
  pub some_byte : 1 ≤ size
  pub some-digit : 1 ≤ length digits
  pub only-digits : all_digits digits ≡ true
  pub no-digit-left : starts_digit rest ≡ false
  pub its-number : value_after 0 digits ≡ number
  pub in-32-bits : number ≤ max_u32

-- Each entry starts at the place `at` that is reached, the next one behind its digits, and the last digits end the text.
abbrev pub Tiles : List ℕ → ℕ → List Entry → Type 0
Tiles s at [] = s ≡ []
Tiles s at (entry start size number ∷ es) = (start ≡ at) × (t : Tile s size number) × Tiles t.rest (at + size + length t.digits) es
