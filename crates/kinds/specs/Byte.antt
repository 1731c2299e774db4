-- Bytes, written as characters, and the tests on lists of bytes that the other files share.
use Rattle.std.specs.Prelude.{ℕ, Bool, true, false, ◌&&◌, ◌||◌, List, [], ◌∷◌, leb, eqb}
use Prim.Native.Char.{Char, code}
use Prim.Native.String.{String, [] as []ˢ, ◌∷◌ as ◌∷ˢ◌}

-- The byte of an ASCII character.
abbrev pub byte : Char → ℕ
byte c = code c

-- The bytes of a text of ASCII characters.
abbrev pub bytes : String → List ℕ
bytes []ˢ = []
bytes (c ∷ˢ s) = code c ∷ bytes s

-- `b` is one of the numbers of `s`.
unfoldable pub among : ℕ → List ℕ → Bool
among b [] = false
among b (x ∷ s) = eqb b x || among b s

-- The two lists are equal.
unfoldable pub same_bytes : List ℕ → List ℕ → Bool
same_bytes [] [] = true
same_bytes [] (y ∷ t) = false
same_bytes (x ∷ s) [] = false
same_bytes (x ∷ s) (y ∷ t) = eqb x y && same_bytes s t

unfoldable pub is_digit : ℕ → Bool
is_digit b = leb (byte "0") b && leb b (byte "9")

-- A text begins with a digit.
unfoldable pub starts_digit : List ℕ → Bool
starts_digit [] = false
starts_digit (b ∷ s) = is_digit b
