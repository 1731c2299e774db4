-- GCC's manual, "Type encoding" of its Objective-C chapter: bit-fields, complex types, long double, and the type specifiers.
use Rattle.std.specs.Prelude.{ℕ, List, [], ◌∷◌, ◌++◌}
use Rattle.kinds.specs.Byte.{byte, bytes}
use Rattle.documents.specs.Decimal.{decimal}

-- The types of bit-fields are the integral ones; those of 128 bits stand apart, since the crate has none.
pub data Integral : Type 0 where
  char : Integral
  unsigned_char : Integral
  short : Integral
  unsigned_short : Integral
  int : Integral
  unsigned_int : Integral
  long : Integral
  unsigned_long : Integral
  long_long : Integral
  unsigned_long_long : Integral
  bool : Integral

unfoldable pub code : Integral → ℕ
code char = byte "c"
code unsigned_char = byte "C"
code short = byte "s"
code unsigned_short = byte "S"
code int = byte "i"
code unsigned_int = byte "I"
code long = byte "l"
code unsigned_long = byte "L"
code long_long = byte "q"
code unsigned_long_long = byte "Q"
code bool = byte "B"

pub data Wide : Type 0 where
  int128 : Wide
  unsigned_int128 : Wide

unfoldable pub wide_code : Wide → ℕ
wide_code int128 = byte "t"
wide_code unsigned_int128 = byte "T"

-- A bit-field: the position of its first bit, the code of its type, its size in bits.
unfoldable pub bit_field : ℕ → Integral → ℕ → List ℕ
bit_field position type size = byte "b" ∷ (decimal position ++ (code type ∷ decimal size))

unfoldable pub wide_bit_field : ℕ → Wide → ℕ → List ℕ
wide_bit_field position type size = byte "b" ∷ (decimal position ++ (wide_code type ∷ decimal size))

-- The same as older compilers wrote it.
unfoldable pub older_bit_field : ℕ → List ℕ
older_bit_field size = byte "b" ∷ decimal size

unfoldable pub long_double : List ℕ
long_double = bytes "D"

-- A type made complex.
unfoldable pub complex : List ℕ → List ℕ
complex type = byte "j" ∷ type

-- The byte that begins a vector.
unfoldable pub vector : ℕ
vector = byte "!"

-- The type specifiers: const, in, inout, out, bycopy, byref, oneway.
unfoldable pub specifiers : List ℕ
specifiers = byte "r" ∷ byte "n" ∷ byte "N" ∷ byte "o" ∷ byte "O" ∷ byte "R" ∷ byte "V" ∷ []

-- The worked example, a struct of an int, three floats, bit-fields `int a:3` and `int b:2`, and a char; in both forms.
unfoldable pub example : List ℕ
example = bytes "{?=i[3f]" ++ (bit_field 128 int 3 ++ (bit_field 131 int 2 ++ bytes "c}"))

unfoldable pub older_example : List ℕ
older_example = bytes "{?=i[3f]" ++ (older_bit_field 3 ++ (older_bit_field 2 ++ bytes "c}"))
