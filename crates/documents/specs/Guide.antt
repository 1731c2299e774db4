-- Apple's Objective-C Runtime Programming Guide, "Type Encodings": its two tables, and the encoding of a type.
use Rattle.std.specs.Prelude.{ℕ, zero, suc, Bool, true, false, ◌&&◌, ◌||◌, not, List, [], ◌∷◌, ◌++◌, map, leb, eqb}
use Rattle.std.specs.Prelude.{Option, Some, None}
use Rattle.kinds.specs.Byte.{byte, bytes, among}
use Rattle.documents.specs.Decimal.{decimal}

-- ---- The table of codes.

-- What a code of one byte means, in the table's order.
pub data Meaning : Type 0 where
  char : Meaning
  int : Meaning
  short : Meaning
  long : Meaning
  long_long : Meaning
  unsigned_char : Meaning
  unsigned_int : Meaning
  unsigned_short : Meaning
  unsigned_long : Meaning
  unsigned_long_long : Meaning
  float : Meaning
  double : Meaning
  bool : Meaning
  void : Meaning
  string : Meaning
  object : Meaning
  class : Meaning
  selector : Meaning
  unknown : Meaning

-- The rows of one byte.
unfoldable pub code : Meaning → ℕ
code char = byte "c"
code int = byte "i"
code short = byte "s"
code long = byte "l"
code long_long = byte "q"
code unsigned_char = byte "C"
code unsigned_int = byte "I"
code unsigned_short = byte "S"
code unsigned_long = byte "L"
code unsigned_long_long = byte "Q"
code float = byte "f"
code double = byte "d"
code bool = byte "B"
code void = byte "v"
code string = byte "*"
code object = byte "@"
code class = byte "#"
code selector = byte ":"
code unknown = byte "?"

abbrev pub row : Meaning → ℕ × Meaning
row m = (code m, m)

-- These rows in the table's order; the rows of arrays, structures, unions, bit fields and pointers stand before the last of them.
unfoldable pub table : List (ℕ × Meaning)
table =
    row char ∷ row int ∷ row short ∷ row long ∷ row long_long
    ∷ row unsigned_char ∷ row unsigned_int ∷ row unsigned_short ∷ row unsigned_long ∷ row unsigned_long_long
    ∷ row float ∷ row double ∷ row bool ∷ row void ∷ row string
    ∷ row object ∷ row class ∷ row selector ∷ row unknown ∷ []

-- The widths in bits, in 64-bit programs, that the table states: its remark on a long. It says nothing about any other, an unsigned long included.
abbrev pub bits : Meaning → Option ℕ
bits char = None
bits int = None
bits short = None
bits long = Some 32
bits long_long = None
bits unsigned_char = None
bits unsigned_int = None
bits unsigned_short = None
bits unsigned_long = None
bits unsigned_long_long = None
bits float = None
bits double = None
bits bool = None
bits void = None
bits string = None
bits object = None
bits class = None
bits selector = None
bits unknown = None

-- The bytes that begin an encoding: these codes, and those of the rows of arrays, structures, unions, bit fields and pointers.
unfoldable pub begins : ℕ → Bool
begins b = among b (map (λ r. r.0) table) || among b (bytes "[{(b^")

-- ---- The table of qualifiers, in its order.

pub data Qualifier : Type 0 where
  const : Qualifier
  «in» : Qualifier
  inout : Qualifier
  out : Qualifier
  bycopy : Qualifier
  byref : Qualifier
  oneway : Qualifier

unfoldable pub letter : Qualifier → ℕ
letter const = byte "r"
letter «in» = byte "n"
letter inout = byte "N"
letter out = byte "o"
letter bycopy = byte "O"
letter byref = byte "R"
letter oneway = byte "V"

abbrev pub qualifier_table : List Qualifier
qualifier_table = const ∷ «in» ∷ inout ∷ out ∷ bycopy ∷ byref ∷ oneway ∷ []

-- The letters of qualifiers one after the other.
unfoldable pub letters : List Qualifier → List ℕ
letters [] = []
letters (q ∷ qs) = letter q ∷ letters qs

-- ---- Types and their encoding.

-- Types side by side: the first type and the types after it, or none. One type has `none` after it.
-- An array has a count and an item, a structure and a union a name and fields, a bit field a count of bits. Long double has no row in the table.
pub data Types : Type 0 where
  none : Types
  simple : Meaning → Types → Types
  long_double : Types → Types
  array : ℕ → Types → Types → Types
  structure : List ℕ → Types → Types → Types
  union : List ℕ → Types → Types → Types
  bit_field : ℕ → Types → Types
  pointer : Types → Types → Types

-- `=` and the fields of a structure behind that many pointers: one pointer keeps the fields, one more drops them.
unfoldable pub fields : ℕ → List ℕ → List ℕ
fields zero s = byte "=" ∷ s
fields (suc zero) s = byte "=" ∷ s
fields (suc (suc n)) s = []

-- The encoding of types behind `n` pointers. Long double is not supported and is encoded as a double. The guide drops the fields of
-- structures; that a union goes likewise, and that an array's item is behind as many pointers as the array, is 01's reading of it ("Levels").
unfoldable pub encode : ℕ → Types → List ℕ
encode n none = []
encode n (simple m ts) = code m ∷ encode n ts
encode n (long_double ts) = code double ∷ encode n ts
encode n (array count t ts) = byte "[" ∷ (decimal count ++ (encode n t ++ (byte "]" ∷ encode n ts)))
encode n (structure s fs ts) = byte "{" ∷ (s ++ (fields n (encode zero fs) ++ (byte "}" ∷ encode n ts)))
encode n (union s fs ts) = byte "(" ∷ (s ++ (fields n (encode zero fs) ++ (byte ")" ∷ encode n ts)))
encode n (bit_field num ts) = byte "b" ∷ (decimal num ++ encode n ts)
encode n (pointer t ts) = byte "^" ∷ (encode (suc n) t ++ encode n ts)

-- ---- The types that the guide defines.

unfoldable pub is_none : Types → Bool
is_none none = true
is_none (simple m ts) = false
is_none (long_double ts) = false
is_none (array count t ts) = false
is_none (structure s fs ts) = false
is_none (union s fs ts) = false
is_none (bit_field num ts) = false
is_none (pointer t ts) = false

unfoldable pub is_one : Types → Bool
is_one none = false
is_one (simple m ts) = is_none ts
is_one (long_double ts) = is_none ts
is_one (array count t ts) = is_none ts
is_one (structure s fs ts) = is_none ts
is_one (union s fs ts) = is_none ts
is_one (bit_field num ts) = is_none ts
is_one (pointer t ts) = is_none ts

-- A letter or underscore; and these or a digit.
unfoldable pub is_letter : ℕ → Bool
is_letter b = (leb (byte "A") b && leb b (byte "Z")) || ((leb (byte "a") b && leb b (byte "z")) || eqb b (byte "_"))

unfoldable pub is_word : List ℕ → Bool
is_word [] = true
is_word (b ∷ s) = (is_letter b || (leb (byte "0") b && leb b (byte "9"))) && is_word s

-- A name is an identifier of C, or `?` where the program gives none.
unfoldable pub is_name : List ℕ → Bool
is_name [] = false
is_name (b ∷ []) = eqb b (byte "?") || is_letter b
is_name (b ∷ c ∷ s) = is_letter b && is_word (c ∷ s)

-- No structure or union is among the types, at any depth.
unfoldable pub without_record : Types → Bool
without_record none = true
without_record (simple m ts) = without_record ts
without_record (long_double ts) = without_record ts
without_record (array count t ts) = without_record t && without_record ts
without_record (structure s fs ts) = false
without_record (union s fs ts) = false
without_record (bit_field num ts) = without_record ts
without_record (pointer t ts) = without_record t && without_record ts

-- Arrays and pointers have one item, and names are names. Of a pointer that is or leads to a field of a record, the guide does not say which
-- fields stay: `inRecord` holds for fields, and such a pointer leads to no record.
unfoldable pub defined : Bool → Types → Bool
defined inRecord none = true
defined inRecord (simple m ts) = defined inRecord ts
defined inRecord (long_double ts) = defined inRecord ts
defined inRecord (array count t ts) = is_one t && (defined inRecord t && defined inRecord ts)
defined inRecord (structure s fs ts) = is_name s && (defined true fs && defined inRecord ts)
defined inRecord (union s fs ts) = is_name s && (defined true fs && defined inRecord ts)
defined inRecord (bit_field num ts) = defined inRecord ts
defined inRecord (pointer t ts) = (is_one t && (not inRecord || without_record t)) && (defined inRecord t && defined inRecord ts)

-- One type that the guide defines.
unfoldable pub is_type : Types → Bool
is_type t = is_one t && defined false t

-- ---- The guide's examples.

abbrev pub only : Meaning → Types
only m = simple m none

abbrev pub pointer_to : Types → Types
pointer_to t = pointer t none

-- The structure `example` of an object, a string and an int.
abbrev pub example : Types
example = structure (bytes "example") (simple object (simple string (only int))) none

-- The same with its fields dropped.
abbrev pub example_name : Types
example_name = structure (bytes "example") none none

-- Twelve pointers to float.
abbrev pub twelve_pointers : Types
twelve_pointers = array 12 (pointer_to (only float)) none

-- Objects are treated like structures.
abbrev pub root_object : Types
root_object = structure (bytes "NSObject") (only class) none
