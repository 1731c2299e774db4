-- Reading text (parse.rs; the entry points of encoding_box.rs). Text is the list of unread bytes.
-- A refusal carries what was unread where it was met; its place is the text's length less that.
use Rattle.std.specs.Prelude.{ℕ, zero, suc, ◌+◌, ◌-◌, ◌*◌, ◌^◌, Bool, true, false, ◌&&◌, List, [], ◌∷◌, ◌++◌, leb, eqb, length}
use Rattle.std.specs.Prelude.{unwrap_or}
use Rattle.kinds.specs.Byte.{byte, bytes, among, is_digit}
use Rattle.kinds.specs.Container.{end_byte, same_container}
use Rattle.kinds.specs.Name.{verify_name}
use Rattle.kinds.specs.Refusal.{number, refused_byte}
use Rattle.kinds.specs.Tree.{Label, Trees, end, node, primitive, bit_field, typed_bit_field, pointer, atomic, array, struct, union, none}
use Rattle.kinds.specs.declared.ContainerKind.{ContainerKind}
use Rattle.kinds.specs.declared.ContainerKind.TheVariants.{Struct, Union}
use Rattle.kinds.specs.declared.ErrorKind.{ErrorKind}
use Rattle.kinds.specs.declared.ErrorKind.TheVariants.{UnexpectedEnd, Unknown, UnknownAfterComplex, ExpectedInteger, IntegerTooLarge, WrongEndArray, WrongEndContainer, InvalidIdentifier, NotAllConsumed}
use Rattle.kinds.specs.declared.Refusal.TheVariants.{Parse}

abbrev pub container : ContainerKind → List ℕ → Label
container Struct s = struct s
container Union s = union s

-- The largest numbers of 64, of 32 and of 8 bits.
abbrev pub max_u64 : ℕ
max_u64 = 2 ^ 64 - 1

abbrev pub max_u32 : ℕ
max_u32 = 2 ^ 32 - 1

abbrev pub max_u8 : ℕ
max_u8 = 255

-- A number and the text after it, or why there is none.
pub data Number : Type 0 where
  value : ℕ → List ℕ → Number
  no_number : ErrorKind → List ℕ → Number

-- The digits at the start of the text, after digits of value `n`.
unfoldable pub more_digits : ℕ → List ℕ → Number
more_digits n [] = value n []
more_digits n (b ∷ s) = elim (is_digit b) [ true ↦ more_digits (n * 10 + (b - byte "0")) s | false ↦ value n (b ∷ s) ]

unfoldable pub bounded : ℕ → Number → Number
bounded limit (value n s) = elim (leb n limit) [ true ↦ value n s | false ↦ no_number IntegerTooLarge s ]
bounded limit (no_number e s) = no_number e s

-- `parse_u64` and `parse_u8`: the first digit must be there; the value is at most `limit`.
unfoldable pub parse_number : ℕ → List ℕ → Number
parse_number limit [] = no_number UnexpectedEnd []
parse_number limit (b ∷ s) = elim (is_digit b) [ true ↦ bounded limit (more_digits 0 (b ∷ s)) | false ↦ no_number ExpectedInteger (b ∷ s) ]

-- What `parse_inner` finds: nothing left, a tree with the text after it, a closer, or a refusal.
pub data Parsed : Type 0 where
  empty : Parsed
  encoding : Label → Trees → List ℕ → Parsed
  container_end : ContainerKind → List ℕ → Parsed
  array_end : List ℕ → Parsed
  refused : ErrorKind → List ℕ → Parsed

-- The items of a container up to its closer, and the text after it, or a refusal.
pub data Items : Type 0 where
  items : Trees → List ℕ → Items
  items_refused : ErrorKind → List ℕ → Items

-- What a byte begins.
pub data Start : Type 0 where
  single : ℕ → Start
  complex : Start
  object : Start
  bits : Start
  indirection : Label → Start
  open_array : Start
  close_array : Start
  open_container : ContainerKind → Start
  close_container : ContainerKind → Start
  nothing : Start

-- The bytes that are a primitive's code and never go on behind it, with its kind (`@` may: `parse_object`).
unfoldable pub singles : List (ℕ × ℕ)
singles =
    (byte "c", 0) ∷ (byte "s", 1) ∷ (byte "i", 2) ∷ (byte "l", 3) ∷ (byte "q", 4)
    ∷ (byte "C", 5) ∷ (byte "S", 6) ∷ (byte "I", 7) ∷ (byte "L", 8) ∷ (byte "Q", 9)
    ∷ (byte "f", 10) ∷ (byte "d", 11) ∷ (byte "D", 12) ∷ (byte "B", 16) ∷ (byte "v", 17)
    ∷ (byte "*", 18) ∷ (byte "#", 21) ∷ (byte ":", 22) ∷ (byte "?", 23) ∷ []

-- The bytes that begin or end something else.
unfoldable pub others : List (ℕ × Start)
others =
    (byte "j", complex) ∷ (byte "@", object) ∷ (byte "b", bits)
    ∷ (byte "^", indirection pointer) ∷ (byte "A", indirection atomic)
    ∷ (byte "[", open_array) ∷ (byte "]", close_array)
    ∷ (byte "{", open_container Struct) ∷ (byte "}", close_container Struct)
    ∷ (byte "(", open_container Union) ∷ (byte ")", close_container Union) ∷ []

unfoldable pub in_others : ℕ → List (ℕ × Start) → Start
in_others b [] = nothing
in_others b (x ∷ xs) = elim (eqb b x.0) [ true ↦ x.1 | false ↦ in_others b xs ]

unfoldable pub in_singles : ℕ → List (ℕ × ℕ) → Start
in_singles b [] = in_others b others
in_singles b (x ∷ xs) = elim (eqb b x.0) [ true ↦ single x.1 | false ↦ in_singles b xs ]

unfoldable pub start : ℕ → Start
start b = in_singles b singles

unfoldable pub leaf : Label → List ℕ → Parsed
leaf l s = encoding l end s

-- After `j`.
unfoldable pub parse_complex : List ℕ → Parsed
parse_complex [] = refused UnexpectedEnd []
parse_complex (b ∷ s) =
    elim (eqb b (byte "f")) [
      | true ↦ leaf (primitive 13) s
      | false ↦ elim (eqb b (byte "d")) [
        | true ↦ leaf (primitive 14) s
        | false ↦ elim (eqb b (byte "D")) [
          | true ↦ leaf (primitive 15) s
          | false ↦ refused (UnknownAfterComplex b) (b ∷ s)
        ]
      ]
    ]

-- After `@"`: up to the closing quote.
unfoldable pub parse_quoted : List ℕ → Parsed
parse_quoted [] = refused UnexpectedEnd []
parse_quoted (b ∷ s) = elim (eqb b (byte "\"")) [ true ↦ leaf (primitive 19) s | false ↦ parse_quoted s ]

-- After `@`: a block, an object with a class name, or an object.
unfoldable pub parse_object : List ℕ → Parsed
parse_object [] = leaf (primitive 19) []
parse_object (b ∷ s) =
    elim (eqb b (byte "?")) [
      | true ↦ leaf (primitive 20) s
      | false ↦ elim (eqb b (byte "\"")) [
        | true ↦ parse_quoted s
        | false ↦ leaf (primitive 19) (b ∷ s)
      ]
    ]

-- The types that a bitfield may have.
unfoldable pub integral : ℕ → Bool
integral b = among b (bytes "csilqCSILQB")

-- The kind of a bitfield's type.
unfoldable pub single_kind : Start → ℕ
single_kind (single p) = p
single_kind complex = 0
single_kind object = 0
single_kind bits = 0
single_kind (indirection l) = 0
single_kind open_array = 0
single_kind close_array = 0
single_kind (open_container k) = 0
single_kind (close_container k) = 0
single_kind nothing = 0

unfoldable pub typed : ℕ → ℕ → Number → Parsed
typed o p (value n s) = encoding (typed_bit_field o n) (node (primitive p) end end) s
typed o p (no_number e s) = refused e s

unfoldable pub untyped : ℕ → List ℕ → Parsed
untyped n s = elim (leb n max_u8) [ true ↦ leaf (bit_field n) s | false ↦ refused IntegerTooLarge s ]

-- After the first number of a bitfield: a type is there if a digit follows it (`try_parse_bitfield_gnustep`).
unfoldable pub parse_bit_field : ℕ → List ℕ → Parsed
parse_bit_field n [] = untyped n []
parse_bit_field n (b ∷ []) = untyped n (b ∷ [])
parse_bit_field n (b ∷ c ∷ s) =
    elim (integral b && is_digit c) [
      | true ↦ typed n (single_kind (start b)) (parse_number max_u8 (c ∷ s))
      | false ↦ untyped n (b ∷ c ∷ s)
    ]

unfoldable pub parse_bits : Number → Parsed
parse_bits (value n s) = parse_bit_field n s
parse_bits (no_number e s) = refused e s

-- A container's name and the text after it, with `=` passed, or a refusal.
pub data Named : Type 0 where
  named : List ℕ → List ℕ → Named
  unnamed : ErrorKind → List ℕ → Named

unfoldable pub check_name : ContainerKind → List ℕ → List ℕ → List ℕ → Named
check_name k s here next = elim (verify_name s) [ true ↦ named s next | false ↦ unnamed (InvalidIdentifier k) here ]

-- The name, `s` so far, goes up to `=` or the container's own closer.
unfoldable pub parse_name : ContainerKind → List ℕ → List ℕ → Named
parse_name k s [] = unnamed (WrongEndContainer k) []
parse_name k s (b ∷ t) =
    elim (eqb b (byte "=")) [
      | true ↦ check_name k s (b ∷ t) t
      | false ↦ elim (eqb b (end_byte k)) [
        | true ↦ check_name k s (b ∷ t) (b ∷ t)
        | false ↦ parse_name k (s ++ (b ∷ [])) t
      ]
    ]

-- What a pointer or an atomic holds: a closer is given back.
unfoldable pub held : Label → List ℕ → Parsed → Parsed
held l s empty = encoding l (node none end end) s
held l s (encoding m ds t) = encoding l (node m ds end) t
held l s (container_end k t) = encoding l (node none end end) s
held l s (array_end t) = encoding l (node none end end) s
held l s (refused e t) = refused e t

unfoldable pub close_item : ℕ → Label → Trees → List ℕ → Parsed
close_item n m ds [] = refused WrongEndArray []
close_item n m ds (b ∷ s) = elim (eqb b (byte "]")) [ true ↦ encoding (array n) (node m ds end) s | false ↦ refused WrongEndArray (b ∷ s) ]

-- An array's item and its closer.
unfoldable pub item : ℕ → Parsed → Parsed
item n empty = refused WrongEndArray []
item n (encoding m ds t) = close_item n m ds t
item n (container_end k t) = refused (Unknown (end_byte k)) t
item n (array_end t) = encoding (array n) (node none end end) t
item n (refused e t) = refused e t

unfoldable pub contained : ContainerKind → List ℕ → Items → Parsed
contained k s (items ts t) = encoding (container k s) ts t
contained k s (items_refused e t) = refused e t

unfoldable pub add_item : Label → Trees → Items → Items
add_item m ds (items ts t) = items (node m ds ts) t
add_item m ds (items_refused e t) = items_refused e t

-- The text `s` after a byte `b`, by what the byte begins; `inner` reads a type and `fields` a container's items.
unfoldable pub begin : ℕ → Start → List ℕ → (List ℕ → Parsed) → (ContainerKind → List ℕ → Items) → Parsed
begin b (single p) s inner fields = leaf (primitive p) s
begin b complex s inner fields = parse_complex s
begin b object s inner fields = parse_object s
begin b bits s inner fields = parse_bits (parse_number max_u64 s)
begin b (indirection l) s inner fields = held l s (inner s)
begin b open_array s inner fields = elim (parse_number max_u64 s) [ value n t ↦ item n (inner t) | no_number e t ↦ refused e t ]
begin b close_array s inner fields = array_end s
begin b (open_container k) s inner fields = elim (parse_name k [] s) [ named m t ↦ contained k m (fields k t) | unnamed e t ↦ refused e t ]
begin b (close_container k) s inner fields = container_end k s
begin b nothing s inner fields = refused (Unknown b) s

-- A container's next item, or its end; `more` reads the items after it.
unfoldable pub next_item : ContainerKind → Parsed → (List ℕ → Items) → Items
next_item k empty more = items_refused (WrongEndContainer k) []
next_item k (encoding m ds t) more = add_item m ds (more t)
next_item k (container_end j t) more = elim (same_container k j) [ true ↦ items end t | false ↦ items_refused (Unknown (end_byte j)) t ]
next_item k (array_end t) more = items_refused (Unknown (byte "]")) t
next_item k (refused e t) more = items_refused e t

-- `parse_inner` and the items of `parse_container`, by at most `fuel` steps: twice the unread bytes are enough.
unfoldable mutual
  pub parse_inner : ℕ → List ℕ → Parsed
  parse_inner zero s = empty
  parse_inner (suc fuel) [] = empty
  parse_inner (suc fuel) (b ∷ s) = begin b (start b) s (λ t. parse_inner fuel t) (λ k t. parse_items fuel k t)

  pub parse_items : ℕ → ContainerKind → List ℕ → Items
  parse_items zero k s = items_refused UnexpectedEnd s
  parse_items (suc fuel) k s = next_item k (parse_inner fuel s) (λ t. parse_items fuel k t)

unfoldable pub parse : List ℕ → Parsed
parse s = parse_inner (length s + length s) s

-- The seven qualifiers (01, "The seven qualifiers").
unfoldable pub qualifiers : List ℕ
qualifiers = bytes "rnNoORV"

unfoldable pub is_qualifier : ℕ → Bool
is_qualifier b = among b qualifiers

unfoldable pub strip_leading_qualifiers : List ℕ → List ℕ
strip_leading_qualifiers [] = []
strip_leading_qualifiers (b ∷ s) = elim (is_qualifier b) [ true ↦ strip_leading_qualifiers s | false ↦ b ∷ s ]

-- A tree and the text after it, or a refusal (`parse_encoding_or_none`).
pub data Encoded : Type 0 where
  encoded : Label → Trees → List ℕ → Encoded
  not_encoded : ErrorKind → List ℕ → Encoded

unfoldable pub encoding_or_none : Parsed → Encoded
encoding_or_none empty = encoded none end []
encoding_or_none (encoding l cs t) = encoded l cs t
encoding_or_none (container_end k t) = not_encoded (Unknown (end_byte k)) t
encoding_or_none (array_end t) = not_encoded (Unknown (byte "]")) t
encoding_or_none (refused e t) = not_encoded e t

-- `parse_encoding_or_none` with the qualifiers before it dropped, as whoever calls it in the crate does first.
unfoldable pub parse_encoding_or_none : List ℕ → Encoded
parse_encoding_or_none s = encoding_or_none (parse (strip_leading_qualifiers s))

-- A tree, or a refusal with its place.
pub data Whole : Type 0 where
  tree : Label → Trees → Whole
  refusal : ErrorKind → ℕ → Whole

-- `n` is the length of the whole text.
unfoldable pub whole : ℕ → Encoded → Whole
whole n (encoded l cs []) = tree l cs
whole n (encoded l cs (b ∷ t)) = refusal NotAllConsumed (n - length (b ∷ t))
whole n (not_encoded e t) = refusal e (n - length t)

-- Whole-text reading (`EncodingBox::from_str`).
unfoldable pub from_str : List ℕ → Whole
from_str s = whole (length s) (parse_encoding_or_none s)

-- A tree and the rest, or a refusal with its place.
pub data FromStart : Type 0 where
  tree_then : Label → Trees → List ℕ → FromStart
  refusal : ErrorKind → ℕ → FromStart

-- A digit stands where a type should begin: refusal 8, with a digit. Its place says nothing here.
unfoldable pub unknown_digit : ErrorKind → Bool
unknown_digit e = eqb (number (Parse e 0)) 8 && is_digit (unwrap_or (refused_byte (Parse e 0)) 0)

unfoldable pub from_start : ℕ → Encoded → FromStart
from_start n (encoded l cs t) = tree_then l cs t
from_start n (not_encoded e t) = elim (unknown_digit e) [ true ↦ tree_then none end t | false ↦ refusal e (n - length t) ]

-- Reading from the start (`EncodingBox::from_start_of_str`): such a digit is eaten and gives the tree None.
unfoldable pub from_start_of_str : List ℕ → FromStart
from_start_of_str s = from_start (length s) (parse_encoding_or_none s)
