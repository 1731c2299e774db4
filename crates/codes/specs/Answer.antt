-- What a byte begins; what stands at a place and has no parts: a primitive, a bitfield, a closer, or a refusal (parse.rs, the arms of `parse_inner` that call no reader).
use Rattle.std.specs.Prelude.{Option, Some, None, ℕ, ◌+◌, Bool, true, false, cond, ◌&&◌, ◌||◌, List, [], ◌∷◌, leb, ltb, eqb, length, drop, get_or}
use Rattle.std.specs.Option.{is_some}
use Rattle.kinds.specs.Byte.{byte}
use Rattle.kinds.specs.Container.{end_byte}
use Rattle.kinds.specs.Parse as R
use Rattle.kinds.specs.Primitive.{kind_of}
use Rattle.kinds.specs.Parse.{max_u8, Start, single, complex, object, bits, indirection, open_array, close_array, open_container, close_container, nothing, start, begin, empty, encoding, container_end, array_end, refused, items_refused}
use Rattle.kinds.specs.Strict.{numbers_of}
use Rattle.kinds.specs.Tree.{Label, Trees, end, node, kind, primitive, bit_field, typed_bit_field, pointer, atomic, array, struct, union, none}
use Rattle.kinds.specs.declared.ContainerKind.{ContainerKind}
use Rattle.kinds.specs.declared.IndirectionKind.TheVariants.{Pointer, Atomic}
use Rattle.kinds.specs.declared.ErrorKind.TheVariants.{UnexpectedEnd, IntegerTooLarge}
use Rattle.numbers.specs.Answer.{digits_of}
use Rattle.numbers.specs.declared.Digits.{Digits}
use Rattle.parser.specs.Place.{place_of}
use Rattle.codes.specs.declared.Begun.{Begun}
use Rattle.codes.specs.declared.Begun.TheVariants.{Single, Complex, Object, Bits, Indirection, OpenArray, CloseArray, OpenContainer, CloseContainer, Nothing}
use Rattle.codes.specs.declared.BitsDigits.{BitsDigits}
use Rattle.codes.specs.declared.Token.{Token}
use Rattle.codes.specs.declared.Token.TheVariants.{Primitive, BitField, TypedBitField, ArrayEnd, ContainerEnd, Refused, Parts, End}

-- What a byte begins, as the function `start` gives it.
unfoldable pub start_of : Begun → Start
start_of (Single p) = single (kind_of p)
start_of Complex = complex
start_of Object = object
start_of Bits = bits
start_of (Indirection Pointer) = indirection pointer
start_of (Indirection Atomic) = indirection atomic
start_of OpenArray = open_array
start_of CloseArray = close_array
start_of (OpenContainer k) = open_container k
start_of (CloseContainer k) = close_container k
start_of Nothing = nothing

-- The kind of the primitive whose code a byte is that never goes on behind it.
unfoldable pub code_of : Start → Option ℕ
code_of (single p) = Some p
code_of complex = None
code_of object = None
code_of bits = None
code_of (indirection l) = None
code_of open_array = None
code_of close_array = None
code_of (open_container k) = None
code_of (close_container k) = None
code_of nothing = None

unfoldable pub is_code : ℕ → Bool
is_code b = is_some (code_of (start b))

-- A pointer or an atomic begins.
abbrev pub is_indirection : ℕ → Bool
is_indirection b = eqb b (byte "^") || eqb b (byte "A")

-- The item of an array is closed: `]` stands at `to`.
abbrev pub closed : List ℕ → ℕ → Bool
closed text to = ltb to (length text) && eqb (get_or text to 0) (byte "]")

-- The container's own closer stands at `to`.
abbrev pub closes_fields : List ℕ → ℕ → ContainerKind → Bool
closes_fields text to kind = ltb to (length text) && eqb (get_or text to 0) (end_byte kind)

-- Something with parts begins: a pointer, an atomic, an array or a container.
unfoldable pub has_parts : Start → Bool
has_parts (single p) = false
has_parts complex = false
has_parts object = false
has_parts bits = false
has_parts (indirection l) = true
has_parts open_array = true
has_parts close_array = false
has_parts (open_container k) = true
has_parts (close_container k) = false
has_parts nothing = false

-- The kind of a bitfield's type.
unfoldable pub type_kind : Trees → ℕ
type_kind end = 0
type_kind (node l cs ts) = kind l

-- ---- What the digits of a bitfield's numbers show (02, N3).

-- Of a number that was not met.
abbrev pub no_digits : Digits
no_digits = record { «count» = 0; «surplus» = false }

-- Of the first, and of the text of the second, if there is one.
abbrev pub digits_then : Digits → List (List ℕ) → BitsDigits
digits_then d [] = record { «first» = d; «second» = no_digits }
digits_then d (s ∷ ss) = record { «first» = d; «second» = digits_of s }

-- Of the texts of both.
abbrev pub digits_in : List (List ℕ) → BitsDigits
digits_in [] = digits_then no_digits []
digits_in (s ∷ ss) = digits_then (digits_of s) ss

-- A bitfield without a type.
abbrev pub untyped_token : ℕ → ℕ → BitsDigits → Token
untyped_token size to d = cond (leb size max_u8) (BitField size to d) (Refused IntegerTooLarge to d)

-- ---- Tokens; `d` is what the digits show.

unfoldable pub label_token : Label → Trees → ℕ → BitsDigits → Token
label_token (primitive p) cs to d = Primitive p to
label_token (bit_field n) cs to d = BitField n to d
label_token (typed_bit_field o n) cs to d = TypedBitField o (type_kind cs) n to d
label_token pointer cs to d = Parts
label_token atomic cs to d = Parts
label_token (array n) cs to d = Parts
label_token (struct s) cs to d = Parts
label_token (union s) cs to d = Parts
label_token none cs to d = Parts

-- What was read, with the place after it instead of the text.
unfoldable pub token_of : List ℕ → BitsDigits → R.Parsed → Token
token_of text d empty = End
token_of text d (encoding l cs t) = label_token l cs (place_of text t) d
token_of text d (container_end k t) = ContainerEnd k (place_of text t)
token_of text d (array_end t) = ArrayEnd (place_of text t)
token_of text d (refused e t) = Refused e (place_of text t) d

-- By what the byte begins; nothing without parts asks for what is inside.
unfoldable pub token_from : List ℕ → ℕ → Start → List ℕ → Token
token_from text b start s = cond (has_parts start) Parts (token_of text (digits_in (numbers_of start s)) (begin b start s (λ t. empty) (λ k t. items_refused UnexpectedEnd t)))

unfoldable pub token_at : List ℕ → ℕ → Token
token_at text at = cond (leb (length text) at) End (token_from text (get_or text at 0) (start (get_or text at 0)) (drop (at + 1) text))
