-- Reading a whole method signature (02, N1): a type, then a decimal number, repeated until the bytes end. Text is the list of unread bytes;
-- `n` is the length of the whole signature, so that places count from its first byte.
use Rattle.std.specs.Prelude.{ℕ, zero, suc, ◌-◌, Bool, true, false, cond, List, [], ◌∷◌, length}
use Rattle.kinds.specs.Byte.{starts_digit}
use Rattle.kinds.specs.Parse.{max_u32, Number, value, no_number, parse_number, Encoded, encoded, not_encoded, parse_encoding_or_none, unknown_digit, FromStart, tree_then, refusal, from_start}
use Rattle.kinds.specs.declared.Refusal.{Refusal}
use Rattle.kinds.specs.declared.Refusal.TheVariants.{Parse, ExpectedOffset, OffsetTooLarge, EmptySignature}

-- Of a type: its start and its length, both with its qualifiers, and its number.
pub data Entry : Type 0 where
  entry : ℕ → ℕ → ℕ → Entry

pub data Signature : Type 0 where
  entries : List Entry → Signature
  refused : Refusal → Signature

-- A type is read as reading from the start reads it, except that a digit where a type should begin is refused, at the digit's own place.
unfoldable pub type_from_start : ℕ → Encoded → FromStart
type_from_start n (encoded l cs t) = from_start n (encoded l cs t)
type_from_start n (not_encoded e t) = elim (unknown_digit e) [ true ↦ refusal e (n - length t - 1) | false ↦ from_start n (not_encoded e t) ]

-- The number behind a type and the text after it, or why there is none.
pub data Offset : Type 0 where
  offset : ℕ → List ℕ → Offset
  no_offset : Refusal → Offset

-- 17 where it is above 4,294,967,295, after its last digit; 16 where the type is not followed by a digit, at the byte after the type.
unfoldable pub limited : ℕ → Bool → Number → Offset
limited n digit (value v t) = offset v t
limited n digit (no_number e t) = no_offset (cond digit (OffsetTooLarge (n - length t)) (ExpectedOffset (n - length t)))

unfoldable pub parse_offset : ℕ → List ℕ → Offset
parse_offset n s = limited n (starts_digit s) (parse_number max_u32 s)

unfoldable pub add_entry : Entry → Signature → Signature
add_entry e (entries es) = entries (e ∷ es)
add_entry e (refused r) = refused r

-- The type that was read from `s` leaves `t`; `more` reads what follows its number.
unfoldable pub number_then : ℕ → List ℕ → List ℕ → Offset → (List ℕ → Signature) → Signature
number_then n s t (offset v u) more = add_entry (entry (n - length s) (length s - length t) v) (more u)
number_then n s t (no_offset r) more = refused r

unfoldable pub type_then : ℕ → List ℕ → FromStart → (List ℕ → Signature) → Signature
type_then n s (tree_then l cs t) more = number_then n s t (parse_offset n t) more
type_then n s (refusal e place) more = refused (Parse e place)

-- By at most `fuel` entries: as many as there are unread bytes are enough.
unfoldable pub signature_from : ℕ → ℕ → List ℕ → Signature
signature_from zero n s = entries []
signature_from (suc fuel) n [] = entries []
signature_from (suc fuel) n (b ∷ s) = type_then n (b ∷ s) (type_from_start n (parse_encoding_or_none (b ∷ s))) (λ t. signature_from fuel n t)

-- 18 where the signature is empty.
unfoldable pub signature : List ℕ → Signature
signature [] = refused EmptySignature
signature (b ∷ s) = signature_from (length (b ∷ s)) (length (b ∷ s)) (b ∷ s)
