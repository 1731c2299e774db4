-- What the calls answer: the fields of a line, bytes in hex and numbers in decimal read into lent lists, and texts put into a lent output.
use Rattle.std.specs.Prelude.{ℕ, suc, ◌+◌, ◌-◌, ◌*◌, ◌/◌, ◌%◌, min, ◌≡◌, Bool, true, false, cond, ◌&&◌, List, [], ◌∷◌, ◌++◌, leb, ltb, eqb, length, take, get_or}
use Rattle.std.proofs.lemmas.List.Edits.{sets}
use Rattle.std.specs.Borrow.{Bor}
use Rattle.kinds.specs.Byte.{byte, bytes, is_digit}
use Rattle.kinds.specs.Parse.{max_u64}
use Rattle.kinds.specs.Print.{decimal}
use Rattle.kinds.specs.Refusal.{number, values}
use Rattle.kinds.specs.declared.Refusal.{Refusal}
use Rattle.std.specs.Prelude.{Option, Some, None}

-- ---- The fields of a line: parts of the lent text itself, and no copies.

-- How many bytes stand before the first `b`.
unfoldable pub until : ℕ → List ℕ → ℕ
until b [] = 0
until b (x ∷ s) = cond (eqb x b) 0 (suc (until b s))

-- The first `n` bytes of a lent text, or all where there are fewer: the same memory, from its beginning on.
unfoldable pub front_of : Bor (List ℕ) → ℕ → (ℕ × ℕ) × List ℕ
front_of s n = (s.ref_ptr, take n s.now)

-- ---- Bytes in hex, two digits each, in lower case.

-- The value of a digit; 16 where it is none.
unfoldable pub hex_digit : ℕ → ℕ
hex_digit b = cond (is_digit b) (b - byte "0") (cond (leb (byte "a") b && leb b (byte "f")) (b - 87) 16)

-- The same, where it is a digit.
unfoldable pub digit_value : ℕ → Option ℕ
digit_value b = cond (ltb (hex_digit b) 16) (Some (hex_digit b)) None

-- Both are digits.
unfoldable pub is_pair : ℕ → ℕ → Bool
is_pair a b = ltb (hex_digit a) 16 && ltb (hex_digit b) 16

-- The bytes up to the first bad pair.
unfoldable pub hex_bytes : List ℕ → List ℕ
hex_bytes [] = []
hex_bytes (a ∷ []) = []
hex_bytes (a ∷ b ∷ s) = cond (is_pair a b) ((16 * hex_digit a + hex_digit b) ∷ hex_bytes s) []

-- No pair is bad.
unfoldable pub is_hex : List ℕ → Bool
is_hex [] = true
is_hex (a ∷ []) = false
is_hex (a ∷ b ∷ s) = is_pair a b && is_hex s

-- What reading hex into a list of `room` bytes answers.
unfoldable pub hex_answer : List ℕ → ℕ → Option ℕ
hex_answer s room = cond (is_hex s && leb (length (hex_bytes s)) room) (Some (length (hex_bytes s))) None

unfoldable pub hex_glyph : ℕ → ℕ
hex_glyph d = cond (ltb d 10) (byte "0" + d) (87 + d)

-- A byte as two digits.
unfoldable pub hex_pair : ℕ → List ℕ
hex_pair b = hex_glyph (b / 16) ∷ hex_glyph (b % 16) ∷ []

-- ---- Numbers in decimal with commas between.

-- `n` with the digit `b` after it.
unfoldable pub grown : ℕ → ℕ → Option ℕ
grown n b = cond (is_digit b && leb (10 * n + (b - byte "0")) max_u64) (Some (10 * n + (b - byte "0"))) None

-- The numbers, the first of which goes on from `n`, up to the first bad byte.
unfoldable pub decimals : ℕ → List ℕ → List ℕ
decimals n [] = n ∷ []
decimals n (b ∷ s) = cond (eqb b (byte ",")) (n ∷ decimals 0 s) (elim (grown n b) [ Some v ↦ decimals v s | None ↦ [] ])

-- No byte is bad.
unfoldable pub is_decimals : ℕ → List ℕ → Bool
is_decimals n [] = true
is_decimals n (b ∷ s) = cond (eqb b (byte ",")) (is_decimals 0 s) (elim (grown n b) [ Some v ↦ is_decimals v s | None ↦ false ])

-- What reading numbers into a list of `room` words answers.
unfoldable pub decimals_answer : List ℕ → ℕ → Option ℕ
decimals_answer s room = cond (is_decimals 0 s && leb (length (decimals 0 s)) room) (Some (length (decimals 0 s))) None

-- ---- Text put into a lent output, as much of it as there is room for.

-- `xs` was put into `before` from `at` on, and the next place is `next`.
pub record Put (before : List ℕ) (at : ℕ) (xs after : List ℕ) (next : ℕ) : Type 0 where
  pub place : next ≡ at + min (length xs) (length before - at)
  pub text : after ≡ sets before at xs

-- The texts of the items, one after the other.
unfoldable pub each : (ℕ → List ℕ) → List ℕ → List ℕ
each f [] = []
each f (x ∷ s) = f x ++ each f s

-- Numbers in decimal with a mark between.
unfoldable pub joined : ℕ → List ℕ → List ℕ
joined m [] = []
joined m (n ∷ ns) = decimal n ++ each (λ k. m ∷ decimal k) ns

unfoldable pub comma_number : ℕ → List ℕ
comma_number n = byte "," ∷ decimal n

-- Numbers in decimal with commas between.
unfoldable pub words_text : List ℕ → List ℕ
words_text [] = []
words_text (w ∷ ws) = decimal w ++ each comma_number ws

-- A sheet: the words and name bytes that its header counts.
unfoldable pub sheet_text : List ℕ → List ℕ → List ℕ
sheet_text words names = bytes "s:" ++ (words_text (take (get_or words 3 0) words) ++ (bytes ":" ++ each hex_pair (take (get_or words 2 0) names)))

unfoldable pub space_number : ℕ → List ℕ
space_number n = byte " " ∷ decimal n

-- A refusal: its number and its values with spaces between.
unfoldable pub refusal_text : Refusal → List ℕ
refusal_text why = decimal (number why) ++ each space_number (values why)
