-- What the cycle that reads text gives, strict or not: a strict reading refuses a number with a surplus zero where it meets it.
use Rattle.std.specs.Prelude.{ℕ, zero, suc, ◌+◌, ◌≤◌, ◌≡◌, Bool, true, false, cond, List, [], ◌∷◌, length}
use Rattle.std.specs.Prelude.{Option, Some, None}
use Rattle.kinds.specs.Parse.{Start, start, begin, next_item, Parsed, empty, refused, Items, items_refused, Encoded, encoding_or_none, strip_leading_qualifiers, Whole, from_str}
use Rattle.kinds.specs.Strict.{numbers_of, first_surplus, from_str_strict}
use Rattle.kinds.specs.declared.ContainerKind.{ContainerKind}
use Rattle.kinds.specs.declared.ErrorKind.TheVariants.{UnexpectedEnd, SurplusZero}
use Rattle.kinds.specs.Refusal.{parse_error}
use Rattle.numbers.specs.declared.Number.{Number}
use Rattle.codes.specs.declared.BitsDigits.{BitsDigits}
use Rattle.codes.specs.declared.Token.{Token}
use Rattle.codes.specs.declared.Token.TheVariants as T
use Rattle.parse.specs.Answer.{turned_away, answer_or, words_after, names_after, whole_reading, whole_tree}
use Rattle.std.specs.Prelude.{Result, Err}
use Rattle.kinds.specs.declared.Refusal.{Refusal}

unfoldable pub or_surplus : Option (List ℕ) → Parsed → Parsed
or_surplus (Some t) q = refused SurplusZero t
or_surplus None q = q

-- The numbers of a bitfield or an array itself are judged before what it gives.
unfoldable pub judged : Bool → Start → List ℕ → Parsed → Parsed
judged false st s q = q
judged true st s q = or_surplus (first_surplus (numbers_of st s)) q

unfoldable mutual
  pub parse_inner_by : Bool → ℕ → List ℕ → Parsed
  parse_inner_by strict zero s = empty
  parse_inner_by strict (suc fuel) [] = empty
  parse_inner_by strict (suc fuel) (b ∷ s) = judged strict (start b) s (begin b (start b) s (λ t. parse_inner_by strict fuel t) (λ k t. parse_items_by strict fuel k t))

  pub parse_items_by : Bool → ℕ → ContainerKind → List ℕ → Items
  parse_items_by strict zero k s = items_refused UnexpectedEnd s
  parse_items_by strict (suc fuel) k s = next_item k (parse_inner_by strict fuel s) (λ t. parse_items_by strict fuel k t)

-- The type at the start of a whole text, after its qualifiers.
abbrev pub encoded_by : Bool → List ℕ → Encoded
encoded_by strict s = encoding_or_none (parse_inner_by strict (length (strip_leading_qualifiers s) + length (strip_leading_qualifiers s)) (strip_leading_qualifiers s))

-- ---- What the code asks of the numbers that it read.

-- A number at `at`.
abbrev pub judged_number : Bool → ℕ → Number → Number
judged_number false at n = n
judged_number true at n = cond n.«digits».«surplus» (record { «read» = Err (parse_error SurplusZero at); «digits» = n.«digits» }) n

-- Where the first number with a surplus zero begins in the bitfield at `at`; 0 for none. A bitfield's type is one byte.
abbrev pub surplus_place : ℕ → BitsDigits → ℕ
surplus_place at d = cond d.«first».«surplus» (at + 1) (cond d.«second».«surplus» (at + 2 + d.«first».«count») 0)

abbrev pub token_surplus : ℕ → Token → ℕ
token_surplus at (T.Primitive p to) = 0
token_surplus at (T.BitField size to d) = surplus_place at d
token_surplus at (T.TypedBitField offset p size to d) = surplus_place at d
token_surplus at (T.ArrayEnd to) = 0
token_surplus at (T.ContainerEnd kind to) = 0
token_surplus at (T.Refused why to d) = surplus_place at d
token_surplus at T.Parts = 0
token_surplus at T.End = 0

-- These places lie within `l` bytes.
abbrev pub PlaceFits : ℕ → BitsDigits → ℕ → Type 0
PlaceFits at d l = (d.«first».«surplus» ≡ true → at + 1 ≤ l) × (d.«second».«surplus» ≡ true → at + 2 + d.«first».«count» ≤ l)

abbrev pub TokenFits : ℕ → Token → ℕ → Type 0
TokenFits at (T.Primitive p to) l = Unit {0}
TokenFits at (T.BitField size to d) l = PlaceFits at d l
TokenFits at (T.TypedBitField offset p size to d) l = PlaceFits at d l
TokenFits at (T.ArrayEnd to) l = Unit {0}
TokenFits at (T.ContainerEnd kind to) l = Unit {0}
TokenFits at (T.Refused why to d) l = PlaceFits at d l
TokenFits at T.Parts l = Unit {0}
TokenFits at T.End l = Unit {0}

-- ---- Whole-text reading, strict or not.

abbrev pub whole_by : Bool → List ℕ → Whole
whole_by false s = from_str s
whole_by true s = from_str_strict s

abbrev pub whole_answer : Bool → List ℕ → List ℕ → List ℕ → Result (Unit {0}) Refusal
whole_answer strict text words names = answer_or (turned_away text words names) (whole_reading (whole_by strict text))

abbrev pub whole_words : Bool → List ℕ → List ℕ → List ℕ → List ℕ
whole_words strict text words names = words_after text words names (whole_tree (whole_by strict text))

abbrev pub whole_names : Bool → List ℕ → List ℕ → List ℕ → List ℕ
whole_names strict text words names = names_after text words names (whole_tree (whole_by strict text))
