-- Strict whole-text reading (02, N3): whole-text reading, except that a number with a surplus zero, as soon as reading meets it, is refusal 19.
use Rattle.std.specs.Prelude.{ℕ, zero, suc, ◌+◌, ◌-◌, Bool, true, false, cond, ◌&&◌, List, [], ◌∷◌, ◌++◌, ltb, eqb, length, get_or}
use Rattle.std.specs.Prelude.{Option, Some, None}
use Rattle.kinds.specs.Byte.{byte, is_digit}
use Rattle.kinds.specs.Parse.{max_u64, value, no_number, parse_number, integral, Start, single, complex, object, bits, indirection, open_array, close_array, open_container, close_container, nothing, start}
use Rattle.kinds.specs.Parse.{Parsed, empty, encoding, container_end, array_end, refused, named, unnamed, parse_name, parse_inner, strip_leading_qualifiers, Whole, refusal, from_str}
use Rattle.kinds.specs.declared.ContainerKind.{ContainerKind}
use Rattle.kinds.specs.declared.ErrorKind.TheVariants.{SurplusZero}

-- How many digits the number at the start of the text has.
unfoldable pub digit_count : List ℕ → ℕ
digit_count [] = 0
digit_count (b ∷ s) = elim (is_digit b) [ true ↦ suc (digit_count s) | false ↦ 0 ]

-- It has more than one digit and starts with 0.
unfoldable pub surplus_zero : List ℕ → Bool
surplus_zero s = ltb 1 (digit_count s) && eqb (get_or s 0 0) (byte "0")

-- ---- The numbers that reading meets, in order; each is given as the text from where it begins, also where reading finds that no digit stands there.

-- After the first number of a bitfield: a second where a type is there with a digit behind it (`try_parse_bitfield_gnustep`).
unfoldable pub typed_number : List ℕ → List (List ℕ)
typed_number [] = []
typed_number (b ∷ []) = []
typed_number (b ∷ c ∷ s) = cond (integral b && is_digit c) ((c ∷ s) ∷ []) []

-- After `b`.
unfoldable pub bits_numbers : List ℕ → List (List ℕ)
bits_numbers s = s ∷ elim (parse_number max_u64 s) [ value n t ↦ typed_number t | no_number e t ↦ [] ]

-- Of a bitfield or an array itself, by what its first byte begins; `s` follows that byte.
unfoldable pub numbers_of : Start → List ℕ → List (List ℕ)
numbers_of (single p) s = []
numbers_of complex s = []
numbers_of object s = []
numbers_of bits s = bits_numbers s
numbers_of (indirection l) s = []
numbers_of open_array s = s ∷ []
numbers_of close_array s = []
numbers_of (open_container k) s = []
numbers_of (close_container k) s = []
numbers_of nothing s = []

-- Of what it holds: `inner` is met in a type and `fields` in a container's items.
unfoldable pub numbers_inside : Start → List ℕ → (List ℕ → List (List ℕ)) → (ContainerKind → List ℕ → List (List ℕ)) → List (List ℕ)
numbers_inside (single p) s inner fields = []
numbers_inside complex s inner fields = []
numbers_inside object s inner fields = []
numbers_inside bits s inner fields = []
numbers_inside (indirection l) s inner fields = inner s
numbers_inside open_array s inner fields = elim (parse_number max_u64 s) [ value n t ↦ inner t | no_number e t ↦ [] ]
numbers_inside close_array s inner fields = []
numbers_inside (open_container k) s inner fields = elim (parse_name k [] s) [ named m t ↦ fields k t | unnamed e t ↦ [] ]
numbers_inside (close_container k) s inner fields = []
numbers_inside nothing s inner fields = []

-- Of the items after one that was read.
unfoldable pub numbers_after : Parsed → (List ℕ → List (List ℕ)) → List (List ℕ)
numbers_after empty more = []
numbers_after (encoding l cs t) more = more t
numbers_after (container_end k t) more = []
numbers_after (array_end t) more = []
numbers_after (refused e t) more = []

-- Of what `parse_inner` and `parse_items` read by at most `fuel` steps.
unfoldable mutual
  pub inner_numbers : ℕ → List ℕ → List (List ℕ)
  inner_numbers zero s = []
  inner_numbers (suc fuel) [] = []
  inner_numbers (suc fuel) (b ∷ s) = numbers_of (start b) s ++ numbers_inside (start b) s (λ t. inner_numbers fuel t) (λ k t. items_numbers fuel k t)

  pub items_numbers : ℕ → ContainerKind → List ℕ → List (List ℕ)
  items_numbers zero k s = []
  items_numbers (suc fuel) k s = inner_numbers fuel s ++ numbers_after (parse_inner fuel s) (λ t. items_numbers fuel k t)

unfoldable pub numbers : List ℕ → List (List ℕ)
numbers s = inner_numbers (length s + length s) s

-- Of whole-text reading: up to where it ends or refuses.
unfoldable pub numbers_met : List ℕ → List (List ℕ)
numbers_met s = numbers (strip_leading_qualifiers s)

-- ---- Strict reading.

-- The first of the numbers that has a surplus zero.
unfoldable pub first_surplus : List (List ℕ) → Option (List ℕ)
first_surplus [] = None
first_surplus (s ∷ ss) = cond (surplus_zero s) (Some s) (first_surplus ss)

-- 19 at its first digit; else as whole-text reading answers. `n` is the length of the whole text.
unfoldable pub unless_surplus : ℕ → Option (List ℕ) → Whole → Whole
unless_surplus n (Some t) w = refusal SurplusZero (n - length t)
unless_surplus n None w = w

-- Strict whole-text reading.
unfoldable pub from_str_strict : List ℕ → Whole
from_str_strict s = unless_surplus (length s) (first_surplus (numbers_met s)) (from_str s)
