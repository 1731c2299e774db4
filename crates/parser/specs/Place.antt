-- What stands at a place of a text, and which place comes next (parse.rs, the methods of `Parser`).
use Rattle.std.specs.Prelude.{ℕ, ◌+◌, ◌-◌, Bool, true, false, List, leb, ltb, length, drop, get_or}
use Rattle.std.specs.Borrow.{Bor}
use Rattle.kinds.specs.Parse.{strip_leading_qualifiers}
use Rattle.std.specs.Prelude.{Option, Some, None}

-- A lent text as its lender knows it: where it begins, and its bytes.
abbrev pub lent : Bor (List ℕ) → (ℕ × ℕ) × List ℕ
lent s = (s.ref_ptr, s.now)

-- The end of the lent text that holds `t`, and no copy: the same memory, further on by as many bytes as `t` is shorter.
unfoldable pub end_of : Bor (List ℕ) → List ℕ → (ℕ × ℕ) × List ℕ
end_of s t = ((s.ref_ptr.0, s.ref_ptr.1 + (length s.now - length t)), t)

-- The place where what is unread begins.
abbrev pub place_of : List ℕ → List ℕ → ℕ
place_of text rest = length text - length rest

-- From a place on; past the end, the empty part at the end.
unfoldable pub remaining_at : Bor (List ℕ) → ℕ → (ℕ × ℕ) × List ℕ
remaining_at s at = end_of s (drop at s.now)

unfoldable pub peek_at : List ℕ → ℕ → Option ℕ
peek_at s at = elim (ltb at (length s)) [ true ↦ Some (get_or s at 0) | false ↦ None ]

unfoldable pub is_empty_at : List ℕ → ℕ → Bool
is_empty_at s at = leb (length s) at

-- One byte on; at the end of the text there is none, and the place stays.
unfoldable pub advance_at : List ℕ → ℕ → ℕ
advance_at s at = elim (ltb at (length s)) [ true ↦ at + 1 | false ↦ at ]

-- On by as many bytes as stripping takes off what is unread.
unfoldable pub strip_at : List ℕ → ℕ → ℕ
strip_at s at = at + (length (drop at s) - length (strip_leading_qualifiers (drop at s)))
