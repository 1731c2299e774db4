-- What the calls answer: the methods of `Parser` (parse.rs), in which the whole text stays and the place moves; at the end, of a plain text.
use Rattle.std.specs.Prelude.{ℕ, Bool, List}
use Rattle.std.specs.Borrow.{Bor}
use Rattle.kinds.specs.Parse.{strip_leading_qualifiers}
use Rattle.parser.specs.Place.{end_of, remaining_at, peek_at, is_empty_at, advance_at, strip_at}
use Rattle.parser.specs.declared.Parser.{Parser}
use Rattle.std.specs.Prelude.{Option}

abbrev pub new_parser : Bor (List ℕ) → Parser
new_parser s = record { «data» = s; split_point = 0 }

abbrev pub remaining : Parser → (ℕ × ℕ) × List ℕ
remaining p = remaining_at p.«data» p.split_point

abbrev pub peek : Parser → Option ℕ
peek p = peek_at p.«data».now p.split_point

abbrev pub is_empty : Parser → Bool
is_empty p = is_empty_at p.«data».now p.split_point

abbrev pub advance : Parser → Parser
advance p = record { «data» = p.«data»; split_point = advance_at p.«data».now p.split_point }

abbrev pub strip_qualifiers : Parser → Parser
strip_qualifiers p = record { «data» = p.«data»; split_point = strip_at p.«data».now p.split_point }

-- What remains after the leading qualifiers of the whole text.
unfoldable pub skip_qualifiers : Bor (List ℕ) → (ℕ × ℕ) × List ℕ
skip_qualifiers s = end_of s (strip_leading_qualifiers s.now)
