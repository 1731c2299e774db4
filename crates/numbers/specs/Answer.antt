-- What reading a number answers: the number and the place after it, or why there is none and where (parse.rs, `parse_u64` and `parse_u8`); and what its digits show (02, N3).
use Rattle.std.specs.Prelude.{ℕ, List, ◌&&◌, ltb, eqb, Ok, Err}
use Rattle.kinds.specs.Byte.{byte}
use Rattle.kinds.specs.Parse as R
use Rattle.kinds.specs.Parse.{value, no_number}
use Rattle.kinds.specs.Refusal.{parse_error}
use Rattle.kinds.specs.Strict.{digit_count, surplus_zero}
use Rattle.parser.specs.Place.{place_of}
use Rattle.numbers.specs.declared.Digits.{Digits}
use Rattle.numbers.specs.declared.Number.{Number}

-- Of the number at the start of the text.
abbrev pub digits_of : List ℕ → Digits
digits_of s = record { «count» = digit_count s; «surplus» = surplus_zero s }

-- The same by the first digit and the count.
abbrev pub digits_taken : ℕ → ℕ → Digits
digits_taken first n = record { «count» = n; «surplus» = ltb 1 n && eqb first (byte "0") }

-- `s` is the text from where the number begins.
unfoldable pub number_at : List ℕ → List ℕ → R.Number → Number
number_at text s (value n t) = record { «read» = Ok (n, place_of text t); «digits» = digits_of s }
number_at text s (no_number e t) = record { «read» = Err (parse_error e (place_of text t)); «digits» = digits_of s }
