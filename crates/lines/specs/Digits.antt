-- Digits of a number as bytes of a word, the last digit lowest: how eight of them are worked out and stored at once.
use Rattle.std.specs.Prelude.{ℕ, ◌+◌, ◌*◌, ◌/◌, ◌%◌, List, [], ◌∷◌, ◌++◌}
use Rattle.kinds.specs.Byte.{byte}

-- A number below 100,000,000 as two numbers of four digits, 32 bits each, and as four of two digits, 16 bits each.
abbrev pub in_fours : ℕ → ℕ
in_fours n = n % 10000 + 4294967296 * (n / 10000)

unfoldable pub in_twos : ℕ → ℕ
in_twos n = n % 100 + 65536 * (n / 100 % 100) + 4294967296 * (n / 10000 % 100) + 281474976710656 * (n / 1000000)

-- The last four digits of `n`, as bytes and as a word.
unfoldable pub four_digits : ℕ → List ℕ
four_digits n = (byte "0" + n / 1000 % 10) ∷ (byte "0" + n / 100 % 10) ∷ (byte "0" + n / 10 % 10) ∷ (byte "0" + n % 10) ∷ []

unfoldable pub four_packed : ℕ → ℕ
four_packed n = (byte "0" + n % 10) + 256 * (byte "0" + n / 10 % 10) + 65536 * (byte "0" + n / 100 % 10) + 16777216 * (byte "0" + n / 1000 % 10)

-- The last eight digits of `n` as a word.
unfoldable pub eight_packed : ℕ → ℕ
eight_packed n = four_packed n + 4294967296 * four_packed (n / 10000)

-- The two, four and eight lowest bytes of a word, the highest of them first.
unfoldable pub two_bytes : ℕ → List ℕ
two_bytes w = (w / 256 % 256) ∷ (w % 256) ∷ []

unfoldable pub four_bytes : ℕ → List ℕ
four_bytes w = two_bytes (w / 65536) ++ two_bytes w

unfoldable pub eight_bytes : ℕ → List ℕ
eight_bytes w = four_bytes (w / 4294967296) ++ four_bytes w
