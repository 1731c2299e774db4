-- Names of structs and unions (parse.rs, `verify_name`). A name that does not pass is a bad name of document 01 (refusals 4 and 14).
use Rattle.std.specs.Prelude.{ℕ, Bool, true, false, ◌&&◌, ◌||◌, List, [], ◌∷◌, leb, eqb}
use Rattle.kinds.specs.Byte.{byte, is_digit}

-- An ASCII letter, digit or underscore.
unfoldable pub is_name_byte : ℕ → Bool
is_name_byte b = is_digit b || ((leb (byte "A") b && leb b (byte "Z")) || ((leb (byte "a") b && leb b (byte "z")) || eqb b (byte "_")))

unfoldable pub all_name_bytes : List ℕ → Bool
all_name_bytes [] = true
all_name_bytes (b ∷ s) = is_name_byte b && all_name_bytes s

-- `?` alone, or one or more letters, digits and underscores.
unfoldable pub verify_name : List ℕ → Bool
verify_name [] = false
verify_name (b ∷ []) = eqb b (byte "?") || is_name_byte b
verify_name (b ∷ c ∷ s) = is_name_byte b && all_name_bytes (c ∷ s)
