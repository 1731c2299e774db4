-- Numbers in text: decimal without surplus zeros (01, "Printed text"). Both documents write counts so.
use Rattle.std.specs.Prelude.{ℕ, zero, suc, ◌+◌, ◌/◌, ◌%◌, true, false, List, [], ◌∷◌, ◌++◌, ltb}
use Rattle.kinds.specs.Byte.{byte}

-- The last digit stands after the digits of a tenth; `most` bounds the count of digits.
unfoldable pub digits : ℕ → ℕ → List ℕ
digits zero n = []
digits (suc most) n = elim (ltb n 10) [ true ↦ (byte "0" + n) ∷ [] | false ↦ digits most (n / 10) ++ ((byte "0" + n % 10) ∷ []) ]

unfoldable pub decimal : ℕ → List ℕ
decimal n = digits (suc n) n
