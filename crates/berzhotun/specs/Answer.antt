-- The answers as numbers: 0 where the input is accepted, else the number of the refusal (01 and 02); and what stands in the lent answer: on a refusal the values that
-- it carries, if it carries any and the call has room for them, else 0 throughout.
use Rattle.std.specs.Prelude.{ℕ, ◌-◌, true, false, List, [], ◌∷◌, length}
use Rattle.kinds.specs.Refusal.{number, values}
use Rattle.std.specs.Prelude.{Result, Ok, Err}
use Rattle.kinds.specs.declared.Refusal.{Refusal}
use Rattle.std.specs.Prelude.{Bool}
use Rattle.std.specs.Prelude.{Option, Some, None}
use Rattle.parse.specs.Answer.{from_start_rest}

abbrev pub size_number : Result (Option ℕ) Refusal → ℕ
size_number (Err r) = number r
size_number (Ok None) = 0
size_number (Ok (Some n)) = 0

-- 1 and the bytes, or 0 and 0 for no size.
abbrev pub size_values : Result (Option ℕ) Refusal → List ℕ
size_values (Err r) = 0 ∷ 0 ∷ []
size_values (Ok None) = 0 ∷ 0 ∷ []
size_values (Ok (Some n)) = 1 ∷ n ∷ []

abbrev pub compare_number : Result Bool Refusal → ℕ
compare_number (Err r) = number r
compare_number (Ok y) = 0

-- 1 for yes, 0 for no.
abbrev pub compare_values : Result Bool Refusal → List ℕ
compare_values (Err r) = 0 ∷ []
compare_values (Ok true) = 1 ∷ []
compare_values (Ok false) = 0 ∷ []

abbrev pub reason_number : Result (Option ℕ) Refusal → ℕ
reason_number (Err r) = number r
reason_number (Ok None) = 0
reason_number (Ok (Some n)) = 0

-- 1 and 0 for yes; for no, 0 and the count of the reason's bytes.
abbrev pub reason_values : Result (Option ℕ) Refusal → List ℕ
reason_values (Err r) = 0 ∷ 0 ∷ []
reason_values (Ok None) = 1 ∷ 0 ∷ []
reason_values (Ok (Some n)) = 0 ∷ n ∷ []

abbrev pub print_number : Result ℕ Refusal → ℕ
print_number (Err r) = number r
print_number (Ok n) = 0

-- The count of bytes.
abbrev pub print_values : Result ℕ Refusal → List ℕ
print_values (Err r) = 0 ∷ []
print_values (Ok n) = n ∷ []

abbrev pub read_number : Result (Unit {0}) Refusal → ℕ
read_number (Ok tt) = 0
read_number (Err r) = number r

-- The refusal's place, byte and container; `place` and zeros for a tree.
abbrev pub read_values : ℕ → Result (Unit {0}) Refusal → List ℕ
read_values place (Ok tt) = place ∷ 0 ∷ 0 ∷ []
read_values place (Err r) = values r

-- The place where the rest begins.
abbrev pub rest_place : List ℕ → List ℕ → List ℕ → ℕ
rest_place text words names = length text - length (from_start_rest text words names)

abbrev pub signature_number : Result ℕ Refusal → ℕ
signature_number (Ok k) = 0
signature_number (Err r) = number r

-- The count of entries and zeros, or the refusal's place, byte and container.
abbrev pub signature_values : Result ℕ Refusal → List ℕ
signature_values (Ok k) = k ∷ 0 ∷ 0 ∷ []
signature_values (Err r) = values r

abbrev pub layout_number : Result (Option (ℕ × ℕ)) Refusal → ℕ
layout_number (Err r) = number r
layout_number (Ok None) = 0
layout_number (Ok (Some (n, a))) = 0

-- 1, the padded size and the alignment; zeros where there is none; the node of refusal 21, and zeros for every other.
abbrev pub layout_values : Result (Option (ℕ × ℕ)) Refusal → List ℕ
layout_values (Err r) = values r
layout_values (Ok None) = 0 ∷ 0 ∷ 0 ∷ []
layout_values (Ok (Some (n, a))) = 1 ∷ n ∷ a ∷ []
