-- What the callable functions answer and leave in the lent output (01, refusals 3, 4 and 5 in this order; a refusal writes nothing).
use Rattle.std.specs.Prelude.{ℕ, cond, List, ◌++◌, leb, length, drop}
use Rattle.kinds.specs.Print.{print}
use Rattle.kinds.specs.declared.NestingLevel.TheVariants.{Top}
use Rattle.kinds.specs.declared.Refusal.TheVariants as R
use Rattle.sheet.specs.Answer.{of_sheet}
use Rattle.std.specs.Prelude.{Result, Ok, Err}
use Rattle.kinds.specs.declared.Refusal.{Refusal}

-- The answer for a text that is to be written into `room` bytes.
unfoldable pub fitted : List ℕ → ℕ → Result ℕ Refusal
fitted text room = cond (leb (length text) room) (Ok (length text)) (Err R.OutputTooShort)

-- The output after it: the text at the front, or nothing written where it does not fit.
unfoldable pub placed : List ℕ → List ℕ → List ℕ
placed text out = cond (leb (length text) (length out)) (text ++ drop (length text) out) out

-- `static_encoding_str_len`.
unfoldable pub encoding_len : List ℕ → List ℕ → Result ℕ Refusal
encoding_len words names = of_sheet Err (λ t. Ok (length (print Top t))) words names

-- `static_encoding_str_array` with an output of `room` bytes.
unfoldable pub encoding_array : List ℕ → List ℕ → ℕ → Result ℕ Refusal
encoding_array words names room = of_sheet Err (λ t. fitted (print Top t) room) words names

-- The output after it.
unfoldable pub encoding_output : List ℕ → List ℕ → List ℕ → List ℕ
encoding_output words names out = of_sheet (λ r. out) (λ t. placed (print Top t) out) words names
