-- What the calls answer and leave in the lent output (02, N4; refusals 3, 4 and 5 in this order; a refusal and a yes write nothing).
use Rattle.std.specs.Prelude.{ℕ, Bool, cond, List, leb, length}
use Rattle.std.specs.Prelude.{Option, Some, None}
use Rattle.kinds.specs.declared.NestingLevel.TheVariants.{Top}
use Rattle.kinds.specs.declared.Refusal.TheVariants as R
use Rattle.sheet.specs.Answer.{of_sheets}
use Rattle.static_str.specs.Answer.{placed}
use Rattle.reason.specs.Reason.{Reason, first_difference, reason_text}
use Rattle.std.specs.Prelude.{Result, Ok, Err}
use Rattle.kinds.specs.declared.Refusal.{Refusal}

-- A yes has no reason; a no has as many bytes as its reason.
unfoldable pub measured : Option Reason → Result (Option ℕ) Refusal
measured None = Ok None
measured (Some r) = Ok (Some (length (reason_text r)))

-- The same, where the bytes are to be written into `room` bytes.
unfoldable pub fitted_reason : ℕ → Option Reason → Result (Option ℕ) Refusal
fitted_reason room None = Ok None
fitted_reason room (Some r) = cond (leb (length (reason_text r)) room) (Ok (Some (length (reason_text r)))) (Err R.OutputTooShort)

-- The output after it.
unfoldable pub placed_reason : List ℕ → Option Reason → List ℕ
placed_reason out None = out
placed_reason out (Some r) = placed (reason_text r) out

-- `reason_len`, by levels or with `all` fields.
unfoldable pub reason_len : Bool → List ℕ → List ℕ → List ℕ → List ℕ → Result (Option ℕ) Refusal
reason_len all aw an bw bn = of_sheets Err (λ t u. measured (first_difference all Top t u)) aw an bw bn

-- `reason` with an output of `room` bytes.
unfoldable pub reason_answer : Bool → List ℕ → List ℕ → List ℕ → List ℕ → ℕ → Result (Option ℕ) Refusal
reason_answer all aw an bw bn room = of_sheets Err (λ t u. fitted_reason room (first_difference all Top t u)) aw an bw bn

-- The output after it.
unfoldable pub reason_output : Bool → List ℕ → List ℕ → List ℕ → List ℕ → List ℕ → List ℕ
reason_output all aw an bw bn out = of_sheets (λ r. out) (λ t u. placed_reason out (first_difference all Top t u)) aw an bw bn
