-- The bound that the header gives for a reason: the statements over the definitions that the calls are proved to equal.
use Prim.Native.Nat.{ℕ, ◌≤◌}
use mathlib.Core.Path.{◌≡◌}
use mathlib.Core.Bool.{Bool}
use mathlib.Core.List.{List}
use lib.ListN.{length}
use Rattle.kinds.specs.Sheet.{names_of, sheet_of}
use Rattle.kinds.specs.declared.Refusal.TheVariants.{OutputTooShort}
use Rattle.reason.specs.Answer.{reason_len, reason_answer}
use Rattle.std.specs.Prelude.{Some, Ok, Err}
use Rattle.reason_agreement.specs.Limits.{max_reason, farthest_r, farthest_s}
use Rattle.reason_agreement.proofs.BoundLaws.{most, enough, never-short}
use Rattle.reason_agreement.proofs.FarthestLaws.{reaches}

-- No reason has more than 8,016 bytes.
pub reason-bounded : (all : Bool) (aw an bw bn : List ℕ) (n : ℕ) → reason_len all aw an bw bn ≡ Ok (Some n) → n ≤ max_reason
reason-bounded = most

-- With an output of that length the answer is the length's, and never refusal 5.
pub reason-has-room : (all : Bool) (aw an bw bn out : List ℕ) → max_reason ≤ length out → reason_answer all aw an bw bn (length out) ≡ reason_len all aw an bw bn
reason-has-room = enough

pub reason-never-short : (all : Bool) (aw an bw bn out : List ℕ) → max_reason ≤ length out → reason_answer all aw an bw bn (length out) ≡ Err OutputTooShort → ⊥
reason-never-short = never-short

-- And the reason of these two sheets has as many, by levels and with all fields.
pub reason-reached : (all : Bool) → reason_len all (sheet_of farthest_r) (names_of farthest_r) (sheet_of farthest_s) (names_of farthest_s) ≡ Ok (Some max_reason)
reason-reached = reaches
