-- What the calls answer, held against each other.
use Rattle.std.specs.Prelude.{ℕ, Bool, true, false, List, ◌++◌, ◌≡◌, length, drop}
use Rattle.std.specs.Prelude.{Some}
use Rattle.kinds.specs.Sound.{valid}
use Rattle.kinds.specs.Tree.{Trees}
use Rattle.std.specs.Prelude.{Result, Ok, Err}
use Rattle.kinds.specs.declared.Refusal.{Refusal}
use Rattle.kinds.specs.declared.NestingLevel.TheVariants.{Top}
use Rattle.sheet.specs.Answer.{held, holding}
use Rattle.reason.specs.Answer.{reason_answer, reason_output}
use Rattle.reason.specs.Reason.{Reason, GoodValues, first_difference, reason_text}
use Rattle.std.specs.Prelude.{Option, None}
use Rattle.reason_agreement.specs.Along.{follow, Differ}

-- What comparing answers where the reason's call answers this.
abbrev pub decided_by : Result (Option ℕ) Refusal → Result Bool Refusal
decided_by (Err r) = Err r
decided_by (Ok None) = Ok true
decided_by (Ok (Some n)) = Ok false

-- The lists hold trees with a reason of `n` bytes, which is right and stands at the front of the output, with what was behind it left as it was.
pub record Written (all : Bool) (aw an bw bn out : List ℕ) (n : ℕ) : Type 0 where
  pub first : Trees
  pub second : Trees
  pub reason : Reason
  pub first-held : held aw an ≡ holding first
  pub second-held : held bw bn ≡ holding second
  pub first-valid : valid first ≡ true
  pub second-valid : valid second ≡ true
  pub found : first_difference all Top first second ≡ Some reason
  pub right : Differ reason.differs (follow reason.path first) (follow reason.path second)
  pub good : GoodValues reason.differs
  pub long : length (reason_text reason) ≡ n
  pub answer : reason_answer all aw an bw bn (length out) ≡ Ok (Some n)
  pub output : reason_output all aw an bw bn out ≡ reason_text reason ++ drop n out
