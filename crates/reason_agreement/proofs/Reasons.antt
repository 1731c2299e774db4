-- What the reason for a no says of two trees: the statements over the definitions of reason (Reason.antt, Answer.antt) and of this crate.
-- Valid trees are those of kinds (Sound.antt), shown parts too (Tree.antt). The work is in the files below this one.
use Prim.Native.Nat.{ℕ, ◌≤◌, ◌<◌}
use mathlib.Core.Path.{◌≡◌}
use mathlib.Core.Bool.{Bool, true, false}
use mathlib.Core.List.{List}
use Rattle.std.specs.Prelude.{Some, None}
use lib.ListN.{length}
use Rattle.kinds.specs.Compare.{compare_encodings}
use Rattle.kinds.specs.Sound.{valid, good_names}
use Rattle.kinds.specs.Tree.{Trees, is_one, shown}
use Rattle.kinds.specs.declared.NestingLevel.{NestingLevel}
use Rattle.kinds.specs.declared.Refusal.TheVariants as R
use Rattle.helper.specs.Answer.{compare_answer}
use Rattle.reason.specs.Answer.{reason_len, reason_answer, reason_output}
use Rattle.reason.specs.Reason.{Reason, GoodValues, first_difference, reason_text}
use Rattle.std.specs.Prelude.{Ok, Err}
use Rattle.reason_agreement.specs.Along.{follow, before, difference_along, Differ, swapped, is_none}
use Rattle.reason_agreement.specs.Cases.{AllHold, cases}
use Rattle.reason_agreement.specs.Calls.{decided_by, Written}
use Rattle.reason_agreement.proofs.AlongLaws.{found-along, found_first, none-along}
use Rattle.reason_agreement.proofs.CallLaws.{compared, whole, short, nothing}
use Rattle.reason_agreement.proofs.CasesHold.{all_hold}
use Rattle.reason_agreement.proofs.GoodLaws.{found-good}
use Rattle.reason_agreement.proofs.RightLaws.{found_right}
use Rattle.reason_agreement.proofs.ShownLaws.{found-shown}
use Rattle.reason_agreement.proofs.SwapLaws.{found-turned}
use Rattle.reason_agreement.proofs.TextLaws.{texts-differ}
use Rattle.reason_agreement.proofs.YesLaws.{yes-exactly}

-- ---- Two trees, by levels or with all fields.

module _ (all : Bool) (v : NestingLevel) (t u : Trees) where
  -- There is no reason exactly for a yes.
  pub yes-or-reason : is_one t ≡ true → is_one u ≡ true → compare_encodings all v t u ≡ is_none (first_difference all v t u)
  yes-or-reason = yes-exactly all v t u

  -- The comparison, followed along the path of the reason, comes to the difference that it gives.
  pub reason-along : {r : Reason} → first_difference all v t u ≡ Some r → difference_along all v r.path t u ≡ Some r.differs
  reason-along {r} = found-along all v r.path r.differs t u

  -- And along every path that stands earlier in its order to none.
  pub reason-first : {r : Reason} → first_difference all v t u ≡ Some r → (q : List ℕ) → before q r.path ≡ true → difference_along all v q t u ≡ None
  reason-first {r} = found_first all v r.path r.differs t u

  -- Where there is no reason, there is no difference along any path.
  pub yes-nowhere : first_difference all v t u ≡ None → (q : List ℕ) → difference_along all v q t u ≡ None
  yes-nowhere h q = none-along all v q t u h

  -- The values are those of the two nodes to which the path leads in each tree by itself, and they differ.
  pub reason-right : valid t ≡ true → valid u ≡ true → {r : Reason} → first_difference all v t u ≡ Some r → Differ r.differs (follow r.path t) (follow r.path u)
  reason-right a b {r} = found_right all v r.path r.differs t u a b

  -- Kinds are the sheet's, and names are good where both trees' names are.
  pub reason-good : valid t ≡ true → valid u ≡ true → good_names t ≡ true → good_names u ≡ true → {r : Reason} → first_difference all v t u ≡ Some r → GoodValues r.differs
  reason-good a b f g {r} = found-good all v t u a b f g r

  -- With the sides exchanged the reason has its two values exchanged, and nothing else.
  pub swapping : valid t ≡ true → valid u ≡ true → first_difference all v u t ≡ swapped (first_difference all v t u)
  swapping = found-turned all v t u

-- By levels the reason is that of the shown parts.
pub reason-shown : (v : NestingLevel) (t u : Trees) → valid t ≡ true → valid u ≡ true → first_difference false v (shown v t) (shown v u) ≡ first_difference false v t u
reason-shown = found-shown

-- ---- Its bytes.

-- Two different reasons never make the same bytes.
pub reasons-differ : (r s : Reason) → reason_text r ≡ reason_text s → r ≡ s
reasons-differ = texts-differ

-- ---- The calls, for all lists.

module _ (all : Bool) (aw an bw bn : List ℕ) where
  -- Comparing refuses as the reason's length does, and answers yes exactly where there is no reason.
  pub compare-and-reason : compare_answer all aw an bw bn ≡ decided_by (reason_len all aw an bw bn)
  compare-and-reason = compared all aw an bw bn

  module _ (out : List ℕ) where
    -- With room for it, the reason is written, which is right of the trees that the lists hold, and the answer is its length.
    pub written : (n : ℕ) → reason_len all aw an bw bn ≡ Ok (Some n) → n ≤ length out → Written all aw an bw bn out n
    written = whole all aw an bw bn out

    -- With less room it is refusal 5, and nothing is written.
    pub refused-short : (n : ℕ) → reason_len all aw an bw bn ≡ Ok (Some n) → length out < n
        → (reason_answer all aw an bw bn (length out) ≡ Err R.OutputTooShort) × (reason_output all aw an bw bn out ≡ out)
    refused-short = short all aw an bw bn out

    -- Without a reason any room serves: the answer is the length's, and nothing is written.
    pub not_written : ((n : ℕ) → reason_len all aw an bw bn ≡ Ok (Some n) → ⊥)
        → (reason_answer all aw an bw bn (length out) ≡ reason_len all aw an bw bn) × (reason_output all aw an bw bn out ≡ out)
    not_written = nothing all aw an bw bn out

-- ---- Each case of the table holds.

pub reason-cases : AllHold cases
reason-cases = all_hold
