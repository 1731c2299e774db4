-- The calls, from the trees that the lists hold.
use Prim.Native.Nat.{ℕ, ◌≤◌, ◌<◌}
use native.Mathlib.Omega.{arith}
use mathlib.Core.Path.{◌≡◌, refl, ap, ◌∙◌}
use mathlib.Core.Bool.{Bool, true, false, true≢false}
use mathlib.Core.List.{List}
use Rattle.std.specs.Prelude.{Option, Some, None}
use lib.ListN.{length}
use borrow.Author.Tests.{le-leb, lt-leb}
use Rattle.kinds.specs.Compare.{compare_encodings}
use Rattle.kinds.specs.Sound.{good_names}
use Rattle.kinds.specs.Tree.{Trees}
use Rattle.std.specs.Prelude.{Ok, Err}
use Rattle.kinds.specs.declared.NestingLevel.TheVariants.{Top}
use Rattle.kinds.specs.declared.Refusal.TheVariants as R
use Rattle.sheet.specs.Answer.{Held, refused, holding, held, HeldBoth, refused_both, holding_both, paired, held_both, of_held_both, of_sheets}
use Rattle.sheet.proofs.GivenLaws.{held-says}
use Rattle.static_str.specs.Answer.{placed}
use Rattle.helper.specs.Answer.{compare_answer}
use Rattle.bounds.proofs.HeldLaws.{held-holds}
use Rattle.reason.specs.Answer.{measured, fitted_reason, placed_reason, reason_len, reason_answer, reason_output}
use Rattle.reason.specs.Reason.{Reason, first_difference, reason_text}
use Rattle.reason_agreement.specs.Along.{is_none}
use Rattle.reason_agreement.specs.Calls.{decided_by, Written}
use Rattle.reason_agreement.proofs.GoodLaws.{found-good}
use Rattle.reason_agreement.proofs.RightLaws.{found_right}
use Rattle.reason_agreement.proofs.YesLaws.{yes-exactly}

held-good : (words names : List ℕ) (t : Trees) → held words names ≡ holding t → good_names t ≡ true
held-good words names t e = let h = held-says words names e in rw h.tree at h.good

decided : (o : Option Reason) → Ok (is_none o) ≡ decided_by (measured o)
unfolding is_none measured
decided None = refl
decided (Some r) = refl

module _ (all : Bool) (aw an bw bn : List ℕ) where
  pub compared : compare_answer all aw an bw bn ≡ decided_by (reason_len all aw an bw bn)
  unfolding compare_answer reason_len of_sheets held_both
  compared = go (held aw an) refl (held bw bn) refl
    where
      go : (h : Held) → held aw an ≡ h → (k : Held) → held bw bn ≡ k
          → of_held_both Err (λ t u. Ok (compare_encodings all Top t u)) (paired h k) ≡ decided_by (of_held_both Err (λ t u. measured (first_difference all Top t u)) (paired h k))
      go (refused r) e (refused q) f = refl
      go (refused r) e (holding u) f = refl
      go (holding t) e (refused q) f = refl
      go (holding t) e (holding u) f =
          ap Ok (yes-exactly all Top t u (held-holds aw an t e).one (held-holds bw bn u f).one) ∙ decided (first_difference all Top t u)

  -- What the lists hold, as one.
  record BothHeld (t u : Trees) : Type 0 where
    first : held aw an ≡ holding t
    second : held bw bn ≡ holding u

  both-held : {t u : Trees} → held_both aw an bw bn ≡ holding_both t u → BothHeld t u
  unfolding held_both
  both-held {t} {u} e = go (held aw an) refl (held bw bn) refl e
    where
      go : (h : Held) → held aw an ≡ h → (k : Held) → held bw bn ≡ k → paired h k ≡ holding_both t u → BothHeld t u
      go (refused r) a (refused q) b h = let z : true ≡ false = cc in absurd (true≢false z)
      go (refused r) a (holding y) b h = let z : true ≡ false = cc in absurd (true≢false z)
      go (holding x) a (refused q) b h = let z : true ≡ false = cc in absurd (true≢false z)
      go (holding x) a (holding y) b h = let m : x ≡ t = cc in let n : y ≡ u = cc in record { first = a ∙ ap holding m; second = b ∙ ap holding n }

  -- What a length says.
  pub record Measured (n : ℕ) : Type 0 where
    pub first : Trees
    pub second : Trees
    pub reason : Reason
    pub both : held_both aw an bw bn ≡ holding_both first second
    pub first-held : held aw an ≡ holding first
    pub second-held : held bw bn ≡ holding second
    pub found : first_difference all Top first second ≡ Some reason
    pub long : length (reason_text reason) ≡ n

  pub length-says : {n : ℕ} → reason_len all aw an bw bn ≡ Ok (Some n) → Measured n
  unfolding reason_len of_sheets measured
  length-says {n} h = go (held_both aw an bw bn) refl h
    where
      of-trees : (t u : Trees) → held_both aw an bw bn ≡ holding_both t u → (o : Option Reason) → first_difference all Top t u ≡ o → measured o ≡ Ok (Some n) → Measured n
      of-trees t u e None f k = let z : true ≡ false = cc in absurd (true≢false z)
      of-trees t u e (Some r) f k =
          let b = both-held e in
          let m : length (reason_text r) ≡ n = cc in
          record { first = t; second = u; reason = r; both = e; first-held = b.first; second-held = b.second; found = f; long = m }

      go : (h : HeldBoth) → held_both aw an bw bn ≡ h → of_held_both Err (λ t u. measured (first_difference all Top t u)) h ≡ Ok (Some n) → Measured n
      go (refused_both r) e k = let z : true ≡ false = cc in absurd (true≢false z)
      go (holding_both t u) e k = of-trees t u e (first_difference all Top t u) refl k

  module _ (out : List ℕ) where
    pub whole : (n : ℕ) → reason_len all aw an bw bn ≡ Ok (Some n) → n ≤ length out → Written all aw an bw bn out n
    unfolding reason_answer reason_output of_sheets fitted_reason placed_reason placed
    whole n h l =
        let m = length-says h in
        let q = m.long in
        let fits = le-leb (length (reason_text m.reason)) (length out) (omega arith) in
        let a = (held-holds aw an m.first m.first-held).valid-tree in
        let b = (held-holds bw bn m.second m.second-held).valid-tree in
        record {
          first = m.first;
          second = m.second;
          reason = m.reason;
          first-held = m.first-held;
          second-held = m.second-held;
          first-valid = a;
          second-valid = b;
          found = m.found;
          right = found_right all Top m.reason.path m.reason.differs m.first m.second a b m.found;
          good = found-good all Top m.first m.second a b (held-good aw an m.first m.first-held) (held-good bw bn m.second m.second-held) m.reason m.found;
          long = m.long;
          answer = rw (m.both, m.found, fits, q);
          output = rw (m.both, m.found, fits, q);
        }

    pub short : (n : ℕ) → reason_len all aw an bw bn ≡ Ok (Some n) → length out < n
        → (reason_answer all aw an bw bn (length out) ≡ Err R.OutputTooShort) × (reason_output all aw an bw bn out ≡ out)
    unfolding reason_answer reason_output of_sheets fitted_reason placed_reason placed
    short n h l =
        let m = length-says h in
        let q = m.long in
        let fits = lt-leb (length (reason_text m.reason)) (length out) (omega arith) in
        (rw (m.both, m.found, fits), rw (m.both, m.found, fits))

    pub nothing : ((n : ℕ) → reason_len all aw an bw bn ≡ Ok (Some n) → ⊥)
        → (reason_answer all aw an bw bn (length out) ≡ reason_len all aw an bw bn) × (reason_output all aw an bw bn out ≡ out)
    unfolding reason_len reason_answer reason_output of_sheets measured fitted_reason placed_reason
    nothing h = go (held_both aw an bw bn) refl h
      where
        of-trees : (o : Option Reason) → ((n : ℕ) → measured o ≡ Ok (Some n) → ⊥) → (fitted_reason (length out) o ≡ measured o) × (placed_reason out o ≡ out)
        of-trees None k = (refl, refl)
        of-trees (Some r) k = absurd (k (length (reason_text r)) refl)

        go : (b : HeldBoth) → held_both aw an bw bn ≡ b → ((n : ℕ) → of_held_both Err (λ t u. measured (first_difference all Top t u)) b ≡ Ok (Some n) → ⊥)
            → (of_held_both Err (λ t u. fitted_reason (length out) (first_difference all Top t u)) b ≡ of_held_both Err (λ t u. measured (first_difference all Top t u)) b)
            × (of_held_both (λ r. out) (λ t u. placed_reason out (first_difference all Top t u)) b ≡ out)
        go (refused_both r) e k = (refl, refl)
        go (holding_both t u) e k = of-trees (first_difference all Top t u) k
