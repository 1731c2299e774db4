-- Strict reading over the calls' own answers, from what it gives of the text.
use Prim.Native.Nat.{ℕ, ◌≤◌}
use mathlib.Core.List.{List, []}
use mathlib.Core.Logic.{◌⊎◌, inl, inr}
use Rattle.std.specs.Prelude.{Option, Some, None}
use mathlib.Core.Path.{◌≡◌, refl, sym, ap, ◌∙◌, subst, subst₂}
use native.Mathlib.Omega.{arith}
use lib.ListN.{length, take}
use Rattle.kinds.specs.Parse as P
use Rattle.kinds.specs.Parse.{Whole, tree, from_str}
use Rattle.kinds.specs.Sheet.{max_text}
use Rattle.kinds.specs.Strict.{numbers_met, first_surplus, unless_surplus, from_str_strict}
use Rattle.kinds.specs.Tree.{Label, Trees, shown}
use Rattle.kinds.specs.declared.NestingLevel.TheVariants.{Top}
use Rattle.kinds.specs.declared.Refusal.{Refusal}
use Rattle.parse.specs.Answer.{used, turned_away, sheet_words, sheet_names, unless_away, words_after, names_after, whole_tree, whole_reading, answer_or, from_str_answer, from_str_words, from_str_names}
use Rattle.parse.specs.Answer.{from_str_strict_answer, from_str_strict_words, from_str_strict_names}
use Rattle.std.specs.Prelude.{Ok}
use Rattle.static_str.specs.Answer.{encoding_array, encoding_output}
use Rattle.agreement.proofs.Agreement.{reads-readable}
use Rattle.strict_agreement.specs.Surplus.{NoneMet, FirstMet}
use Rattle.strict_agreement.proofs.Strict.{strict-or-whole, reads-prints}
use Rattle.sheet_agreement.specs.Sheets.{SheetOf, SoundSheet}
use Rattle.sheet_agreement.specs.StrictCalls.{CallsAlike, CallRefuses}
use Rattle.sheet_agreement.proofs.ReadingLaws.{Left, whole-left, written-text, back}

-- What is read strictly is read.
strict_tree : (text : List ℕ) (l : Label) (cs : Trees) → from_str_strict text ≡ tree l cs → from_str text ≡ tree l cs
unfolding from_str_strict unless_surplus
strict_tree text l cs = go (first_surplus (numbers_met text))
  where
    go : (o : Option (List ℕ)) → unless_surplus (length text) o (from_str text) ≡ tree l cs → from_str text ≡ tree l cs
    go (Some t) e = let z : ◌≡◌ {A = ℕ} 0 1 = cc in absurd (omega arith)
    go None e = e

module _ (text words names : List ℕ) where
  pub strict-leaves : from_str_strict_answer text words names ≡ Ok tt
      → (t : Trees) × (whole_tree (from_str_strict text) ≡ Some t) × SheetOf (from_str_strict_words text words names) (from_str_strict_names text words names) t
  unfolding from_str_strict_answer from_str_strict_words from_str_strict_names Left
  strict-leaves = whole-left text words names (from_str_strict text) (λ l cs e. reads-readable text l cs (strict_tree text l cs e)) (turned_away text words names) refl

  calls-alike : from_str_strict text ≡ from_str text → CallsAlike text words names
  unfolding from_str_answer from_str_words from_str_names from_str_strict_answer from_str_strict_words from_str_strict_names
  calls-alike e = record {
    answers = ap (λ (q : Whole). answer_or (turned_away text words names) (whole_reading q)) e;
    fills = ap (λ (q : Whole). words_after text words names (whole_tree q)) e;
    leaves = ap (λ (q : Whole). names_after text words names (whole_tree q)) e;
  }

  -- Refusals 1 and 2 are those of both.
  away-alike : (why : Refusal) → turned_away text words names ≡ Some why → CallsAlike text words names
  unfolding from_str_answer from_str_words from_str_names from_str_strict_answer from_str_strict_words from_str_strict_names answer_or words_after names_after unless_away
  away-alike why e = record { answers = rw e refl; fills = rw e refl; leaves = rw e refl }

  refuses : turned_away text words names ≡ None → FirstMet text → CallRefuses text words names
  unfolding from_str_strict_answer from_str_strict_words from_str_strict_names answer_or words_after names_after unless_away whole_reading whole_tree sheet_words sheet_names
  refuses e f = record {
    room = e;
    first = f;
    answers = rw (e, f.refuses) refl;
    clears = rw (e, f.refuses) refl;
    empties = rw (e, f.refuses) refl;
  }

  pub calls : CallsAlike text words names ⊎ CallRefuses text words names
  calls = go (turned_away text words names) refl (strict-or-whole text)
    where
      go : (a : Option Refusal) → turned_away text words names ≡ a → NoneMet text ⊎ FirstMet text → CallsAlike text words names ⊎ CallRefuses text words names
      go (Some why) e m = inl (away-alike why e)
      go None e (inl m) = inl (calls-alike m.alike)
      go None e (inr m) = inr (refuses e m)

-- A print is read strictly as it is read.
pub strict-back : (words names out w n : List ℕ) (t : Trees) (k : ℕ) → SoundSheet words names t → encoding_array words names (length out) ≡ Ok k → k ≤ max_text → used k ≤ length w → k ≤ length n
    → (from_str_strict_answer (take k (encoding_output words names out)) w n ≡ Ok tt)
    × SheetOf (from_str_strict_words (take k (encoding_output words names out)) w n) (from_str_strict_names (take k (encoding_output words names out)) w n) (shown Top t)
strict-back words names out w n t k h e l a b =
    let text : List ℕ = take k (encoding_output words names out) in
    let x = back words names out w n t k h e l a b in
    let same = calls-alike text w n (subst (λ (s : List ℕ). from_str_strict s ≡ from_str s) (sym (written-text words names out t h.sheet k e)) (reads-prints t h.sound-tree).alike) in
    (same.answers ∙ x.0, subst₂ (λ (y z : List ℕ). SheetOf y z (shown Top t)) (sym same.fills) (sym same.leaves) x.1)
