-- What reading leaves in the lent lists, from the tree that was read.
use Prim.Native.Nat.{ℕ, ◌+◌, ◌-◌, ◌≤◌}
use native.Mathlib.Omega.{arith}
use mathlib.Core.Bool.{Bool, true, false, cond, false≢true}
use mathlib.Core.List.{List, ◌++◌, append_assoc}
use Rattle.std.specs.Prelude.{Option, Some, None, Result}
use mathlib.Core.Path.{◌≡◌, refl, sym, ap, ◌∙◌}
use borrow.Author.Tests.{ltb-false, le-ltb, le-leb, leb-true}
use lib.Dec.{leb, ltb}
use lib.ListN.{length, take, drop, replicate}
use lib.Seq.{take-append_seam, drop-append_seam}
use Rattle.kinds.specs.Parse as P
use Rattle.kinds.specs.Parse.{Whole, tree, from_str, FromStart, tree_then, from_start_of_str}
use Rattle.kinds.specs.Sheet.{Holds, words_used, max_text, sheet_of, names_of}
use Rattle.kinds.specs.Print.{print}
use Rattle.agreement.specs.Sound.{sound}
use Rattle.kinds.specs.Tree.{Label, Trees, end, node, count, is_end, is_one, shown}
use Rattle.kinds.specs.declared.NestingLevel.TheVariants.{Top}
use Rattle.kinds.specs.declared.Refusal.{Refusal}
use Rattle.kinds.specs.declared.Refusal.TheVariants.{TextTooLong, ListTooShort, OutputTooShort}
use Rattle.kinds.proofs.HoldsLaws.{sheet-length}
use Rattle.kinds.proofs.TableLaws.{both}
use Rattle.parse.specs.Answer.{has_room, turned_away, padded, filled, used, sheet_words, sheet_names, unless_away, words_after, names_after}
use Rattle.parse.specs.Answer.{whole_tree, whole_reading, answer_or, from_str_answer, from_str_words, from_str_names, start_tree, start_reading, from_start_answer, from_start_words, from_start_names}
use Rattle.std.specs.Prelude.{Ok, Err}
use Rattle.static_str.specs.Answer.{fitted, placed, encoding_array, encoding_output}
use Rattle.bounds.proofs.HeldLaws.{holds-held}
use Rattle.agreement.specs.Readable.{Readable}
use Rattle.agreement.specs.ReadTree.{trees, read_tree}
use Rattle.agreement.proofs.Agreement.{reads-readable, starts-readable, reads-back}
use Rattle.sheet_agreement.specs.Sheets.{SheetOf, SoundSheet}
use Rattle.sheet_agreement.proofs.AnswerLaws.{print-answer, print-output}

-- ---- A list whose front is filled.

front : (n k : ℕ) (xs list : List ℕ) → length xs ≡ k → filled n xs list ≡ xs ++ drop k (filled n xs list)
unfolding filled padded
front n k xs list e =
    let z : List ℕ = replicate (n - length xs) 0 in
    let d = drop n list in
    append_assoc xs z d ∙ ap (λ (y : List ℕ). xs ++ y) (sym (drop-append_seam xs (z ++ d)) ∙ ap (drop (length xs)) (sym (append_assoc xs z d)) ∙ ap (λ (i : ℕ). drop i ((xs ++ z) ++ d)) e)

short-text : (text words names : List ℕ) → turned_away text words names ≡ None → length text ≤ max_text
unfolding turned_away
short-text text words names = go (ltb max_text (length text)) refl
  where
    go : (x : Bool) → ltb max_text (length text) ≡ x → cond x (Some TextTooLong) (cond (has_room text words names) None (Some ListTooShort)) ≡ None → length text ≤ max_text
    go true e h = let z : ◌≡◌ {A = ℕ} 0 1 = cc in absurd (omega arith)
    go false e h = ltb-false max_text (length text) e

-- ---- A tree that was read stands in the lists.

module _ (text words names : List ℕ) (t : Trees) (r : Readable (length text) t) (e : turned_away text words names ≡ None) where
  words-after : words_after text words names (Some t) ≡ filled (used (length text)) (sheet_of t) words
  unfolding words_after unless_away sheet_words
  words-after = rw e

  names-after : names_after text words names (Some t) ≡ filled (length text) (names_of t) names
  unfolding names_after unless_away sheet_names
  names-after = rw e

  left-holds : Holds (words_after text words names (Some t)) (names_after text words names (Some t)) t
  left-holds =
      let l = short-text text words names e in
      record {
        one = r.one;
        valid-tree = r.valid-tree;
        few-nodes = omega (arith, r.few-nodes);
        few-names = omega (arith, r.few-names);
        words_are = rw words-after (front (used (length text)) (words_used (count t)) (sheet_of t) words (sheet-length t));
        names-are = rw names-after (front (length text) (length (names_of t)) (names_of t) names refl);
      }

  left : SheetOf (words_after text words names (Some t)) (names_after text words names (Some t)) t
  left = record { holds = holds-held (words_after text words names (Some t)) (names_after text words names (Some t)) t left-holds r.good-names }

-- ---- Accepted readings.

module _ (text words names : List ℕ) where
  -- The lists after a tree was read.
  unfoldable pub Left : Option Trees → Type 0
  Left o = (t : Trees) × (o ≡ Some t) × SheetOf (words_after text words names o) (names_after text words names o) t

  pub whole-left : (q : Whole) → ((l : Label) (cs : Trees) → q ≡ tree l cs → Readable (length text) (node l cs end)) → (a : Option Refusal)
      → turned_away text words names ≡ a → answer_or a (whole_reading q) ≡ Ok tt → Left (whole_tree q)
  unfolding Left answer_or whole_reading whole_tree
  whole-left q r (Some why) e h = let z : ◌≡◌ {A = ℕ} 0 1 = cc in absurd (omega arith)
  whole-left (tree l cs) r None e h = (node l cs end, refl, left text words names (node l cs end) (r l cs refl) e)
  whole-left (P.Whole.refusal x at) r None e h = let z : ◌≡◌ {A = ℕ} 0 1 = cc in absurd (omega arith)

  pub whole-leaves : from_str_answer text words names ≡ Ok tt → (t : Trees) × (whole_tree (from_str text) ≡ Some t) × SheetOf (from_str_words text words names) (from_str_names text words names) t
  unfolding from_str_answer from_str_words from_str_names Left
  whole-leaves = whole-left (from_str text) (reads-readable text) (turned_away text words names) refl

  start_left : (q : FromStart) → ((l : Label) (cs : Trees) (s : List ℕ) → q ≡ tree_then l cs s → Readable (length text) (node l cs end)) → (a : Option Refusal)
      → turned_away text words names ≡ a → answer_or a (start_reading q) ≡ Ok tt → Left (start_tree q)
  unfolding Left answer_or start_reading start_tree
  start_left q r (Some why) e h = let z : ◌≡◌ {A = ℕ} 0 1 = cc in absurd (omega arith)
  start_left (tree_then l cs s) r None e h = (node l cs end, refl, left text words names (node l cs end) (r l cs s refl) e)
  start_left (P.FromStart.refusal x at) r None e h = let z : ◌≡◌ {A = ℕ} 0 1 = cc in absurd (omega arith)

  pub start-leaves : from_start_answer text words names ≡ Ok tt → (t : Trees) × (start_tree (from_start_of_str text) ≡ Some t) × SheetOf (from_start_words text words names) (from_start_names text words names) t
  unfolding from_start_answer from_start_words from_start_names Left
  start-leaves = start_left (from_start_of_str text) (starts-readable text) (turned_away text words names) refl

-- ---- A print read back.

same_some : {a b : Trees} → Some a ≡ Some b → a ≡ b
same_some e = cc

module _ (text w n : List ℕ) (l : length text ≤ max_text) (a : used (length text) ≤ length w) (b : length text ≤ length n) where
  answered : whole_reading (from_str text) ≡ Ok tt → from_str_answer text w n ≡ Ok tt
  unfolding from_str_answer answer_or turned_away has_room
  answered h = rw (le-ltb max_text (length text) l, le-leb (used (length text)) (length w) a, le-leb (length text) (length n) b) h

shown-one : (t : Trees) → is_one t ≡ true → is_one (shown Top t) ≡ true
unfolding is_one is_end shown
shown-one end h = h
shown-one (node l cs end) h = refl
shown-one (node l cs (node m ds us)) h = h

-- The text of a sound sheet is read as its shown part.
text-read : (t : Trees) → sound t ≡ true → (whole_tree (from_str (print Top t)) ≡ Some (shown Top t)) × (whole_reading (from_str (print Top t)) ≡ Ok tt)
unfolding sound read_tree trees is_one whole_tree whole_reading
text-read t h = go (from_str (print Top t)) (reads-back t h) (shown-one t (both (is_one t) _ h).0)
  where
    go : (q : Whole) → trees q ≡ shown Top t → is_one (shown Top t) ≡ true → (whole_tree q ≡ Some (shown Top t)) × (whole_reading q ≡ Ok tt)
    go (tree l cs) e o = (ap Some e, refl)
    go (P.Whole.refusal x at) e o = absurd (false≢true (ap is_one e ∙ o))

bytes-are : {a b : ℕ} → ◌≡◌ {A = Result ℕ Refusal} (Ok a) (Ok b) → a ≡ b
bytes-are e = cc

not-bytes : {b : ℕ} → ◌≡◌ {A = Result ℕ Refusal} (Err OutputTooShort) (Ok b) → ⊥
not-bytes e = let z : ◌≡◌ {A = ℕ} 0 1 = cc in omega arith

-- What printing wrote is the text of the tree.
module _ (words names out : List ℕ) (t : Trees) (h : SheetOf words names t) (k : ℕ) where
  written-fits : encoding_array words names (length out) ≡ Ok k → (length (print Top t) ≡ k) × (k ≤ length out)
  unfolding fitted
  written-fits e = go (leb (length (print Top t)) (length out)) refl (sym (print-answer h (length out)) ∙ e)
    where
      go : (x : Bool) → leb (length (print Top t)) (length out) ≡ x
          → cond (leb (length (print Top t)) (length out)) (Ok (length (print Top t))) (Err OutputTooShort) ≡ Ok k → (length (print Top t) ≡ k) × (k ≤ length out)
      go true q g = let z : length (print Top t) ≡ k = bytes-are (rw q at g) in (z, omega (arith, leb-true (length (print Top t)) (length out) q))
      go false q g = absurd (not-bytes (rw q at g))

  pub written-text : encoding_array words names (length out) ≡ Ok k → take k (encoding_output words names out) ≡ print Top t
  unfolding placed
  written-text e =
      let f = written-fits e in
      let s = print Top t in
      let o : encoding_output words names out ≡ s ++ drop (length s) out = print-output h out ∙ rw (le-leb (length s) (length out) (omega arith)) in
      rw (o, ← f.0) (take-append_seam s (drop (length s) out))

pub back : (words names out w n : List ℕ) (t : Trees) (k : ℕ) → SoundSheet words names t → encoding_array words names (length out) ≡ Ok k → k ≤ max_text → used k ≤ length w → k ≤ length n
    → (from_str_answer (take k (encoding_output words names out)) w n ≡ Ok tt)
    × SheetOf (from_str_words (take k (encoding_output words names out)) w n) (from_str_names (take k (encoding_output words names out)) w n) (shown Top t)
back words names out w n t k h e l a b =
    let q = written-text words names out t h.sheet k e in
    let c = (written-fits words names out t h.sheet k e).0 in
    rw q (of-text (print Top t) (omega arith) (omega arith) (omega arith) (text-read t h.sound-tree))
  where
    of-text : (text : List ℕ) → length text ≤ max_text → used (length text) ≤ length w → length text ≤ length n
        → (whole_tree (from_str text) ≡ Some (shown Top t)) × (whole_reading (from_str text) ≡ Ok tt)
        → (from_str_answer text w n ≡ Ok tt) × SheetOf (from_str_words text w n) (from_str_names text w n) (shown Top t)
    of-text text i j m r =
        let x = whole-leaves text w n (answered text w n i j m r.1) in
        let d : x.0 ≡ shown Top t = same_some (sym x.1 ∙ r.0) in
        (answered text w n i j m r.1, rw d at x.2)
