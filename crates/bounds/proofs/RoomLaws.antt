-- When reading has room, and what a text of pointers gives.
use Prim.Native.Nat.{ℕ, zero, suc, ◌+◌, ◌≤◌, ◌<◌}
use native.Mathlib.Omega.{arith}
use mathlib.Core.Path.{◌≡◌, refl, ap, ◌∙◌}
use mathlib.Core.List.{List, []}
use Rattle.std.specs.Prelude.{Some}
use lib.ListN.{length, get_or, replicate, length-replicate}
use Rattle.kinds.specs.Byte.{byte, among}
use Rattle.kinds.specs.Parse as P
use Rattle.kinds.specs.Parse.{Parsed, empty, encoding, Whole, start, begin, held, parse_inner, parse, is_qualifier, qualifiers, strip_leading_qualifiers, encoding_or_none, parse_encoding_or_none, whole, from_str, from_start_of_str}
use Rattle.kinds.specs.Sheet.{max_text, words_used, header_for, sheet_of}
use Rattle.kinds.specs.Tree as T
use Rattle.kinds.specs.Tree.{Trees, end, node, pointer, count}
use Rattle.kinds.specs.declared.Refusal.TheVariants.{TextTooLong, ListTooShort}
use Rattle.parse.specs.Answer.{used, padded, filled, sheet_words, unless_away, words_after, whole_tree, whole_reading, turned_away, answer_or, from_str_answer, from_str_words}
use Rattle.std.specs.Prelude.{Result, Ok, Err}
use Rattle.kinds.specs.declared.Refusal.{Refusal}
use Rattle.parse.proofs.Entry.{too_long, not-away, few_words, few-names}
use Rattle.bounds.specs.Extremes.{pointers}
use Rattle.bounds.specs.Limits.{words_for, names_for}

-- Every reading is turned away alike, whatever it would answer (`a`).
module _ (text words names : List ℕ) (a : Result (Unit {0}) Refusal) where
  pub long-text : max_text < length text → answer_or (turned_away text words names) a ≡ Err TextTooLong
  unfolding answer_or
  long-text h = rw (too_long text words names h)

  pub enough-room : length text ≤ max_text → words_for (length text) ≤ length words → names_for (length text) ≤ length names → answer_or (turned_away text words names) a ≡ a
  unfolding answer_or
  enough-room l w n = rw (not-away text words names l (omega arith) n)

  pub short-words : length text ≤ max_text → length words < words_for (length text) → answer_or (turned_away text words names) a ≡ Err ListTooShort
  unfolding answer_or
  short-words l w = rw (few_words text words names l (omega arith))

  pub short-names : length text ≤ max_text → length names < names_for (length text) → answer_or (turned_away text words names) a ≡ Err ListTooShort
  unfolding answer_or
  short-names l n = rw (few-names text words names l n)

-- ---- A text of pointers.

-- As many pointers, each to the next, and the last to None.
pointers_to : ℕ → Trees
pointers_to zero = node T.none end end
pointers_to (suc n) = node pointer (pointers_to n) end

to-count : (n : ℕ) → count (pointers_to n) ≡ n + 1
unfolding pointers_to count
to-count zero = refl
to-count (suc n) = omega (arith, to-count n)

-- Such a text is read as that.
Read : ℕ → Parsed → Type 0
Read zero q = q ≡ empty
Read (suc n) q = q ≡ encoding pointer (pointers_to n) []

caret : start (byte "^") ≡ P.indirection pointer
unfolding start P.in_singles P.singles P.in_others P.others
caret = refl

hold : (n : ℕ) (q : Parsed) → Read n q → held pointer (replicate n (byte "^")) q ≡ encoding pointer (pointers_to n) []
unfolding Read held pointers_to
hold zero q e = ap (held pointer []) e
hold (suc n) q e = ap (held pointer (replicate (suc n) (byte "^"))) e

read-pointers : (f n : ℕ) → n ≤ f → Read n (parse_inner f (replicate n (byte "^")))
unfolding Read parse_inner begin
read-pointers zero zero h = refl
read-pointers zero (suc n) h = absurd (omega arith)
read-pointers (suc f) zero h = refl
read-pointers (suc f) (suc n) h = rw caret (hold n (parse_inner f (replicate n (byte "^"))) (read-pointers f n (omega arith)))

no-qualifiers : (n : ℕ) → strip_leading_qualifiers (replicate n (byte "^")) ≡ replicate n (byte "^")
unfolding strip_leading_qualifiers is_qualifier among qualifiers
no-qualifiers zero = refl
no-qualifiers (suc n) = refl

-- What whole-text reading makes of it.
record WholeIs (t : Trees) (q : Whole) : Type 0 where
  the-tree : whole_tree q ≡ Some t
  accepted : whole_reading q ≡ Ok tt

whole_of : (k n : ℕ) (q : Parsed) → Read n q → WholeIs (pointers_to n) (whole k (encoding_or_none q))
unfolding Read encoding_or_none whole whole_tree whole_reading pointers_to
whole_of k zero q e = rw e (record { the-tree = refl; accepted = refl })
whole_of k (suc n) q e = rw e (record { the-tree = refl; accepted = refl })

whole-pointers : (n : ℕ) → WholeIs (pointers_to n) (from_str (pointers n))
unfolding pointers from_str parse_encoding_or_none parse
whole-pointers n =
    let s = replicate n (byte "^") in
    rw (no-qualifiers n) (whole_of (length s) n (parse_inner (length s + length s) s) (read-pointers (length s + length s) n (omega (arith, length-replicate n (byte "^")))))

pub pointers-length : (n : ℕ) → length (pointers n) ≡ n
unfolding pointers
pointers-length n = length-replicate n (byte "^")

-- The header of a sheet that is written over the front of a list.
words-used : (k : ℕ) (t : Trees) (words : List ℕ) → get_or (filled k (sheet_words (Some t)) words) 3 0 ≡ words_used (count t)
unfolding filled padded sheet_words sheet_of header_for
words-used k t words = refl

pub pointers-fill : (n : ℕ) (words names : List ℕ) → n ≤ max_text → words_for n ≤ length words → names_for n ≤ length names
    → (length (pointers n) ≡ n) × (from_str_answer (pointers n) words names ≡ Ok tt) × (get_or (from_str_words (pointers n) words names) 3 0 ≡ words_for n)
unfolding from_str_answer from_str_words words_after unless_away
pointers-fill n words names l w h =
    let e = pointers-length n in
    let r = whole-pointers n in
    let room = not-away (pointers n) words names (omega arith) (omega arith) (omega arith) in (
      e,
      enough-room (pointers n) words names (whole_reading (from_str (pointers n))) (omega arith) (omega arith) (omega arith) ∙ r.accepted,
      rw (room, r.the-tree) (words-used (used (length (pointers n))) (pointers_to n) words ∙ omega (arith, to-count n)),
    )
