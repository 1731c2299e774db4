-- The promises of the readings, from the outcome that they share.
use Prim.Native.Nat.{ℕ, ◌-◌, ◌≤◌, ◌<◌}
use mathlib.Core.Path.{◌≡◌, refl, sym, ap, ◌∙◌}
use mathlib.Core.List.{List, [], ◌∷◌}
use mathlib.Core.Bool.{Bool, true, false}
use Rattle.std.specs.Prelude.{Option, Some, None}
use native.Mathlib.Nat.{sub_self}
use native.Mathlib.Omega.{arith}
use denote.Ref.{Bor}
use borrow.Rule.Slice.PartAt.{sl_partˢ}
use borrow.Rule.Slice.Shared.{by_byte}
use lib.ListN.{length, take, drop, length-drop}
use Rattle.kinds.specs.Parse as P
use Rattle.kinds.specs.Parse.{Encoded, encoded, whole, from_start, from_start_of_str, unknown_digit}
use Rattle.kinds.specs.Sheet.{sheet_of, names_of}
use Rattle.kinds.specs.Tree as T
use Rattle.kinds.specs.Tree.{Trees, end, node}
use Rattle.kinds.specs.declared.ErrorKind.{ErrorKind}
use Rattle.kinds.specs.declared.ErrorKind.TheVariants.{NotAllConsumed}
use Rattle.kinds.specs.declared.Refusal.{Refusal}
use Rattle.kinds.specs.declared.Refusal.TheVariants.{Parse}
use Rattle.parse.specs.Agree.{Lists, lists, TreeAt, NoTree, EncodedIs}
use Rattle.parse.specs.declared.NotRead.{NotRead}
use Rattle.parse.specs.declared.NotRead.TheVariants.{Away, Refused}
use Rattle.parse.specs.Answer.{used, turned_away, filled, sheet_words, sheet_names, unless_away, words_after, names_after, whole_tree, whole_reading, answer_or, answer_words, EndOf}
use Rattle.parse.specs.Answer.{start_tree, start_reading, start_rest, from_start_rest, from_start_answer, from_start_words, from_start_names}
use Rattle.parse.specs.Out.{cleared, none_sheet, refusal_of}
use Rattle.parse.specs.Strictly.{encoded_by, whole_by, whole_answer, whole_words, whole_names}
use Rattle.std.specs.Prelude.{Result, Ok, Err}
use Rattle.parse.proofs.StrictlyLaws.{ordinary-encoded, ordinary-whole, strict-whole}
use Rattle.parse.proofs.Entry.{emptied, beyond, mid-rest, none-stored}
use Rattle.parse.proofs.Cycle.{none-names}
use Rattle.kinds.proofs.ListLaws.{unread, unread-end}

-- ---- The lists.

module _ (text w ns : List ℕ) where
  pub words-kept : (why : Refusal) (t : Option Trees) → turned_away text w ns ≡ Some why → w ≡ words_after text w ns t
  unfolding words_after unless_away
  words-kept why t e = sym (ap (λ (o : Option Refusal). unless_away o w (filled (used (length text)) (sheet_words t) w)) e)

  pub names-kept : (why : Refusal) (t : Option Trees) → turned_away text w ns ≡ Some why → ns ≡ names_after text w ns t
  unfolding names_after unless_away
  names-kept why t e = sym (ap (λ (o : Option Refusal). unless_away o ns (filled (length text) (sheet_names t) ns)) e)

  pub words-read : (t : Option Trees) → turned_away text w ns ≡ None → filled (used (length text)) (sheet_words t) w ≡ words_after text w ns t
  unfolding words_after unless_away
  words-read t e = sym (ap (λ (o : Option Refusal). unless_away o w (filled (used (length text)) (sheet_words t) w)) e)

  pub names-read : (t : Option Trees) → turned_away text w ns ≡ None → filled (length text) (sheet_names t) ns ≡ names_after text w ns t
  unfolding names_after unless_away
  names-read t e = sym (ap (λ (o : Option Refusal). unless_away o ns (filled (length text) (sheet_names t) ns)) e)

-- The place of what is unread.
pub place : (text : List ℕ) (to : ℕ) → to ≤ length text → length text - length (drop to text) ≡ to
place text to h = omega (arith, length-drop to text)

-- ---- Whole-text reading.

abbrev pub Whole : (strict : Bool) (text w ns : List ℕ) (r : Result (Unit {0}) Refusal) (w' ns' : List ℕ) → Type 0
Whole strict text w ns r w' ns' = (r ≡ whole_answer strict text w ns) × ((w' ≡ whole_words strict text w ns) × (ns' ≡ whole_names strict text w ns))

whole-away : (strict : Bool) (text w ns w' ns' : List ℕ) (why : Refusal) → turned_away text w ns ≡ Some why → w' ≡ w → ns' ≡ ns
    → Whole strict text w ns (Err why) w' ns'
unfolding answer_or
whole-away strict text w ns w' ns' why e x y = (
  sym (ap (λ (o : Option Refusal). answer_or o (whole_reading (whole_by strict text))) e),
  (x ∙ words-kept text w ns why (whole_tree (whole_by strict text)) e, y ∙ names-kept text w ns why (whole_tree (whole_by strict text)) e),
)

-- What the definition gives, where refusals 1 and 2 do not turn the text away.
whole-read : (strict : Bool) (text w ns w' ns' : List ℕ) (q : P.Whole) → turned_away text w ns ≡ None → whole_by strict text ≡ q
    → w' ≡ filled (used (length text)) (sheet_words (whole_tree q)) w → ns' ≡ filled (length text) (sheet_names (whole_tree q)) ns
    → Whole strict text w ns (whole_reading q) w' ns'
unfolding answer_or
whole-read strict text w ns w' ns' q e f x y = (
  sym (ap (λ (o : Option Refusal). answer_or o (whole_reading (whole_by strict text))) e ∙ ap whole_reading f),
  (
    x ∙ words-read text w ns (whole_tree q) e ∙ ap (λ (z : P.Whole). words_after text w ns (whole_tree z)) (sym f),
    y ∙ names-read text w ns (whole_tree q) e ∙ ap (λ (z : P.Whole). names_after text w ns (whole_tree z)) (sym f),
  ),
)

whole_is : (strict : Bool) (text : List ℕ) → whole (length text) (encoded_by strict text) ≡ whole_by strict text
whole_is false text = ordinary-whole text
whole_is true text = strict-whole text

from-str-is : (strict : Bool) (text : List ℕ) (q : Encoded) → encoded_by strict text ≡ q → whole_by strict text ≡ whole (length text) q
from-str-is strict text q e = sym (whole_is strict text) ∙ ap (whole (length text)) e

whole-refused : (strict : Bool) (text w ns : List ℕ) (a : Lists) (why : ErrorKind) (to : ℕ) → NoTree strict text (lists w ns) a why to
    → Whole strict text w ns (Err (Parse why to)) a.words a.names
unfolding whole whole_reading whole_tree sheet_words sheet_names
whole-refused strict text w ns a why to r =
    whole-read strict text w ns a.words a.names (P.refusal why to) r.away
    (from-str-is strict text _ r.is ∙ ap (P.refusal why) (place text to r.within))
    r.words_are r.names-are

pub whole-not-read : (strict : Bool) (text w ns : List ℕ) (a : Lists) (e : NotRead) → EncodedIs strict text (lists w ns) a (Err e)
    → Whole strict text w ns (Err (refusal_of e)) a.words a.names
whole-not-read strict text w ns a (Away why) r = whole-away strict text w ns a.words a.names why r.0 r.1.words-kept r.1.names-kept
whole-not-read strict text w ns a (Refused e) r = whole-refused strict text w ns a e.«kind» e.«split_point» r

-- Bytes remain: the lists are cleared again.
pub whole-rest : (strict : Bool) (text w ns : List ℕ) (a : Lists) (to : ℕ) (w' ns' : List ℕ) → TreeAt strict text (lists w ns) a to → to < length text
    → w' ≡ cleared (used (length text)) a.words → ns' ≡ cleared (length text) a.names → Whole strict text w ns (Err (Parse NotAllConsumed to)) w' ns'
unfolding whole whole_reading whole_tree sheet_words sheet_names
whole-rest strict text w ns a to w' ns' r h x y =
    let t : Trees = node r.label r.children end in
    whole-read strict text w ns w' ns' (P.refusal NotAllConsumed to) r.away
    (from-str-is strict text _ r.is
    ∙ ap (λ (s : List ℕ). whole (length text) (encoded r.label r.children s)) (unread text to h)
    ∙ ap (λ (s : List ℕ). P.refusal NotAllConsumed (length text - length s)) (sym (unread text to h))
    ∙ ap (P.refusal NotAllConsumed) (place text to r.within))
    (x ∙ emptied (used (length text)) w a.words (ap (drop (used (length text))) r.words_are ∙ beyond (used (length text)) w (sheet_of t) r.words-fit))
    (y ∙ emptied (length text) ns a.names (ap (drop (length text)) r.names-are ∙ beyond (length text) ns (names_of t) r.names-fit))

pub whole-tree : (strict : Bool) (text w ns : List ℕ) (a : Lists) (to : ℕ) → TreeAt strict text (lists w ns) a to → length text ≤ to
    → Whole strict text w ns (Ok tt) a.words a.names
unfolding whole whole_reading whole_tree sheet_words sheet_names
whole-tree strict text w ns a to r h =
    whole-read strict text w ns a.words a.names (P.tree r.label r.children) r.away
    (from-str-is strict text _ r.is ∙ ap (λ (s : List ℕ). whole (length text) (encoded r.label r.children s)) (unread-end text to h))
    r.words_are r.names-are

-- ---- Reading from the start.

-- The caller's text from a place on.
pub end-part : (text : Bor (List ℕ)) (to : ℕ) → to ≤ length text.now → EndOf text (sl_partˢ text (by_byte to text.ref_ptr.1) to (length text.now))
end-part text to h =
    let e : take (length text.now - to) (drop to text.now) ≡ drop to text.now = mid-rest to text.now in
    let l : length text.now - length (take (length text.now - to) (drop to text.now)) ≡ to = omega (arith, ap length e, length-drop to text.now) in
    record {
      same_block = refl;
      further-on = omega arith;
      same_bytes = e ∙ ap (λ (k : ℕ). drop k text.now) (sym l);
    }

pub end_whole : (text : Bor (List ℕ)) → EndOf text text
end_whole text = record {
  same_block = refl;
  further-on = omega arith;
  same_bytes = sym (ap (λ (k : ℕ). drop k text.now) (sub_self (length text.now)));
}

abbrev pub Start : (text w ns : List ℕ) (rest answer w' ns' : List ℕ) → Type 0
Start text w ns rest answer w' ns' =
    (rest ≡ from_start_rest text w ns) × ((answer ≡ answer_words (from_start_answer text w ns)) ×
    ((w' ≡ from_start_words text w ns) × (ns' ≡ from_start_names text w ns)))

pub start-away : (text w ns answer w' ns' : List ℕ) (why : Refusal) → turned_away text w ns ≡ Some why → w' ≡ w → ns' ≡ ns → answer ≡ answer_words (Err why)
    → Start text w ns text answer w' ns'
unfolding from_start_rest from_start_answer from_start_words from_start_names answer_or unless_away
start-away text w ns answer w' ns' why e x y z = (
  sym (ap (λ (o : Option Refusal). unless_away o text (start_rest text (from_start_of_str text))) e),
  (
    z ∙ sym (ap (λ (o : Option Refusal). answer_words (answer_or o (start_reading (from_start_of_str text)))) e),
    (x ∙ words-kept text w ns why (start_tree (from_start_of_str text)) e, y ∙ names-kept text w ns why (start_tree (from_start_of_str text)) e),
  ),
)

-- What the definition gives, where refusals 1 and 2 do not turn the text away.
start-read : (text w ns answer w' ns' : List ℕ) (q : P.FromStart) → turned_away text w ns ≡ None → from_start_of_str text ≡ q → answer
    ≡ answer_words (start_reading q)
    → w' ≡ filled (used (length text)) (sheet_words (start_tree q)) w → ns' ≡ filled (length text) (sheet_names (start_tree q)) ns
    → Start text w ns (start_rest text q) answer w' ns'
unfolding from_start_rest from_start_answer from_start_words from_start_names answer_or unless_away
start-read text w ns answer w' ns' q e f z x y = (
  sym (ap (λ (o : Option Refusal). unless_away o text (start_rest text (from_start_of_str text))) e ∙ ap (start_rest text) f),
  (
    z ∙ sym (ap (λ (o : Option Refusal). answer_words (answer_or o (start_reading (from_start_of_str text)))) e
        ∙ ap (λ (v : P.FromStart). answer_words (start_reading v)) f),
    (
      x ∙ words-read text w ns (start_tree q) e ∙ ap (λ (v : P.FromStart). words_after text w ns (start_tree v)) (sym f),
      y ∙ names-read text w ns (start_tree q) e ∙ ap (λ (v : P.FromStart). names_after text w ns (start_tree v)) (sym f),
    ),
  ),
)

from-start-is : (text : List ℕ) (q : Encoded) → encoded_by false text ≡ q → from_start_of_str text ≡ from_start (length text) q
unfolding from_start_of_str
from-start-is text q e = ap (from_start (length text)) (sym (ordinary-encoded text) ∙ e)

-- The rest after a tree, as the part that is handed back.
rest-is : (text w ns answer w' ns' : List ℕ) (to : ℕ) → Start text w ns (drop to text) answer w' ns'
    → Start text w ns (take (length text - to) (drop to text)) answer w' ns'
rest-is text w ns answer w' ns' to s = (mid-rest to text ∙ s.0, s.1)

pub start-tree : (text w ns : List ℕ) (a : Lists) (to : ℕ) → TreeAt false text (lists w ns) a to
    → Start text w ns (take (length text - to) (drop to text)) (0 ∷ 0 ∷ 0 ∷ 0 ∷ []) a.words a.names
unfolding from_start start_reading start_tree start_rest sheet_words sheet_names
start-tree text w ns a to r =
    rest-is text w ns _ _ _ to
    (start-read text w ns _ a.words a.names (P.tree_then r.label r.children (drop to text)) r.away (from-start-is text _ r.is) refl
    r.words_are r.names-are)

-- A digit where a type should begin.
pub start-digit : (text w ns : List ℕ) (a : Lists) (why : ErrorKind) (to : ℕ) (w' : List ℕ) → NoTree false text (lists w ns) a why to → unknown_digit why ≡ true
    → w' ≡ none_sheet a.words
    → Start text w ns (take (length text - to) (drop to text)) (0 ∷ 0 ∷ 0 ∷ 0 ∷ []) w' a.names
unfolding from_start start_reading start_tree start_rest sheet_words sheet_names
start-digit text w ns a why to w' r d x =
    rest-is text w ns _ _ _ to
    (start-read text w ns _ w' a.names (P.tree_then T.none end (drop to text)) r.away (from-start-is text _ r.is ∙ rw (d, from_start) refl) refl
    (x ∙ ap none_sheet r.words_are ∙ none-stored (used (length text)) w (omega arith) r.words-room)
    (r.names-are ∙ sym (ap (λ (v : List ℕ). filled (length text) v ns) none-names)))

pub start-refused : (text w ns answer : List ℕ) (a : Lists) (why : ErrorKind) (to : ℕ) → NoTree false text (lists w ns) a why to → unknown_digit why ≡ false
    → answer ≡ answer_words (Err (Parse why to))
    → Start text w ns text answer a.words a.names
unfolding from_start start_reading start_tree start_rest sheet_words sheet_names
start-refused text w ns answer a why to r d z =
    start-read text w ns answer a.words a.names (P.refusal why to) r.away
    (from-start-is text _ r.is ∙ (rw (d, from_start) refl) ∙ ap (P.refusal why) (place text to r.within)) z
    r.words_are r.names-are

-- A refusal leaves the rest equal to the text.
pub refused-rest : (text w ns : List ℕ) (why : Refusal) → from_start_answer text w ns ≡ Err why → from_start_rest text w ns ≡ text
unfolding from_start_answer from_start_rest answer_or unless_away start_reading start_rest
refused-rest text w ns why = go (turned_away text w ns) (from_start_of_str text)
  where
    go : (o : Option Refusal) (q : P.FromStart) → answer_or o (start_reading q) ≡ Err why → unless_away o text (start_rest text q) ≡ text
    go (Some r) q e = refl
    go None (P.tree_then l cs t) e = cc
    go None (P.FromStart.refusal x at) e = refl
