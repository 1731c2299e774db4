-- Laws of what is shown.
use Prim.Native.Nat.{ℕ, zero, suc, ◌+◌, ◌-◌, ◌*◌, ◌≤◌, ◌<◌}
use native.Mathlib.Nat.{add-zero, add_comm}
use native.Mathlib.Omega.{arith}
use native.Mathlib.Numerals.{add-one}
use mathlib.Core.Path.{◌≡◌, refl, ap, sym, ◌∙◌}
use mathlib.Core.Bool.{Bool, true, false, cond, ◌&&◌, ◌||◌}
use mathlib.Core.List.{List, [], ◌∷◌, ◌++◌}
use lib.Dec.{leb, eqb}
use lib.ListN.{take, drop, length, get_or}
use lib.Seq.{take-nil, sets}
use Rattle.std.specs.List.{count_by}
use Rattle.std.proofs.lemmas.List.Recursion.{is_count_by}
use borrow.Author.Tests.{le-leb, lt-leb, lt-ltb, le-ltb, eq-eqb, ne_eqb, eqb-false}
use Rattle.kinds.proofs.ListLaws.{unread-end}
use Rattle.kinds.specs.Byte.{bytes}
use Rattle.lines.specs.Answer.{until, decimals, is_decimals, decimals_answer}
use Rattle.std.specs.Prelude.{Option, Some, None}
use Rattle.lines.proofs.PutLaws.{sets-out}
use Rattle.kinds.specs.Print.{decimal}
use Rattle.show.specs.Answer.{count_of, shown_byte, times, holders, depth_of, line_of, count_text, kind_names, values_text, right_text, type_text, column_text, entry_text}
use Rattle.show.specs.Answer.{offset_text, padding_text}
use Rattle.show.specs.Answer.{is_number, limit_text}
use Rattle.show.specs.Answer.{byte_text, container_text, shown_text, shown_or_cut, mark_text, named_text, refused_by}
use Rattle.show.specs.Answer.{before, after, compound_names, kind_text, place_text, unit_text, value_text, difference_by, difference_text}

pub count_is : (b : ℕ) (s : List ℕ) → count_by (λ x. eqb x b) s ≡ count_of b s
unfolding count_of
count_is b s = sym (is_count_by (count_of b) (λ x. eqb x b) refl (λ x t. rw (add_comm 1 (count_of b t), add-one)) s)

pub dot-low : (b : ℕ) → b < 32 → 46 ∷ [] ≡ shown_byte b
unfolding shown_byte
dot-low b h = sym (rw (lt-leb 32 b h))

pub dot-high : (b : ℕ) → 32 ≤ b → 126 < b → 46 ∷ [] ≡ shown_byte b
unfolding shown_byte
dot-high b h k = sym (rw (le-leb 32 b h, lt-leb b 126 k))

pub shown-itself : (b : ℕ) → 32 ≤ b → b ≤ 126 → b ∷ [] ≡ shown_byte b
unfolding shown_byte
shown-itself b h k = sym (rw (le-leb 32 b h, le-leb b 126 k))

-- with one turn more done of `n`
one_done : (n k : ℕ) → k < n → n - k ≡ suc (n - (k + 1))
one_done n k h = omega arith

pub times_more : (n k : ℕ) (s : List ℕ) → k < n → times (n - k) s ≡ s ++ times (n - (k + 1)) s
unfolding times
times_more n k s h = ap (λ (m : ℕ). times m s) (one_done n k h)

pub times_none : (n : ℕ) (s : List ℕ) → n ≤ 0 → times n s ≡ []
unfolding times
times_none zero s h = refl
times_none (suc n) s h = absurd (omega arith)

pub line-more : (n k : ℕ) (s : List ℕ) → k < n → line_of (n - (k + 1)) (drop (until 10 s + 1) s) ≡ line_of (n - k) s
unfolding line_of
line-more n k s h = sym (ap (λ (m : ℕ). line_of m s) (one_done n k h))

pub line-here : (k : ℕ) (s : List ℕ) → k ≤ 0 → take (until 10 s) s ≡ line_of k s
unfolding line_of
line-here zero s h = refl
line-here (suc k) s h = absurd (omega arith)

-- The node `j` holds `i`, or does not.
pub holds : (words : List ℕ) (i j : ℕ) → i - j < get_or words (4 * j + 3) 0 → holders words i j + 1 ≡ holders words i (j + 1)
unfolding holders
holds words i j h = sym (ap (holders words i) (add-one j) ∙ rw (lt-ltb (i - j) (get_or words (4 * j + 3) 0) h))

pub holds_not : (words : List ℕ) (i j : ℕ) → get_or words (4 * j + 3) 0 ≤ i - j → holders words i j ≡ holders words i (j + 1)
unfolding holders
holds_not words i j h = sym (ap (holders words i) (add-one j) ∙ rw (le-ltb (i - j) (get_or words (4 * j + 3) 0) h) (add-zero (holders words i j)))

pub take_none : (n i : ℕ) (s : List ℕ) → length s < i → take 0 s ≡ take n (drop i s)
take_none n i s h = sym (ap (take n) (unread-end s i (omega arith)) ∙ take-nil n)

-- ---- The texts by cases.

pub count-one : (n : ℕ) (unit : List ℕ) → n ≡ 1 → decimal n ++ ((32 ∷ []) ++ unit) ≡ count_text n unit
unfolding count_text
count-one n unit h = sym (rw (eq-eqb n 1 h))

pub count-more : (n : ℕ) (unit : List ℕ) → (n ≡ 1 → ⊥) → decimal n ++ ((32 ∷ []) ++ (unit ++ (115 ∷ []))) ≡ count_text n unit
unfolding count_text
count-more n unit h = sym (rw (ne_eqb n 1 h))

module _ (names : List ℕ) (k m n : ℕ) where
  pub bits-values : k ≡ 24 → count_text n (98 ∷ 105 ∷ 116 ∷ []) ≡ values_text names k m n
  unfolding values_text
  bits-values e = sym (rw e)

  pub typed-values : k ≡ 25 → decimal m ++ ((32 ∷ 111 ∷ 102 ∷ 32 ∷ []) ++ count_text n (98 ∷ 105 ∷ 116 ∷ [])) ≡ values_text names k m n
  unfolding values_text
  typed-values e = sym (rw e)

  pub array-values : k ≡ 28 → decimal m ≡ values_text names k m n
  unfolding values_text
  array-values e = sym (rw e)

  pub name-values : 29 ≤ k → k ≤ 30 → take n (drop m names) ≡ values_text names k m n
  unfolding values_text
  name-values h j =
      let a : k ≡ 24 → ⊥ = λ e. absurd (omega (arith, e)) in
      let b : k ≡ 25 → ⊥ = λ e. absurd (omega (arith, e)) in
      let c : k ≡ 28 → ⊥ = λ e. absurd (omega (arith, e)) in
      sym (rw (ne_eqb k 24 a, ne_eqb k 25 b, ne_eqb k 28 c) (go (eqb k 29) refl))
    where
      go : (t : Bool) → eqb k 29 ≡ t → cond (t || eqb k 30) (take n (drop m names)) [] ≡ take n (drop m names)
      go true e = refl
      go false e = rw (eq-eqb k 30 (last e))
        where
          last : eqb k 29 ≡ false → k ≡ 30
          last q = let r = eqb-false k 29 q in omega (arith, r)

  pub no-values : (k ≡ 24 → ⊥) → (k ≡ 25 → ⊥) → (k ≡ 28 → ⊥) → (k ≡ 29 → ⊥) → (k ≡ 30 → ⊥) → [] ≡ values_text names k m n
  unfolding values_text
  no-values a b c d e = sym (rw (ne_eqb k 24 a, ne_eqb k 25 b, ne_eqb k 28 c, ne_eqb k 29 d, ne_eqb k 30 e))

pub right-short : (n widest d w : ℕ) → d ≡ length (decimal n) → w ≡ length (decimal widest) → times (w - d) (32 ∷ []) ++ decimal n ≡ right_text n widest
unfolding right_text
right-short n widest d w p q = rw (p, q)

pub right-wide : (n widest d w : ℕ) → d ≡ length (decimal n) → w ≡ length (decimal widest) → w ≤ d → decimal n ≡ right_text n widest
unfolding right_text
right-wide n widest d w p q h =
    let e : length (decimal widest) - length (decimal n) ≤ 0 = omega arith in
    sym (ap (λ (s : List ℕ). s ++ decimal n) (times_none (length (decimal widest) - length (decimal n)) (32 ∷ []) e))

pub type-is : (words names : List ℕ) (i d k m n : ℕ) → d ≡ depth_of words i → k ≡ get_or words (4 * i) 0 → m ≡ get_or words (4 * i + 1) 0 → n
    ≡ get_or words (4 * i + 2) 0 → times d (32 ∷ 32 ∷ []) ++ (line_of k kind_names ++ values_text names k m n) ≡ type_text words names i
unfolding type_text
type-is words names i d k m n p q r s = rw (p, q, r, s)

pub offset-shown : (field : Bool) (n : ℕ) → field ≡ true → column_text n 1000000000 ≡ offset_text field n
unfolding offset_text
offset-shown field n e = sym (rw e)

pub offset-none : (field : Bool) (n : ℕ) → field ≡ false → bytes "            " ≡ offset_text field n
unfolding offset_text
offset-none field n e = sym (rw e)

pub padding-is : (words : List ℕ) (i begin n d : ℕ) → d ≡ depth_of words i
    → bytes "    " ++ (column_text begin 1000000000 ++ (column_text n 1000000000 ++ (bytes "         " ++ (times d (32 ∷ 32 ∷ []) ++ bytes "padding"))))
    ≡ padding_text words i begin n
unfolding padding_text
padding-is words i begin n d p = rw p

pub entry-is : (text list piece : List ℕ) (k m n v : ℕ) → piece ≡ take n (drop m text)
    → m ≡ get_or list (3 * k) 0 → n ≡ get_or list (3 * k + 1) 0 → v ≡ get_or list (3 * k + 2) 0
    → right_text k 1000 ++ (column_text m 10000 ++ (column_text n 100000 ++ (column_text v 1000000000 ++ ((32 ∷ 32 ∷ []) ++ shown_text piece)))) ≡ entry_text text list k
unfolding entry_text
entry-is text list piece k m n v o p q r = rw (o, p, q, r)

-- ---- Sizes and the number of a row by cases.

pub limit-small : (row : ℕ) → row ≡ 2 → bytes "above 2^32 - 1 bytes" ≡ limit_text row
unfolding limit_text
limit-small row e = sym (rw (eq-eqb row 2 e))

pub limit-large : (row : ℕ) → (row ≡ 2 → ⊥) → bytes "above 2^64 - 1 bytes" ≡ limit_text row
unfolding limit_text
limit-large row e = sym (rw (ne_eqb row 2 e))

module _ (s : List ℕ) where
  pub number-none : length s ≡ 0 → false ≡ is_number s
  unfolding is_number
  number-none h = let k : length s ≤ 0 = omega arith in sym (rw (le-ltb 0 (length s) k))

  pub number-long : 20 < length s → false ≡ is_number s
  unfolding is_number
  number-long h = let k : 0 < length s = omega arith in sym (rw (lt-ltb 0 (length s) k, lt-leb (length s) 20 h))

  -- With 1 to 20 bytes the text is a number exactly if reading it into a list of one word is not refused.
  module _ (h : length s ≡ 0 → ⊥) (k : length s ≤ 20) where
    is_read : is_decimals 0 s && leb (length (decimals 0 s)) 1 ≡ is_number s
    unfolding is_number
    is_read = let j : 0 < length s = omega (arith, h) in sym (rw (lt-ltb 0 (length s) j, le-leb (length s) 20 k))

    pub number_read : (d : Option ℕ) (n : ℕ) → d ≡ Some n → d ≡ decimals_answer s 1 → true ≡ is_number s
    unfolding decimals_answer
    number_read d n e f = go (is_decimals 0 s && leb (length (decimals 0 s)) 1) (sym e ∙ f) ∙ is_read
      where
        go : (t : Bool) → Some n ≡ cond t (Some (length (decimals 0 s))) None → true ≡ t
        go true p = refl
        go false p = cc

    pub number-bad : (d : Option ℕ) → d ≡ None → d ≡ decimals_answer s 1 → false ≡ is_number s
    unfolding decimals_answer
    number-bad d e f = go (is_decimals 0 s && leb (length (decimals 0 s)) 1) (sym e ∙ f) ∙ is_read
      where
        go : (t : Bool) → None ≡ cond t (Some (length (decimals 0 s))) None → false ≡ t
        go true p = cc
        go false p = refl

-- ---- The texts of a refusal by cases.

pub byte-itself : (b : ℕ) → 32 < b → b < 127 → b ∷ [] ≡ byte_text b
unfolding byte_text
byte-itself b h k = sym (rw (lt-ltb 32 b h, lt-ltb b 127 k))

pub byte_low : (b : ℕ) → b ≤ 32 → (98 ∷ 121 ∷ 116 ∷ 101 ∷ 32 ∷ []) ++ decimal b ≡ byte_text b
unfolding byte_text
byte_low b h = sym (rw (le-ltb 32 b h))

pub byte_high : (b : ℕ) → 32 < b → 127 ≤ b → (98 ∷ 121 ∷ 116 ∷ 101 ∷ 32 ∷ []) ++ decimal b ≡ byte_text b
unfolding byte_text
byte_high b h k = sym (rw (lt-ltb 32 b h, le-ltb b 127 k))

pub container-union : (kind : ℕ) → kind ≡ 30 → (117 ∷ 110 ∷ 105 ∷ 111 ∷ 110 ∷ []) ≡ container_text kind
unfolding container_text
container-union kind e = sym (rw (eq-eqb kind 30 e))

pub container-struct : (kind : ℕ) → (kind ≡ 30 → ⊥) → (115 ∷ 116 ∷ 114 ∷ 117 ∷ 99 ∷ 116 ∷ []) ≡ container_text kind
unfolding container_text
container-struct kind e = sym (rw (ne_eqb kind 30 e))

pub text-whole : (text : List ℕ) → length text ≤ 2000 → shown_text text ≡ shown_or_cut text
unfolding shown_or_cut
text-whole text h = sym (rw (le-leb (length text) 2000 h))

pub text-cut : (text front : List ℕ) → front ≡ take 60 text → 2000 < length text → shown_text front ++ (46 ∷ 46 ∷ 46 ∷ []) ≡ shown_or_cut text
unfolding shown_or_cut
text-cut text front e h = rw e (sym (rw (lt-leb (length text) 2000 h)))

module _ (carried place : ℕ) where
  pub mark-none : carried ≡ 45 → [] ≡ mark_text carried place
  unfolding mark_text
  mark-none e = sym (rw (eq-eqb carried 45 e))

  pub mark-node : (carried ≡ 45 → ⊥) → carried ≡ 110 → [] ≡ mark_text carried place
  unfolding mark_text
  mark-node d e = sym (rw (ne_eqb carried 45 d, eq-eqb carried 110 e))

  pub mark-under : (carried ≡ 45 → ⊥) → (carried ≡ 110 → ⊥) → (10 ∷ []) ++ (times place (32 ∷ []) ++ (94 ∷ [])) ≡ mark_text carried place
  unfolding mark_text
  mark-under d e = sym (rw (ne_eqb carried 45 d, ne_eqb carried 110 e))

module _ (carried place b container : ℕ) where
  pub named-byte : carried ≡ 98 → byte_text b ≡ named_text carried place b container
  unfolding named_text
  named-byte e = sym (rw (eq-eqb carried 98 e))

  pub named-container : (carried ≡ 98 → ⊥) → carried ≡ 99 → container_text container ≡ named_text carried place b container
  unfolding named_text
  named-container d e = sym (rw (ne_eqb carried 98 d, eq-eqb carried 99 e))

  pub named-node : (carried ≡ 98 → ⊥) → (carried ≡ 99 → ⊥) → carried ≡ 110 → decimal place ≡ named_text carried place b container
  unfolding named_text
  named-node d e f = sym (rw (ne_eqb carried 98 d, ne_eqb carried 99 e, eq-eqb carried 110 f))

  pub named_none : (carried ≡ 98 → ⊥) → (carried ≡ 99 → ⊥) → (carried ≡ 110 → ⊥) → [] ≡ named_text carried place b container
  unfolding named_text
  named_none d e f = sym (rw (ne_eqb carried 98 d, ne_eqb carried 99 e, ne_eqb carried 110 f))

pub refused-is : (line text why reason : List ℕ) (carried : ℕ) → carried ≡ get_or line 0 0 → reason ≡ drop (until 32 line + 1) line → shown_or_cut text ++
    (mark_text carried (get_or why 1 0) ++ ((10 ∷ 114 ∷ 101 ∷ 102 ∷ 117 ∷ 115 ∷ 101 ∷ 100 ∷ 32 ∷ 40 ∷ []) ++
    (decimal (get_or why 0 0) ++ ((41 ∷ 58 ∷ 32 ∷ []) ++ (reason ++ named_text carried (get_or why 1 0) (get_or why 2 0) (get_or why 3 0))))))
    ≡ refused_by line text why
unfolding refused_by
refused-is line text why reason carried p q = rw (p, q)

-- ---- The sentence of a reason by cases.

-- The first of the numbers that are put into a list of one.
pub first-number : (s : List ℕ) → get_or (sets (0 ∷ []) 0 s) 0 0 ≡ get_or s 0 0
first-number [] = refl
first-number (x ∷ s) = ap (λ (l : List ℕ). get_or l 0 0) (sets-out (x ∷ []) 1 s (omega arith))

pub kind-primitive : (k : ℕ) → k < 24 → line_of k kind_names ≡ kind_text k
unfolding kind_text
kind-primitive k h = sym (rw (lt-ltb k 24 h))

pub kind-compound : (k : ℕ) → 24 ≤ k → line_of (k - 24) compound_names ≡ kind_text k
unfolding kind_text
kind-compound k h = sym (rw (le-ltb k 24 h))

pub place-whole : (path : List ℕ) → length path ≡ 0 → (116 ∷ 104 ∷ 101 ∷ 32 ∷ 119 ∷ 104 ∷ 111 ∷ 108 ∷ 101 ∷ 32 ∷ 116 ∷ 121 ∷ 112 ∷ 101 ∷ []) ≡ place_text path
unfolding place_text
place-whole path h = sym (rw (eq-eqb (length path) 0 h))

pub place-item : (path : List ℕ) → (length path ≡ 0 → ⊥) → (105 ∷ 116 ∷ 101 ∷ 109 ∷ 32 ∷ []) ++ path ≡ place_text path
unfolding place_text
place-item path h = sym (rw (ne_eqb (length path) 0 h))

pub unit_size : (b : ℕ) → b ≡ 115 → (32 ∷ 105 ∷ 110 ∷ 32 ∷ 98 ∷ 105 ∷ 116 ∷ 115 ∷ []) ≡ unit_text b
unfolding unit_text
unit_size b e = sym (rw (eq-eqb b 115 e))

pub unit-count : (b : ℕ) → (b ≡ 115 → ⊥) → b ≡ 99 → (32 ∷ 111 ∷ 102 ∷ 32 ∷ 102 ∷ 105 ∷ 101 ∷ 108 ∷ 100 ∷ 115 ∷ []) ≡ unit_text b
unfolding unit_text
unit-count b d e = sym (rw (ne_eqb b 115 d, eq-eqb b 99 e))

pub unit-none : (b : ℕ) → (b ≡ 115 → ⊥) → (b ≡ 99 → ⊥) → [] ≡ unit_text b
unfolding unit_text
unit-none b d e = sym (rw (ne_eqb b 115 d, ne_eqb b 99 e))

pub value-kind : (b k : ℕ) (v : List ℕ) → b ≡ 107 → k ≡ get_or (decimals 0 v) 0 0 → kind_text k ≡ value_text b v
unfolding value_text
value-kind b k v e p = ap kind_text p ∙ sym (rw (eq-eqb b 107 e))

pub value-itself : (b : ℕ) (v : List ℕ) → (b ≡ 107 → ⊥) → v ≡ value_text b v
unfolding value_text
value-itself b v e = sym (rw (ne_eqb b 107 e))

pub difference-by : (path word v w : List ℕ) (b : ℕ) → b ≡ get_or word 0 0 → (105 ∷ 110 ∷ 32 ∷ []) ++ (place_text path ++ ((58 ∷ 32 ∷ 116 ∷ 104 ∷ 101 ∷ 32 ∷ []) ++
    (word ++ (unit_text b ++ ((32 ∷ 105 ∷ 115 ∷ 32 ∷ []) ++ (value_text b v ++ ((32 ∷ 105 ∷ 110 ∷ 32 ∷ 116 ∷ 104 ∷ 101 ∷ 32 ∷ 102 ∷ 105 ∷ 114 ∷ 115 ∷ 116 ∷ 44 ∷ 32 ∷ []) ++
    (value_text b w ++ (32 ∷ 105 ∷ 110 ∷ 32 ∷ 116 ∷ 104 ∷ 101 ∷ 32 ∷ 115 ∷ 101 ∷ 99 ∷ 111 ∷ 110 ∷ 100 ∷ [])))))))))
    ≡ difference_by path word v w
unfolding difference_by
difference-by path word v w b e = rw e

pub difference-is : (reason path said word values one v other w : List ℕ) → path ≡ take (until 58 reason) reason → said ≡ drop (until 58 reason + 1) reason
    → word ≡ take (until 32 said) said → values ≡ drop (until 32 said + 1) said → one ≡ take (until 32 values) values → v ≡ drop (until 58 one + 1) one
    → other ≡ drop (until 32 values + 1) values → w ≡ drop (until 58 other + 1) other → difference_by path word v w ≡ difference_text reason
unfolding difference_text before after
difference-is reason path said word values one v other w p d q e f g h j = rw (p, q, g, j, f, h, e, d)
