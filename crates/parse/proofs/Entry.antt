-- The whole text: from what reading at a place gives to what the lists hold and what is answered.
use Rattle.parse.specs.declared.Parsed.TheVariants.{Empty, Encoding, ContainerEnd, ArrayEnd}
use Rattle.parse.specs.declared.Parsed.{Parsed}
use Rattle.parse.specs.declared.NotRead.{NotRead}
use Prim.Native.Nat.{ℕ, zero, suc, ◌+◌, ◌*◌, ◌-◌, ◌≤◌, ◌<◌}
use mathlib.Core.Path.{◌≡◌, refl, sym, ap, ap₂, ◌∙◌, subst, subst₂}
use mathlib.Core.List.{List, [], ◌∷◌, ◌++◌, append_assoc, append-nil}
use mathlib.Core.Bool.{Bool, true, false, ◌||◌, and-false, false≢true}
use Rattle.std.specs.Prelude.{Some, None}
use native.Mathlib.Nat.{sub-zero, zero-add}
use native.Mathlib.Omega.{arith}
use lib.ListN.{length, take, drop, get_or, set, replicate, length-drop, length-append, length-replicate, take-append-drop}
use lib.Seq.{sets, sets-eq, drop-append-le, drop-append-add, drop-drop, drop_at, take_all, length-take-le}
use lib.Dec.{eqb, leb}
use borrow.Author.Tests.{eqb-true, lt-ltb, le-ltb, le-leb, lt-leb}
use borrow.Rule.Slice.PartMut.{put_mid, mid_of, same_len_mid}
use Rattle.kinds.specs.Container.{end_byte}
use Rattle.kinds.specs.Parse as R
use Rattle.kinds.specs.Byte.{among}
use Rattle.kinds.specs.Parse.{start, is_qualifier, encoding_or_none, strip_leading_qualifiers, encoded, not_encoded}
use Rattle.kinds.specs.Sheet.{nodes, names_of, header_for, sheet_of, header_words, words_used, max_text}
use Rattle.kinds.specs.Tree as T
use Rattle.kinds.specs.Tree.{Trees, end, node, count}
use Rattle.kinds.specs.declared.ErrorKind.{ErrorKind}
use Rattle.kinds.specs.declared.ErrorKind.TheVariants.{Unknown}
use Rattle.kinds.specs.declared.Refusal.TheVariants.{TextTooLong, ListTooShort}
use Rattle.parse.specs.Agree.{Lists, lists, Reads, Ready, Frame, FoundBound, Bound, TreeAt, NoTree, EncodedIs}
use Rattle.parse.specs.Answer.{used, has_room, turned_away, padded, filled}
use Rattle.parse.specs.Out.{node_put, cleared, headed, none_sheet, code_sheet, Fits, encoded_out, encoded_words, encoded_names}
use Rattle.parse.specs.Strictly.{parse_inner_by, encoded_by}
use Rattle.std.specs.Prelude.{Result, Ok, Err}
use Rattle.kinds.specs.declared.ParseError.{ParseError}
use Rattle.kinds.specs.Refusal.{parse_error}
use Rattle.parse.proofs.Cycle.{reads-simple, kept_frame, count-alone, none-nodes, none-count, none-names}
use Rattle.kinds.proofs.HoldsLaws.{sheet-length}
use Rattle.kinds.proofs.SheetLaws.{header-length}
use Rattle.kinds.proofs.ListLaws.{unread-end}
use Rattle.parse.proofs.Sheets.{slack-le, simple-code}
use Rattle.kinds.proofs.StoreLaws.{sets-append, sets-front-append, sets-part}
use Rattle.parser.proofs.TextLaws.{strip-stop}
use Rattle.parse.proofs.Text.{cleared-length}

-- ---- A list lent from a place on.

pub mid-rest : (a : ℕ) (w : List ℕ) → mid_of a (length w - a) w ≡ drop a w
mid-rest a w = take_all (length w - a) (drop a w) (omega (arith, length-drop a w))

pub put_rest : (a : ℕ) (w ys : List ℕ) → put_mid a (length w - a) w ys ≡ take a w ++ ys
put_rest a w ys = ap (λ (t : List ℕ). take a w ++ t) (ap (λ (t : List ℕ). ys ++ t) (unread-end (drop a w) (length w - a) (omega (arith, length-drop a w)))
    ∙ append-nil ys)

-- A run stored in a list that was lent from the first node on.
pub put-in-rest : (w a : List ℕ) (i : ℕ) (v : List ℕ) → header_words ≤ length w → a ≡ sets (mid_of header_words (length w - header_words) w) i v
    → put_mid header_words (length w - header_words) w a ≡ sets w (header_words + i) v
put-in-rest w a i v h e =
    put_rest header_words w a
    ∙ ap (λ (x : List ℕ). take header_words w ++ x) (e ∙ ap (λ (x : List ℕ). sets x i v) (mid-rest header_words w))
    ∙ sets-part header_words w i v h

-- The header stored before what stands from the first node on.
header-front : (w : List ℕ) (k l : ℕ) (v : List ℕ) → sets (sets w header_words v) 0 (header_for k l) ≡ sets w 0 (header_for k l ++ v)
header-front w k l v = sets-front-append w 0 header_words (header_for k l) v (omega (arith, header-length k l))

-- None's node stored after the header, and the header before it.
pub none-put : (w a r : List ℕ) → header_words ≤ length w → a ≡ node_put (mid_of header_words (length w - header_words) w) 0 31 0 0 1 → r
    ≡ headed 1 0 (put_mid header_words (length w - header_words) w a) → r ≡ none_sheet w
none-put w a r h e f =
    let v : List ℕ = 31 ∷ 0 ∷ 0 ∷ 1 ∷ [] in
    f
    ∙ ap (headed 1 0) (put-in-rest w a 0 v h e)
    ∙ header-front w 1 0 v

-- ---- Lists of zeros.

abbrev zeros : ℕ → List ℕ
zeros n = replicate n 0

drop-zeros : (n k : ℕ) → k ≤ n → drop k (zeros n) ≡ zeros (n - k)
drop-zeros n zero h = ap zeros (sym (sub-zero n))
drop-zeros zero (suc k) h = absurd (omega arith)
drop-zeros (suc n) (suc k) h =
    let e : n - k ≡ suc n - suc k = omega arith in
    drop-zeros n k (omega arith) ∙ ap zeros e

drop-cleared : (n : ℕ) (w : List ℕ) → drop n (cleared n w) ≡ drop n w
drop-cleared n w = drop_at (zeros n) (drop n w) n (length-replicate n 0)

-- A run stored at the front of zeros.
pub stored-front : (n : ℕ) (w v : List ℕ) → length v ≤ n → n ≤ length w → sets (cleared n w) 0 v ≡ filled n v w
unfolding padded filled
stored-front n w v h l =
    let z : List ℕ = zeros n in
    let zl : length z ≡ n = length-replicate n 0 in
    let cl : length (cleared n w) ≡ length w = cleared-length n w l in
    sets-eq v (cleared n w) 0 (omega arith)
    ∙ ap (λ (k : ℕ). v ++ drop k (cleared n w)) (zero-add (length v))
    ∙ ap (λ (t : List ℕ). v ++ t) (drop-append-le (length v) z (drop n w) (omega arith) ∙ ap (λ (t : List ℕ). t ++ drop n w) (drop-zeros n (length v) h))
    ∙ sym (append_assoc v (zeros (n - length v)) (drop n w))

-- A run and the zeros after it stored together.
stored-padded : (n : ℕ) (w v : List ℕ) → length v ≤ n → n ≤ length w → sets w 0 (padded n v) ≡ filled n v w
unfolding padded filled
stored-padded n w v h l =
    let z : List ℕ = zeros (n - length v) in
    let zl : length z ≡ n - length v = length-replicate (n - length v) 0 in
    let e : length (v ++ z) ≡ n = length-append v z ∙ omega arith in
    sets-eq (v ++ z) w 0 (omega arith) ∙ ap (λ (k : ℕ). (v ++ z) ++ drop k w) (zero-add (length (v ++ z)) ∙ e)

-- A primitive's node and four zeros stored after the header, and the header before them.
pub code_put : (p : ℕ) (w a b y : List ℕ) → used 1 ≤ length w → a ≡ node_put (mid_of header_words (length w - header_words) w) 0 p 0 0 1
    → let x : List ℕ = put_mid header_words (length w - header_words) w a in length x ≡ length w
    → b ≡ node_put (mid_of header_words (length x - header_words) x) 1 0 0 0 0 → y ≡ headed 1 0 (put_mid header_words (length x - header_words) x b) → y
    ≡ code_sheet p w
unfolding padded
code_put p w a b y h e l f g =
    let x : List ℕ = put_mid header_words (length w - header_words) w a in
    let v : List ℕ = p ∷ 0 ∷ 0 ∷ 1 ∷ [] in
    let z : List ℕ = 0 ∷ 0 ∷ 0 ∷ 0 ∷ [] in
    let hd : List ℕ = header_for 1 0 in
    let hl : length hd ≡ header_words = header-length 1 0 in
    let vl : length (hd ++ v) ≡ length hd + length v = length-append hd v in
    let four : 4 ≡ used 1 - length (hd ++ v) = omega arith in
    g
    ∙ ap (headed 1 0) (put-in-rest x b 4 z (omega arith) f ∙ ap (λ (t : List ℕ). sets t (header_words + 4) z) (put-in-rest w a 0 v (omega arith) e)
    ∙ sym (sets-append w header_words v z))
    ∙ header-front w 1 0 (v ++ z)
    ∙ ap (sets w 0) (sym (append_assoc hd v z) ∙ ap (λ (k : ℕ). (hd ++ v) ++ zeros k) four)
    ∙ stored-padded (used 1) w (hd ++ v) (omega arith) h
    ∙ sym (stored-front (used 1) w (hd ++ v) (omega arith) h)

-- One byte cleared.
pub first-cleared : (ns : List ℕ) → 1 ≤ length ns → set ns 0 0 ≡ cleared 1 ns
first-cleared [] h = absurd (omega arith)
first-cleared (x ∷ ns) h = refl

-- Cleared lists of which what lies beyond was kept.
pub emptied : (n : ℕ) (w a : List ℕ) → drop n a ≡ drop n w → cleared n a ≡ filled n [] w
unfolding padded filled
emptied n w a e =
    ap (λ (t : List ℕ). zeros n ++ t) e
    ∙ ap (λ (k : ℕ). zeros k ++ drop n w) (sym (sub-zero n))

-- What lies beyond a filled part is kept.
pub beyond : (n : ℕ) (w v : List ℕ) → length v ≤ n → drop n (filled n v w) ≡ drop n w
unfolding padded filled
beyond n w v h =
    let z : List ℕ = zeros (n - length v) in
    let l : length z ≡ n - length v = length-replicate (n - length v) 0 in
    let e : length (v ++ z) ≡ n = length-append v z ∙ omega arith in
    drop_at (v ++ z) (drop n w) n e

-- ---- Refusals 1 and 2.

module _ (text w ns : List ℕ) where
  pub too_long : max_text < length text → turned_away text w ns ≡ Some TextTooLong
  unfolding turned_away
  too_long h = rw (lt-ltb max_text (length text) h)

  module _ (short : length text ≤ max_text) where
    pub not-away : used (length text) ≤ length w → length text ≤ length ns → turned_away text w ns ≡ None
    unfolding turned_away has_room
    not-away hw hn = rw (le-ltb max_text (length text) short, le-leb (used (length text)) (length w) hw, le-leb (length text) (length ns) hn)

    pub few_words : length w < used (length text) → turned_away text w ns ≡ Some ListTooShort
    unfolding turned_away has_room
    few_words h = rw (le-ltb max_text (length text) short, lt-leb (used (length text)) (length w) h)

    pub few-names : length ns < length text → turned_away text w ns ≡ Some ListTooShort
    unfolding turned_away has_room
    few-names h = rw (le-ltb max_text (length text) short, lt-leb (length text) (length ns) h, and-false (leb (used (length text)) (length w)))

-- ---- The outcome of reading from cleared lists.

none-sheet : sheet_of (node T.none end end) ≡ header_for 1 0 ++ (31 ∷ 0 ∷ 0 ∷ 1 ∷ [])
unfolding sheet_of
none-sheet = simp (none-nodes, none-names, none-count)

-- None's sheet stored in cleared words.
pub none-stored : (n : ℕ) (w : List ℕ) → words_used 1 ≤ n → n ≤ length w → none_sheet (filled n [] w) ≡ filled n (sheet_of (node T.none end end)) w
none-stored n w h l =
    ap none_sheet (sym (emptied n w w refl))
    ∙ sym (ap (sets (cleared n w) 0) none-sheet)
    ∙ stored-front n w (sheet_of (node T.none end end)) (omega (arith, sheet-length (node T.none end end), none-count)) l

module _ (strict : Bool) (text w ns : List ℕ) (at : ℕ) (short : length text ≤ 2000) (hw : used (length text) ≤ length w) (hn : length text ≤ length ns)
    (hat : at ≤ length text) (st : drop at text ≡ strip_leading_qualifiers text) (a : Lists) where
  abbrev front : List ℕ
  front = cleared (used (length text)) w

  abbrev before : Lists
  before = lists (drop header_words front) (cleared (length text) ns)

  -- The header's words, and the nodes' as reading left them.
  abbrev joined : List ℕ
  joined = take header_words front ++ a.words

  fuel : ℕ
  fuel = length (drop at text) + length (drop at text)

  front_length : length front ≡ length w
  front_length = cleared-length (used (length text)) w hw

  is : {q : R.Parsed} → parse_inner_by strict fuel (drop at text) ≡ q → encoded_by strict text ≡ encoding_or_none q
  unfolding fuel
  is e = ap (λ (s : List ℕ). encoding_or_none (parse_inner_by strict (length s + length s) s)) (sym st) ∙ ap encoding_or_none e

  refused-is : (why : ErrorKind) (to : ℕ) → encoded_by strict text ≡ not_encoded why (drop to text) → to ≤ length text → Frame text at 0 0 before a
      → NoTree strict text (lists w ns) (lists (cleared (used (length text)) joined) (cleared (length text) a.names)) why to
  refused-is why to e h f =
      let m : ℕ = 4 * (length text + 1) in
      let head : length (take header_words front) ≡ header_words = length-take-le header_words front (omega (arith, front_length)) in
      record {
        away = not-away text w ns short hw hn;
        words-room = hw;
        names-room = hn;
        is = e;
        within = h;
        words_are = emptied (used (length text)) w joined (
            ap (λ (k : ℕ). drop (k + m) joined) (sym head)
            ∙ drop-append-add (take header_words front) a.words m
            ∙ f.words-frame m (omega (arith, slack-le text at))
            ∙ drop-drop m header_words front
            ∙ drop-cleared (used (length text)) w);
        names-are = emptied (length text) ns a.names (f.names-frame (length text) (omega arith) ∙ drop-cleared (length text) ns);
      }

  tree_is : (to k j : ℕ) → Reads strict text at 0 0 before a (Ok (Encoding to k j)) → TreeAt strict text (lists w ns) (lists (headed k j joined) a.names) to
  unfolding fuel encoding_or_none sheet_of
  tree_is to k j r =
      let f = r.says fuel (omega arith) in
      let b : FoundBound text at 0 0 to k j = r.bound in
      let t : Trees = node f.label f.children end in
      let one : count t ≡ suc (count f.children) = count-alone f.label f.children in
      let ki : k ≡ 0 + suc (count f.children) = f.count-is in
      let kt : k ≡ count t = omega arith in
      let ji : j ≡ 0 + length (names_of t) = f.names-is in
      let jt : j ≡ length (names_of t) = omega arith in
      let fits : length (sheet_of t) ≤ used (length text) = omega (arith, sheet-length t, slack-le text at, b.room) in
      let few : length (names_of t) ≤ length text = omega (arith, b.names-room) in
      record {
        away = not-away text w ns short hw hn;
        words-room = hw;
        names-room = hn;
        label = f.label;
        children = f.children;
        is = is f.is;
        within = b.within;
        words_are =
            ap (λ (x : List ℕ). headed k j (take header_words front ++ x)) f.words_are
            ∙ ap (headed k j) (sets-part header_words front 0 (nodes t 0) (omega (arith, front_length)))
            ∙ header-front front k j (nodes t 0)
            ∙ ap₂ (λ (c d : ℕ). sets front 0 (header_for c d ++ nodes t 0)) kt jt
            ∙ stored-front (used (length text)) w (sheet_of t) fits hw;
        names-are = f.names-are ∙ stored-front (length text) ns (names_of t) few hn;
        words-fit = fits;
        names-fit = few;
      }

  empty-is : Reads strict text at 0 0 before a (Ok Empty) → TreeAt strict text (lists w ns) (lists (none_sheet joined) a.names) (length text)
  unfolding fuel encoding_or_none
  empty-is r = record {
    away = not-away text w ns short hw hn;
    words-room = hw;
    names-room = hn;
    label = T.none;
    children = end;
    is = is (r.says fuel (omega arith)) ∙ ap (encoded T.none end) (sym (unread-end text (length text) (omega arith)));
    within = omega arith;
    words_are =
        ap (λ (x : List ℕ). none_sheet (take header_words front ++ x)) r.bound.1.words-kept
        ∙ ap none_sheet (take-append-drop header_words front)
        ∙ sym (ap (sets front 0) none-sheet)
        ∙ stored-front (used (length text)) w (sheet_of (node T.none end end)) (omega (arith, sheet-length (node T.none end end), none-count)) hw;
    names-are =
        r.bound.1.names-kept
        ∙ sym (ap (sets (cleared (length text) ns) 0) none-names)
        ∙ stored-front (length text) ns (names_of (node T.none end end)) (omega (arith, ap length none-names)) hn;
    words-fit = omega (arith, sheet-length (node T.none end end), none-count);
    names-fit = omega (arith, ap length none-names);
  }

  pub encoded-is : (p : Result Parsed ParseError) → Reads strict text at 0 0 before a p → EncodedIs strict text (lists w ns)
      (lists (encoded_words p (length text) joined) (encoded_names p (length text) a.names)) (encoded_out p (length text))
  unfolding fuel encoding_or_none
  encoded-is (Ok Empty) r = empty-is r
  encoded-is (Ok (Encoding to k j)) r = tree_is to k j r
  encoded-is (Ok (ContainerEnd kind to)) r = refused-is (Unknown (end_byte kind)) to (is (r.says fuel (omega arith))) r.bound.within
      (kept_frame text at 0 0 before a r.bound.kept)
  encoded-is (Ok (ArrayEnd to)) r = refused-is (Unknown 93) to (is (r.says fuel (omega arith))) r.bound.within
      (kept_frame text at 0 0 before a r.bound.kept)
  encoded-is (Err e) r = refused-is e.«kind» e.«split_point» (is (r.says fuel (omega arith))) r.bound.0 r.bound.1

-- ---- A text of one code.

is_single : R.Start → Bool
is_single (R.single p) = true
is_single R.complex = false
is_single R.object = false
is_single R.bits = false
is_single (R.indirection l) = false
is_single R.open_array = false
is_single R.close_array = false
is_single (R.open_container k) = false
is_single (R.close_container k) = false
is_single R.nothing = false

any_single : List ℕ → Bool
any_single [] = false
any_single (x ∷ xs) = is_single (start x) || any_single xs

none-single : (b : ℕ) (xs : List ℕ) → any_single xs ≡ false → among b xs ≡ true → is_single (start b) ≡ false
unfolding among any_single
none-single b [] n e = absurd (false≢true e)
none-single b (x ∷ xs) n e = go (λ k h. none-single b xs k h) (eqb b x) refl (is_single (start x)) refl
  where
    go : (any_single xs ≡ false → among b xs ≡ true → is_single (start b) ≡ false) → (d : Bool) → eqb b x ≡ d → (s : Bool) → is_single (start x) ≡ s
        → is_single (start b) ≡ false
    go more d ed true es = absurd (false≢true (sym n ∙ ap (λ (y : Bool). y || any_single xs) es))
    go more true ed false es = ap (λ (y : ℕ). is_single (start y)) (eqb-true b x ed) ∙ es
    go more false ed false es = more (sym (ap (λ (y : Bool). y || any_single xs) es) ∙ n) (sym (ap (λ (y : Bool). y || among b xs) ed) ∙ e)

-- No qualifier is a code.
code_stays : (b p : ℕ) → start b ≡ R.single p → is_qualifier b ≡ false
unfolding is_qualifier R.qualifiers any_single is_single start R.in_singles R.singles R.in_others R.others
code_stays b p e = go (is_qualifier b) refl
  where
    go : (d : Bool) → is_qualifier b ≡ d → is_qualifier b ≡ false
    go true q = absurd (false≢true (sym (none-single b R.qualifiers refl q) ∙ ap is_single e))
    go false q = q

-- The outcome for a text of one code, from the sheet of its primitive.
pub one_code : (strict : Bool) (text w ns : List ℕ) (p : ℕ) → length text ≡ 1 → used (length text) ≤ length w → length text ≤ length ns → start (get_or text 0 0)
    ≡ R.single p
    → (w2 n2 : List ℕ) → w2 ≡ code_sheet p w → n2 ≡ cleared 1 ns → EncodedIs strict text (lists w ns) (lists w2 n2) (Ok 1)
one_code strict text w ns p one hw hn st w2 n2 ew en =
    let h : 0 < length text = omega arith in
    let front : List ℕ = cleared (used (length text)) w in
    let v : List ℕ = p ∷ 0 ∷ 0 ∷ 1 ∷ [] in
    let hd : List ℕ = header_for 1 0 in
    let kept : List ℕ = cleared (length text) ns in
    let a : Lists = lists (node_put (drop header_words front) 0 p 0 0 1) kept in
    let n0 : List ℕ = drop header_words front in
    let reads : Reads strict text 0 0 0 (lists n0 kept) a (Ok (Encoding 1 1 0)) = reads-simple strict text 0 0 0 n0 (node_put n0 0 p 0 0 1) kept (Ok (Encoding 1 1 0)) h
    (simple-code text 0 0 0 n0 h strict p st) in
    let words : headed 1 0 (take header_words front ++ a.words) ≡ w2 =
    ap (headed 1 0) (sets-part header_words front 0 v (omega (arith, cleared-length (used (length text)) w hw)))
    ∙ header-front front 1 0 v
    ∙ ap (λ (k : ℕ). sets (cleared (used k) w) 0 (hd ++ v)) one
    ∙ sym ew in
    let names : kept ≡ n2 = ap (λ (k : ℕ). cleared k ns) one ∙ sym en in
    subst₂ (λ (x y : List ℕ). EncodedIs strict text (lists w ns) (lists x y) (Ok 1)) words names
    (encoded-is strict text w ns 0 (omega arith) hw hn (omega arith) (sym (strip-stop text 0 h (code_stays _ p st))) a (Ok (Encoding 1 1 0)) reads)

-- ---- What the calls ask.

pub ready-whole : (text w ns : List ℕ) (at : ℕ) → at ≤ length text → 4 * (length text + 1) ≤ length w → length text ≤ length ns → Ready text at 0 0 (lists w ns)
ready-whole text w ns at h l m = record {
  at_place = h;
  words-room = omega (arith, slack-le text at);
  names-room = omega arith;
}

fits : (text : List ℕ) (at : ℕ) (b a : Lists) (x : ℕ) (p : Result Parsed ParseError) → at ≤ length text → used (length text) ≤ x → Bound text at 0 0 b a p → Fits p x
fits text at b a x (Ok Empty) h l r = tt
fits text at b a x (Ok (Encoding to k j)) h l r = omega (arith, r.room, slack-le text at)
fits text at b a x (Ok (ContainerEnd kind to)) h l r = tt
fits text at b a x (Ok (ArrayEnd to)) h l r = tt
fits text at b a x (Err e) h l r = tt

-- The outcome of `parse_encoding_or_none`, from what its callees said of the lists that they were lent.
pub entered : (strict : Bool) (text w ns : List ℕ) (at : ℕ) (w1 n1 : List ℕ) (a : Lists) (p : Result Parsed ParseError) (w2 n2 : List ℕ) (r : Result ℕ NotRead)
    → length text ≤ 2000 → used (length text) ≤ length w → length text ≤ length ns → at ≤ length text → drop at text ≡ strip_leading_qualifiers text
    → w1 ≡ cleared (used (length text)) w → n1 ≡ cleared (length text) ns → Reads strict text at 0 0
    (lists (mid_of header_words (length w1 - header_words) w1) n1) a p
    → r ≡ encoded_out p (length text) → w2 ≡ encoded_words p (length text) (put_mid header_words (length w1 - header_words) w1 a.words) → n2
    ≡ encoded_names p (length text) a.names
    → EncodedIs strict text (lists w ns) (lists w2 n2) r
entered strict text w ns at w1 n1 a p w2 n2 r short hw hn hat st ew en reads er e2 f2 =
    let W : List ℕ = cleared (used (length text)) w in
    let ready : Reads strict text at 0 0 (lists (drop header_words W) (cleared (length text) ns)) a p =
    subst₂ (λ (x y : List ℕ). Reads strict text at 0 0 (lists x y) a p) (mid-rest header_words w1 ∙ ap (drop header_words) ew) en reads in
    let joined : w2 ≡ encoded_words p (length text) (take header_words W ++ a.words) =
    e2 ∙ ap (encoded_words p (length text)) (put_rest header_words w1 a.words ∙ ap (λ (x : List ℕ). take header_words x ++ a.words) ew) in
    subst (EncodedIs strict text (lists w ns) (lists w2 n2)) (sym er)
    (subst₂ (λ (x y : List ℕ). EncodedIs strict text (lists w ns) (lists x y) (encoded_out p (length text))) (sym joined) (sym f2)
    (encoded-is strict text w ns at short hw hn hat st a p ready))

-- What `encoding_or_none` asks.
pub joined-fits : (text : List ℕ) (at : ℕ) (w w1 ns n1 : List ℕ) (b a : Lists) (p : Result Parsed ParseError) → used (length text) ≤ length w → length text ≤ length ns
    → at ≤ length text
    → length w1 ≡ length w → length a.words ≡ length (mid_of header_words (length w1 - header_words) w1) → length n1 ≡ length ns → length a.names
    ≡ length n1 → Bound text at 0 0 b a p
    → ((used (length text) ≤ length (put_mid header_words (length w1 - header_words) w1 a.words)) × (length text ≤ length a.names)) × Fits p
    (length (put_mid header_words (length w1 - header_words) w1 a.words))
joined-fits text at w w1 ns n1 b a p hw hn hat e f g h r =
    let l : length (put_mid header_words (length w1 - header_words) w1 a.words) ≡ length w1 = same_len_mid header_words (length w1 - header_words) w1 a.words
    f in
    let uw : used (length text) ≤ length (put_mid header_words (length w1 - header_words) w1 a.words) = omega arith in
    ((uw, omega arith), fits text at b a (length (put_mid header_words (length w1 - header_words) w1 a.words)) p hat uw r)
