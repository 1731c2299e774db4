-- What reading a byte with parts gives, from what reading its parts gives.
use Rattle.parse.specs.declared.Parsed.TheVariants.{Empty, Encoding, ContainerEnd, ArrayEnd}
use Rattle.parse.specs.declared.Parsed.{Parsed}
use Prim.Native.Nat.{ℕ, zero, suc, ◌+◌, ◌*◌, ◌-◌, ◌≤◌, ◌<◌}
use mathlib.Core.Path.{◌≡◌, refl, sym, ap, ◌∙◌, subst}
use mathlib.Core.List.{List, [], ◌∷◌, ◌++◌, append_assoc, append-nil}
use mathlib.Core.Bool.{Bool, true, false}
use native.Mathlib.Nat.{add-zero}
use native.Mathlib.Omega.{arith}
use lib.ListN.{length, drop, get_or, length-drop, length-append}
use lib.Seq.{sets}
use Rattle.kinds.specs.Parse as R
use Rattle.kinds.specs.Container.{end_byte, same_container}
use Rattle.kinds.specs.Parse.{start, begin, encoding, refused, held, item, in_singles, singles, in_others, others, max_u64}
use Rattle.kinds.specs.Sheet.{nodes, names_of, first, second}
use Rattle.kinds.specs.Tree.{Label, Trees, end, node, count, pointer, atomic, array, none, kind, name}
use Rattle.parse.specs.Agree.{Lists, lists, Bound, ParsedIs, Simple, Reads, Ready, FoundBound, FoundIs, Frame, Kept, ItemsIs, ItemsReads, ItemsFound, ItemsBound, NamedIs, NameFound, ItemsWithin}
use Rattle.parse.specs.Answer.{kind_word}
use Rattle.parse.specs.Out.{After, AfterItems, pick_list, pick_parsed, pick_items, node_put, none_under, hold_out, hold_words, item_out, item_words, contain_out, contain_words, end_out}
use Rattle.parse.specs.Room.{slack, closes}
use Rattle.parse.specs.Strictly.{judged, parse_inner_by, parse_items_by}
use Rattle.kinds.specs.declared.ContainerKind.{ContainerKind}
use Rattle.kinds.specs.declared.ContainerKind.TheVariants.{Struct, Union}
use Rattle.std.specs.Prelude.{Result, Ok, Err}
use Rattle.kinds.specs.declared.ParseError.{ParseError}
use Rattle.kinds.specs.Refusal.{parse_error}
use Rattle.kinds.specs.declared.ErrorKind.{ErrorKind}
use Rattle.kinds.specs.declared.ErrorKind.TheVariants.{Unknown, WrongEndArray, WrongEndContainer}
use Rattle.kinds.proofs.LayoutLaws.{nodes-length}
use Rattle.kinds.proofs.ListLaws.{unread-end}
use Rattle.codes.specs.Answer.{closed, closes_fields}
use Rattle.codes.specs.declared.Token.TheVariants as T
use Rattle.codes.proofs.StepLaws.{begins, fuel_on, closed_in, closed_is, closes-it, closes-not, same_self, closes_in, closes-starts}
use Rattle.kinds.proofs.StoreLaws.{sets-append, sets-front-append, drop-sets}
use Rattle.parse.proofs.Judge.{Clean, step_by, nil-by, held_by_lem, item_by, next-by, clean-held, clean-opened, clean-closed}
use Rattle.parse.proofs.Sheets.{slack-open, slack-closed, slack-end, slack-le, simple-token}

-- ---- The words and the names of a node.

-- A node alone: its own words, and its children's.
pub nodes-alone : (m : ℕ) (l : Label) (cs : Trees) → nodes (node l cs end) m ≡ kind l ∷ first l m ∷ second l ∷ suc (count cs) ∷ nodes cs (m + length (name l))
unfolding nodes
nodes-alone m l cs = ap (λ (t : List ℕ). kind l ∷ first l m ∷ second l ∷ suc (count cs) ∷ t) (append-nil _)

pub names-alone : (l : Label) (cs : Trees) → names_of (node l cs end) ≡ name l ++ names_of cs
unfolding names_of
names-alone l cs = ap (λ (t : List ℕ). name l ++ t) (append-nil _)

-- A node and the trees after it.
pub names-side : (l : Label) (cs ts : Trees) → names_of (node l cs ts) ≡ names_of (node l cs end) ++ names_of ts
unfolding names_of
names-side l cs ts = sym (ap (λ (t : List ℕ). (name l ++ t) ++ names_of ts) (append-nil (names_of cs)) ∙ append_assoc (name l) (names_of cs) (names_of ts))

pub names-length : (l : Label) (cs : Trees) → length (names_of (node l cs end)) ≡ length (name l) + length (names_of cs)
names-length l cs = ap length (names-alone l cs) ∙ length-append (name l) (names_of cs)

pub nodes-side : (m : ℕ) (l : Label) (cs ts : Trees) → nodes (node l cs ts) m ≡ nodes (node l cs end) m ++ nodes ts (m + length (names_of (node l cs end)))
unfolding nodes
nodes-side m l cs ts =
    let e : m + length (names_of (node l cs end)) ≡ m + length (name l) + length (names_of cs) = omega (arith, names-length l cs) in
    sym (ap (λ (t : List ℕ). t ++ nodes ts (m + length (names_of (node l cs end)))) (nodes-alone m l cs)
    ∙ ap (λ (k : ℕ). kind l ∷ first l m ∷ second l ∷ suc (count cs) ∷ (nodes cs (m + length (name l)) ++ nodes ts k)) e)

pub count-alone : (l : Label) (cs : Trees) → count (node l cs end) ≡ suc (count cs)
unfolding count
count-alone l cs = ap suc (add-zero (count cs))

-- ---- One byte of fuel.

-- What a byte begins, with as much fuel as its rest takes, is what reading at its place says.
module _ (strict : Bool) (text : List ℕ) (at n m : ℕ) (b a : Lists) (r : Result Parsed ParseError) (h : at < length text) where
  begun-by : ((g : ℕ) → length (drop (at + 1) text) + length (drop (at + 1) text) < g
      → ParsedIs text n m b a r (judged strict (start (get_or text at 0)) (drop (at + 1) text)
      (begin (get_or text at 0) (start (get_or text at 0)) (drop (at + 1) text) (λ t. parse_inner_by strict g t) (λ k t. parse_items_by strict g k t))))
      → (f : ℕ) → length (drop at text) + length (drop at text) ≤ f → ParsedIs text n m b a r (parse_inner_by strict f (drop at text))
  begun-by s zero l = absurd (omega (arith, length-drop at text))
  begun-by s (suc g) l = subst (ParsedIs text n m b a r) (sym (step_by strict text at g h))
      (s g (omega (arith, length-drop at text, length-drop (at + 1) text)))

  Begun : Type 0
  Begun = (g : ℕ) → length (drop (at + 1) text) + length (drop (at + 1) text) < g
      → ParsedIs text n m b a r (begin (get_or text at 0) (start (get_or text at 0)) (drop (at + 1) text) (λ t. parse_inner_by strict g t)
      (λ k t. parse_items_by strict g k t))

  begun : Clean strict text at → Begun → (f : ℕ) → length (drop at text) + length (drop at text) ≤ f
      → ParsedIs text n m b a r (parse_inner_by strict f (drop at text))
  unfolding Begun
  begun clean s = begun-by (λ g l. subst (ParsedIs text n m b a r) (sym (clean _)) (s g l))

-- ---- Nothing left, and a byte without parts.

pub reads_end : (strict : Bool) (text : List ℕ) (at n m : ℕ) (b : Lists) → at ≡ length text → Reads strict text at n m b b (Ok Empty)
reads_end strict text at n m b e = record {
  bound = (e, record { words-kept = refl; names-kept = refl });
  says = λ f l. ap (parse_inner_by strict f) (unread-end text at (omega arith)) ∙ nil-by strict f;
}

pub reads-simple : (strict : Bool) (text : List ℕ) (at n m : ℕ) (w w' ns : List ℕ) (r : Result Parsed ParseError) → at < length text → Simple strict text at n m w w' r
    → Reads strict text at n m (lists w ns) (lists w' ns) r
reads-simple strict text at n m w w' ns r h s = record {
  bound = s.bound ns;
  says = begun-by strict text at n m (lists w ns) (lists w' ns) r h (λ g l. s.says ns (λ t. parse_inner_by strict g t) (λ k t. parse_items_by strict g k t));
}

-- ---- A node over what was read under it.

-- The words of a node that is stored over its children, already stored after it.
pub over : (w : List ℕ) (n m c : ℕ) (l : Label) (cs : Trees) → c ≡ suc (count cs)
    → sets (sets w (4 * (n + 1)) (nodes cs (m + length (name l)))) (4 * n) (kind l ∷ first l m ∷ second l ∷ c ∷ []) ≡ sets w (4 * n) (nodes (node l cs end) m)
over w n m c l cs e =
    sets-front-append w (4 * n) (4 * (n + 1)) (kind l ∷ first l m ∷ second l ∷ c ∷ []) (nodes cs (m + length (name l))) (omega arith)
    ∙ ap (λ (k : ℕ). sets w (4 * n) (kind l ∷ first l m ∷ second l ∷ k ∷ nodes cs (m + length (name l)))) e
    ∙ sym (ap (sets w (4 * n)) (nodes-alone m l cs))

-- A label with no name.
pub record Bare (m : ℕ) (l : Label) (x : ℕ) : Type 0 where
  pub first-is : first l m ≡ x
  pub second_is : second l ≡ 0
  pub name-is : name l ≡ []

pub over-bare : (w : List ℕ) (n m x c : ℕ) (l : Label) (cs : Trees) → Bare m l x → c ≡ suc (count cs)
    → node_put (sets w (4 * (n + 1)) (nodes cs m)) n (kind l) x 0 c ≡ sets w (4 * n) (nodes (node l cs end) m)
over-bare w n m x c l cs b e =
    let z : m + length (name l) ≡ m = ap (λ (s : List ℕ). m + length s) b.name-is ∙ add-zero m in
    ap (λ (k : ℕ). node_put (sets w (4 * (n + 1)) (nodes cs k)) n (kind l) x 0 c) (sym z)
    ∙ ap (λ (k : ℕ). node_put (sets w (4 * (n + 1)) (nodes cs (m + length (name l)))) n (kind l) k 0 c) (sym b.first-is)
    ∙ ap (λ (k : ℕ). node_put (sets w (4 * (n + 1)) (nodes cs (m + length (name l)))) n (kind l) (first l m) k c) (sym b.second_is)
    ∙ over w n m c l cs e

names-bare : (l : Label) (cs : Trees) → name l ≡ [] → names_of (node l cs end) ≡ names_of cs
names-bare l cs e = names-alone l cs ∙ ap (λ (t : List ℕ). t ++ names_of cs) e

pub none-nodes : (m : ℕ) → nodes (node none end end) m ≡ 31 ∷ 0 ∷ 0 ∷ 1 ∷ []
unfolding nodes first second kind name count
none-nodes m = refl

pub none-names : names_of (node none end end) ≡ []
unfolding names_of name
none-names = refl

pub none-count : count (node none end end) ≡ 1
unfolding count
none-count = refl

-- A None under a node with no name.
module _ (text : List ℕ) (n m x : ℕ) (b a : Lists) (l : Label) (bare : Bare m l x) (kept : Kept b a) where
  pub none_found : (to : ℕ) (q : R.Parsed) → q ≡ encoding l (node none end end) (drop to text)
      → FoundIs text n m b (lists (none_under (kind l) x n a.words) a.names) to (n + 2) m q
  none_found to q e =
      let ns : names_of (node l (node none end end) end) ≡ [] = names-bare l (node none end end) bare.name-is ∙ none-names in
      record {
        label = l;
        children = node none end end;
        is = e;
        count-is = omega (arith, none-count);
        names-is = sym (ap (λ (s : List ℕ). m + length s) ns ∙ add-zero m);
        words_are =
            ap (λ (s : List ℕ). node_put (sets a.words (4 * (n + 1)) s) n (kind l) x 0 2) (sym (none-nodes m))
            ∙ over-bare a.words n m x 2 l (node none end end) bare (omega (arith, none-count))
            ∙ ap (λ (s : List ℕ). sets s (4 * n) (nodes (node l (node none end end) end) m)) kept.words-kept;
        names-are = kept.names-kept ∙ sym (ap (λ (s : List ℕ). sets b.names m s) ns);
      }

-- A child that was read, under a node with no name.
pub child-found : (text : List ℕ) (n m x : ℕ) (b a : Lists) (l : Label) → Bare m l x
    → (to next k j : ℕ) (p q : R.Parsed) → FoundIs text (n + 1) m b a to k j p
    → ((c : Label) (cs : Trees) → p ≡ encoding c cs (drop to text) → q ≡ encoding l (node c cs end) (drop next text))
    → FoundIs text n m b (lists (node_put a.words n (kind l) x 0 (k - n)) a.names) next k j q
child-found text n m x b a l bare to next k j p q f e =
    let c = f.label in
    let cs = f.children in
    let one : count (node c cs end) ≡ suc (count cs) = count-alone c cs in
    let ns : names_of (node l (node c cs end) end) ≡ names_of (node c cs end) = names-bare l (node c cs end) bare.name-is in
    let k-is : k ≡ n + 1 + suc (count cs) = f.count-is in
    record {
      label = l;
      children = node c cs end;
      is = e c cs f.is;
      count-is = omega arith;
      names-is = f.names-is ∙ sym (ap (λ (s : List ℕ). m + length s) ns);
      words_are =
          ap (λ (s : List ℕ). node_put s n (kind l) x 0 (k - n)) f.words_are
          ∙ over-bare b.words n m x (k - n) l (node c cs end) bare (omega arith);
      names-are = f.names-are ∙ sym (ap (λ (s : List ℕ). sets b.names m s) ns);
    }

-- ---- Pointers and atomics.

pub bare-pointer : (m : ℕ) → Bare m pointer 0
unfolding first name second
bare-pointer m = record { first-is = refl; second_is = refl; name-is = refl }

pub bare-atomic : (m : ℕ) → Bare m atomic 0
unfolding first name second
bare-atomic m = record { first-is = refl; second_is = refl; name-is = refl }

bare-array : (m x : ℕ) → Bare m (array x) x
unfolding first name second
bare-array m x = record { first-is = refl; second_is = refl; name-is = refl }

-- The frame of a part is within the frame of the whole.
frame-part : (text : List ℕ) (at n m to k : ℕ) (b a : Lists) → k + slack (drop to text) ≤ n + slack (drop at text) → at ≤ to → Frame text to k m b a
    → Frame text at n m b a
frame-part text at n m to k b a room on f = record {
  words-frame = λ e l. f.words-frame e (omega arith);
  names-frame = λ e l. f.names-frame e (omega arith);
}

module _ (strict : Bool) (text : List ℕ) (at n m : ℕ) (l : Label) (bare : Bare m l 0) (h : at < length text) (st : start (get_or text at 0) ≡ R.indirection l)
    (b a : Lists) where
  opens : slack (drop at text) ≡ length text - at + 1
  unfolding closes
  opens = slack-open text at h (ap closes st)

  none-bound : slack (drop (at + 1) text) ≡ length text - (at + 1) → FoundBound text at n m (at + 1) (n + 2) m
  none-bound e = record {
    onward = omega arith;
    within = omega arith;
    more = omega arith;
    room = omega (arith, opens);
    names-on = omega arith;
    names-room =
        omega arith;
  }

  abbrev held_after : Result Parsed ParseError → Lists
  held_after p = lists (hold_words p (kind l) n a.words) a.names

  abbrev held_out : Result Parsed ParseError → Result Parsed ParseError
  held_out p = hold_out p (at + 1) n m

  pub reads_held : (p : Result Parsed ParseError) → Reads strict text (at + 1) (n + 1) m b a p
      → Reads strict text at n m b (lists (hold_words p (kind l) n a.words) a.names) (hold_out p (at + 1) n m)
  unfolding Begun held
  reads_held (Ok Empty) r = record {
    bound = none-bound (slack-end text (at + 1) (omega (arith, r.bound.0)) ∙ omega (arith, r.bound.0));
    says = begun strict text at n m b (held_after (Ok Empty)) (held_out (Ok Empty)) h (clean-held strict text at st)
        (λ g f. none_found text n m 0 b a l bare r.bound.1 (at + 1) _ (held_by_lem strict text at st g (r.says g (omega arith))));
  }
  reads_held (Ok (Encoding to k j)) r = record {
    bound = record {
      onward = omega (arith, r.bound.onward);
      within = r.bound.within;
      more = omega (arith, r.bound.more);
      room = omega (arith, r.bound.room, opens, slack-le text (at + 1));
      names-on = r.bound.names-on;
      names-room = omega (arith, r.bound.names-room);
    };
    says = begun strict text at n m b (held_after (Ok (Encoding to k j))) (held_out (Ok (Encoding to k j))) h (clean-held strict text at st)
        (λ g f. child-found text n m 0 b a l bare to to k j _ _ (r.says g (omega arith)) (λ c cs e. held_by_lem strict text at st g e));
  }
  reads_held (Ok (ContainerEnd c to)) r = record {
    bound = none-bound r.bound.closer;
    says = begun strict text at n m b (held_after (Ok (ContainerEnd c to))) (held_out (Ok (ContainerEnd c to))) h (clean-held strict text at st)
        (λ g f. none_found text n m 0 b a l bare r.bound.kept (at + 1) _ (held_by_lem strict text at st g (r.says g (omega arith))));
  }
  reads_held (Ok (ArrayEnd to)) r = record {
    bound = none-bound r.bound.closer;
    says = begun strict text at n m b (held_after (Ok (ArrayEnd to))) (held_out (Ok (ArrayEnd to))) h (clean-held strict text at st)
        (λ g f. none_found text n m 0 b a l bare r.bound.kept (at + 1) _ (held_by_lem strict text at st g (r.says g (omega arith))));
  }
  reads_held (Err e) r = record {
    bound = (r.bound.0, frame-part text at n m (at + 1) (n + 1) b a (omega (arith, opens, slack-le text (at + 1))) (omega arith) r.bound.1);
    says = begun strict text at n m b (held_after (Err e)) (held_out (Err e)) h (clean-held strict text at st)
        (λ g f. held_by_lem strict text at st g (r.says g (omega arith)));
  }

-- ---- Frames.

pub kept_frame : (text : List ℕ) (at n m : ℕ) (b a : Lists) → Kept b a → Frame text at n m b a
kept_frame text at n m b a k = record {
  words-frame = λ e _. ap (drop e) k.words-kept;
  names-frame = λ e _. ap (drop e) k.names-kept;
}

pub found-frame : (strict : Bool) (text : List ℕ) (at n m : ℕ) (b a : Lists) (to k j : ℕ) → Reads strict text at n m b a (Ok (Encoding to k j))
    → Frame text at n m b a
found-frame strict text at n m b a to k j r =
    let f = r.says (length (drop at text) + length (drop at text)) (omega arith) in
    let room : k + slack (drop to text) ≤ n + slack (drop at text) = r.bound.room in
    let nroom : j + (length text - to) ≤ m + (length text - at) = r.bound.names-room in
    let t : Trees = node f.label f.children end in
    let c : length (nodes t m) ≡ 4 * count t = nodes-length t m in
    let one : count t ≡ suc (count f.children) = count-alone f.label f.children in
    let ki : k ≡ n + suc (count f.children) = f.count-is in
    let ji : j ≡ m + length (names_of t) = f.names-is in
    record {
      words-frame = λ e l. ap (drop e) f.words_are ∙ drop-sets b.words (4 * n) (nodes t m) e (omega arith);
      names-frame = λ e l. ap (drop e) f.names-are ∙ drop-sets b.names m (names_of t) e (omega arith);
    }

-- ---- Arrays.

module _ (strict : Bool) (text : List ℕ) (at n m len it : ℕ) (h : at < length text) (st : start (get_or text at 0) ≡ R.open_array) (clean : Clean strict text at)
    (num : R.parse_number max_u64 (drop (at + 1) text) ≡ R.value len (drop it text)) (on : at + 1 ≤ it) (in-text : it ≤ length text) (b a : Lists) where
  opens-array : slack (drop at text) ≡ length text - at + 1
  unfolding closes
  opens-array = slack-open text at h (ap closes st)

  found-closed : (to k j : ℕ) → Reads strict text it (n + 1) m b a (Ok (Encoding to k j)) → closed text to ≡ true
      → Reads strict text at n m b (lists (node_put a.words n 28 len 0 (k - n)) a.names) (Ok (Encoding (to + 1) k j))
  unfolding Begun item kind closes start R.in_singles R.singles in_others others
  found-closed to k j r e =
      let l : to < length text = closed_in text to e in
      let c : get_or text to 0 ≡ 93 = closed_is text to e in
      let s : slack (drop to text) ≡ length text - to = slack-closed text to l (ap (λ (x : ℕ). closes (start x)) c) in
      record {
        bound = record {
          onward = omega (arith, r.bound.onward);
          within = omega arith;
          more = omega (arith, r.bound.more);
          room = omega (arith, r.bound.room, opens-array, slack-le text it, slack-le text (to + 1));
          names-on = r.bound.names-on;
          names-room = omega (arith, r.bound.names-room);
        };
        says = begun strict text at n m b (lists (node_put a.words n 28 len 0 (k - n)) a.names) (Ok (Encoding (to + 1) k j)) h clean
            (λ g f. child-found text n m len b a (array len) (bare-array m len) to (to + 1) k j _ _ (r.says g (fuel_on text at it g on f))
            (λ lab cs q. item_by strict text at len it st num g q ∙ closes-it text len lab cs to l c));
      }

  found-open : (to k j : ℕ) → Reads strict text it (n + 1) m b a (Ok (Encoding to k j)) → closed text to ≡ false
      → Reads strict text at n m b a (Err (parse_error WrongEndArray to))
  unfolding Begun item
  found-open to k j r e = record {
    bound = (
      r.bound.within,
      frame-part text at n m it (n + 1) b a (omega (arith, opens-array, slack-le text it)) (omega arith)
          (found-frame strict text it (n + 1) m b a to k j r),
    );
    says = begun strict text at n m b a (Err (parse_error WrongEndArray to)) h clean
        (λ g f. let q = r.says g (fuel_on text at it g on f) in item_by strict text at len it st num g q.is
        ∙ closes-not text len q.label q.children to e);
  }

  pick-found : (to k j : ℕ) → Reads strict text it (n + 1) m b a (Ok (Encoding to k j)) → (d : Bool) → closed text to ≡ d
      → Reads strict text at n m b (lists (pick_list d (node_put a.words n 28 len 0 (k - n)) a.words) a.names)
      (pick_parsed d (Ok (Encoding (to + 1) k j)) (Err (parse_error WrongEndArray to)))
  pick-found to k j r true e = found-closed to k j r e
  pick-found to k j r false e = found-open to k j r e

  pub reads-item : (p : Result Parsed ParseError) → Reads strict text it (n + 1) m b a p
      → Reads strict text at n m b (lists (item_words p text len n a.words) a.names) (item_out p text it n m)
  unfolding Begun item kind
  reads-item (Ok Empty) r = record {
    bound = (in-text, kept_frame text at n m b a r.bound.1);
    says = begun strict text at n m b a (Err (parse_error WrongEndArray it)) h clean
        (λ g f. item_by strict text at len it st num g (r.says g (fuel_on text at it g on f))
        ∙ ap (refused WrongEndArray) (sym (unread-end text it (omega (arith, r.bound.0)))));
  }
  reads-item (Ok (Encoding to k j)) r = pick-found to k j r (closed text to) refl
  reads-item (Ok (ContainerEnd c to)) r = record {
    bound = (r.bound.within, kept_frame text at n m b a r.bound.kept);
    says = begun strict text at n m b a (Err (parse_error (Unknown (end_byte c)) to)) h clean
        (λ g f. item_by strict text at len it st num g (r.says g (fuel_on text at it g on f)));
  }
  reads-item (Ok (ArrayEnd to)) r = record {
    bound = record {
      onward = omega (arith, r.bound.next);
      within = r.bound.within;
      more = omega arith;
      room = omega (arith, r.bound.next, r.bound.within, opens-array, slack-le text to);
      names-on = omega arith;
      names-room = omega (arith, r.bound.next);
    };
    says = begun strict text at n m b (lists (none_under 28 len n a.words) a.names) (Ok (Encoding to (n + 2) m)) h clean
        (λ g f. none_found text n m len b a (array len) (bare-array m len) r.bound.kept to _
        (item_by strict text at len it st num g (r.says g (fuel_on text at it g on f))));
  }
  reads-item (Err e) r = record {
    bound = (r.bound.0, frame-part text at n m it (n + 1) b a (omega (arith, opens-array, slack-le text it)) (omega arith) r.bound.1);
    says = begun strict text at n m b a (Err e) h clean (λ g f. item_by strict text at len it st num g (r.says g (fuel_on text at it g on f)));
  }

-- No number after `[`, or one that a strict reading refuses.
pub reads-no-number : (strict : Bool) (text : List ℕ) (at n m : ℕ) (b : Lists) (why : ErrorKind) (to : ℕ) → at < length text
    → ((inner : List ℕ → R.Parsed) (fields : ContainerKind → List ℕ → R.Items) → judged strict (start (get_or text at 0)) (drop (at + 1) text)
    (begin (get_or text at 0) (start (get_or text at 0)) (drop (at + 1) text) inner fields) ≡ refused why (drop to text))
    → to ≤ length text → Reads strict text at n m b b (Err (parse_error why to))
reads-no-number strict text at n m b why to h num l = record {
  bound = (l, kept_frame text at n m b b (record { words-kept = refl; names-kept = refl }));
  says = begun-by strict text at n m b b (Err (parse_error why to)) h (λ g f. num (λ t. parse_inner_by strict g t) (λ k t. parse_items_by strict g k t));
}

-- ---- The fields of a container.

fields-step : (strict : Bool) (g : ℕ) (k : ContainerKind) (s : List ℕ) → parse_items_by strict (suc g) k s
    ≡ R.next_item k (parse_inner_by strict g s) (λ t. parse_items_by strict g k t)
unfolding parse_items_by
fields-step strict g k s = refl

module _ (strict : Bool) (text : List ℕ) (at : ℕ) (kind : ContainerKind) (n m : ℕ) (b a : Lists) (r : Result (ℕ × ℕ × ℕ) ParseError) where
  Continued : Type 0
  Continued = (g : ℕ) → length (drop at text) + length (drop at text) ≤ g
      → ItemsIs text n m b a r (R.next_item kind (parse_inner_by strict g (drop at text)) (λ t. parse_items_by strict g kind t))

  continued : Continued → (f : ℕ) → length (drop at text) + length (drop at text) < f → ItemsIs text n m b a r (parse_items_by strict f kind (drop at text))
  unfolding Continued
  continued s zero l = absurd (omega arith)
  continued s (suc g) l = subst (ItemsIs text n m b a r) (sym (fields-step strict g kind (drop at text))) (s g (omega arith))

abbrev pub NotFound : Parsed → Type 0
NotFound Empty = Unit {0}
NotFound (Encoding to k j) = ⊥
NotFound (ContainerEnd k to) = Unit {0}
NotFound (ArrayEnd to) = Unit {0}

module _ (strict : Bool) (text : List ℕ) (at : ℕ) (kind : ContainerKind) (n m : ℕ) (b a : Lists) where
  end-container : (other : ContainerKind) (to : ℕ) → Reads strict text at n m b a (Ok (ContainerEnd other to)) → (d : Bool) → same_container kind other ≡ d
      → ItemsReads strict text at kind n m b a (pick_items d (Ok (to, n, m)) (Err (parse_error (Unknown (end_byte other)) to)))
  unfolding Continued R.next_item count names_of nodes
  end-container other to r true e = record {
    bound = record {
      onward = omega (arith, r.bound.next);
      within = r.bound.within;
      more = omega arith;
      room = omega (arith, r.bound.next, r.bound.within, r.bound.closer);
      names-on = omega arith;
      names-room = omega (arith, r.bound.next);
    };
    says = continued strict text at kind n m b a (Ok (to, n, m)) (λ g l. record {
      trees = end;
      is = next-by strict text at kind g (r.says g l) ∙ (rw (e, R.next_item) refl);
      count-is = sym (add-zero n);
      names-is = sym (add-zero m);
      words_are = r.bound.kept.words-kept;
      names-are = r.bound.kept.names-kept;
    });
  }
  end-container other to r false e = record {
    bound = (r.bound.within, kept_frame text at n m b a r.bound.kept);
    says = continued strict text at kind n m b a (Err (parse_error (Unknown (end_byte other)) to))
        (λ g l. next-by strict text at kind g (r.says g l) ∙ (rw (e, R.next_item) refl));
  }

  pub items-end : (p : Parsed) → NotFound p → Reads strict text at n m b a (Ok p) → ItemsReads strict text at kind n m b a (end_out p kind at n m)
  unfolding Continued R.next_item
  items-end Empty x r = record {
    bound = (omega (arith, r.bound.0), kept_frame text at n m b a r.bound.1);
    says = continued strict text at kind n m b a (Err (parse_error (WrongEndContainer kind) at))
        (λ g l. next-by strict text at kind g (r.says g l) ∙ ap (R.items_refused (WrongEndContainer kind))
        (sym (unread-end text at (omega (arith, r.bound.0)))));
  }
  items-end (Encoding to k j) x r = absurd x
  items-end (ContainerEnd other to) x r = end-container other to r (same_container kind other) refl
  items-end (ArrayEnd to) x r = record {
    bound = (r.bound.within, kept_frame text at n m b a r.bound.kept);
    says = continued strict text at kind n m b a (Err (parse_error (Unknown 93) to)) (λ g l. next-by strict text at kind g (r.says g l));
  }

  pub items-refused : (e : ParseError) → Reads strict text at n m b a (Err e) → ItemsReads strict text at kind n m b a (Err e)
  unfolding Continued R.next_item
  items-refused e r = record {
    bound = r.bound;
    says = continued strict text at kind n m b a (Err e) (λ g l. next-by strict text at kind g (r.says g l));
  }

  -- One field, and the fields after it.
  both : (to k j : ℕ) (z : Lists) (end-at k2 j2 g : ℕ) → FoundIs text n m b a to k j (parse_inner_by strict g (drop at text))
      → ItemsFound text k j a z end-at k2 j2 (parse_items_by strict g kind (drop to text))
      → ItemsFound text n m b z end-at k2 j2 (R.next_item kind (parse_inner_by strict g (drop at text)) (λ t. parse_items_by strict g kind t))
  unfolding R.next_item R.add_item
  both to k j z end-at k2 j2 g f t =
      let l : Label = f.label in
      let cs : Trees = f.children in
      let ts : Trees = t.trees in
      let c : count (node l cs ts) ≡ suc (count cs + count ts) = unfold count in refl in
      let one : count (node l cs end) ≡ suc (count cs) = count-alone l cs in
      let len : length (nodes (node l cs end) m) ≡ 4 * count (node l cs end) = nodes-length (node l cs end) m in
      let side : length (names_of (node l cs ts)) ≡ length (names_of (node l cs end)) + length (names_of ts) = ap length (names-side l cs ts)
      ∙ length-append (names_of (node l cs end)) (names_of ts) in
      let ki : k ≡ n + suc (count cs) = f.count-is in
      let ji : j ≡ m + length (names_of (node l cs end)) = f.names-is in
      let k2i : k2 ≡ k + count ts = t.count-is in
      let j2i : j2 ≡ j + length (names_of ts) = t.names-is in
      let place : 4 * k ≡ 4 * n + length (nodes (node l cs end) m) = omega arith in
      record {
        trees = node l cs ts;
        is = next-by strict text at kind g f.is ∙ ap (R.add_item l cs) t.is;
        count-is = omega arith;
        names-is = omega arith;
        words_are =
            t.words_are
            ∙ ap (λ (w : List ℕ). sets w (4 * k) (nodes ts j)) f.words_are
            ∙ ap (λ (x : ℕ). sets (sets b.words (4 * n) (nodes (node l cs end) m)) x (nodes ts j)) place
            ∙ sym (sets-append b.words (4 * n) (nodes (node l cs end) m) (nodes ts j))
            ∙ ap (λ (x : ℕ). sets b.words (4 * n) (nodes (node l cs end) m ++ nodes ts x)) ji
            ∙ sym (ap (sets b.words (4 * n)) (nodes-side m l cs ts));
        names-are =
            t.names-are
            ∙ ap (λ (w : List ℕ). sets w j (names_of ts)) f.names-are
            ∙ ap (λ (x : ℕ). sets (sets b.names m (names_of (node l cs end))) x (names_of ts)) ji
            ∙ sym (sets-append b.names m (names_of (node l cs end)) (names_of ts))
            ∙ sym (ap (sets b.names m) (names-side l cs ts));
      }

  pub items_more : (to k j : ℕ) (z : Lists) (i : Result (ℕ × ℕ × ℕ) ParseError) → Reads strict text at n m b a (Ok (Encoding to k j)) → ItemsReads strict text to kind k j a z i
      → ItemsReads strict text at kind n m b z i
  unfolding Continued R.next_item R.add_item
  items_more to k j z (Ok (end-at, k2, j2)) r s =
      let rb : FoundBound text at n m to k j = r.bound in
      let sb : ItemsBound text to k j end-at k2 j2 = s.bound in
      record {
        bound = record {
          onward = omega arith;
          within = sb.within;
          more = omega arith;
          room = omega arith;
          names-on = omega arith;
          names-room = omega arith;
        };
        says = continued strict text at kind n m b z (Ok (end-at, k2, j2))
            (λ g l. both to k j z end-at k2 j2 g (r.says g l) (s.says g (omega (arith, length-drop at text, length-drop to text))));
      }
  items_more to k j z (Err e) r s =
      let rb : FoundBound text at n m to k j = r.bound in
      let fr : Frame text at n m b a = found-frame strict text at n m b a to k j r in
      let fs : Frame text to k j a z = s.bound.1 in
      record {
        bound = (
          s.bound.0,
          record {
            words-frame = λ e l. fs.words-frame e (omega arith) ∙ fr.words-frame e l;
            names-frame = λ e l. fs.names-frame e (omega arith) ∙ fr.names-frame e l;
          },
        );
        says = continued strict text at kind n m b z (Err e)
            (λ g l. next-by strict text at kind g (r.says g l).is ∙ ap (R.add_item _ _) (s.says g (omega (arith, length-drop at text, length-drop to text))));
      }

-- ---- Containers.

container-words : (k : ContainerKind) (s : List ℕ) (m : ℕ) → (kind (R.container k s) ≡ kind_word k) × (first (R.container k s) m ≡ m) ×
    (second (R.container k s) ≡ length s) × (name (R.container k s) ≡ s)
unfolding kind first name second
container-words Struct s m = (refl, refl, refl, refl)
container-words Union s m = (refl, refl, refl, refl)

-- The container's own closer ends its fields.
pub items-closed : (strict : Bool) (text : List ℕ) (at : ℕ) (kind : ContainerKind) (n m : ℕ) (b : Lists) → closes_fields text at kind ≡ true
    → ItemsReads strict text at kind n m b b (Ok (at + 1, n, m))
unfolding begin
items-closed strict text at kind n m b e =
    let h : at < length text = closes_in text at kind e in
    let st = closes-starts text at kind e in
    let s = simple-token text at n m b.words h strict (clean-closed strict text at st) (T.ContainerEnd kind (at + 1))
    (record { bound = (refl, st); says = λ inner fields. begins text at st inner fields }) in
    end-container strict text at kind n m b b kind (at + 1) (reads-simple strict text at n m b.words b.words b.names (Ok (ContainerEnd kind (at + 1))) h s)
    true (same_self kind)

module _ (strict : Bool) (text : List ℕ) (at : ℕ) (k : ContainerKind) (n m : ℕ) (h : at < length text) (st : start (get_or text at 0) ≡ R.open_container k)
    (b : Lists) (ns : List ℕ) where
  opens-container : slack (drop at text) ≡ length text - at + 1
  unfolding closes
  opens-container = slack-open text at h (ap closes st)

  pub reads-no-name : (why : ErrorKind) (to : ℕ) → NamedIs text (at + 1) m b.names ns (Err (parse_error why to)) (R.parse_name k [] (drop (at + 1) text))
      → Reads strict text at n m b (lists b.words ns) (Err (parse_error why to))
  unfolding Begun begin
  reads-no-name why to q = record {
    bound = (q.0.1, record { words-frame = λ e l. refl; names-frame = λ e l. ap (drop e) q.1 });
    says = begun strict text at n m b (lists b.words ns) (Err (parse_error why to)) h (clean-opened strict text at st)
        (λ g f. begins text at st (λ t. parse_inner_by strict g t) (λ j t. parse_items_by strict g j t) ∙ rw (q.0.0, begin) refl);
  }

  module _ (to l : ℕ) (q : NameFound text (at + 1) m b.names ns to l (R.parse_name k [] (drop (at + 1) text))) (a : Lists) where
    named : (g : ℕ) → begin (get_or text at 0) (start (get_or text at 0)) (drop (at + 1) text) (λ t. parse_inner_by strict g t) (λ j t. parse_items_by strict g j t)
        ≡ R.contained k q.name (parse_items_by strict g k (drop to text))
    unfolding begin
    named g = begins text at st (λ t. parse_inner_by strict g t) (λ j t. parse_items_by strict g j t) ∙ rw (q.is, begin) refl

    contained-found : (end-at k2 j2 g : ℕ) → ItemsFound text (n + 1) l (lists b.words ns) a end-at k2 j2 (parse_items_by strict g k (drop to text))
        → FoundIs text n m b (lists (node_put a.words n (kind_word k) m (l - m) (k2 - n)) a.names) end-at k2 j2
        (begin (get_or text at 0) (start (get_or text at 0)) (drop (at + 1) text) (λ t. parse_inner_by strict g t) (λ j t. parse_items_by strict g j t))
    unfolding R.contained
    contained-found end-at k2 j2 g t =
        let lab : Label = R.container k q.name in
        let ts : Trees = t.trees in
        let facts = container-words k q.name m in
        let li : l ≡ m + length q.name = q.names-is in
        let k2i : k2 ≡ n + 1 + count ts = t.count-is in
        let j2i : j2 ≡ l + length (names_of ts) = t.names-is in
        let nl : length (names_of (node lab ts end)) ≡ length (name lab) + length (names_of ts) = names-length lab ts in
        let ln : length (name lab) ≡ length q.name = ap length facts.3 in
        let sl : l - m ≡ length q.name = omega arith in
        let cl : k2 - n ≡ suc (count ts) = omega arith in
        let ml : l ≡ m + length (name lab) = omega arith in
        record {
          label = lab;
          children = ts;
          is = named g ∙ ap (R.contained k q.name) t.is;
          count-is = omega arith;
          names-is = omega arith;
          words_are =
              ap (λ (w : List ℕ). node_put w n (kind_word k) m (l - m) (k2 - n)) t.words_are
              ∙ ap (λ (x : ℕ). node_put (sets b.words (4 * (n + 1)) (nodes ts x)) n (kind_word k) m (l - m) (k2 - n)) ml
              ∙ ap (λ (x : ℕ). node_put (sets b.words (4 * (n + 1)) (nodes ts (m + length (name lab)))) n x m (l - m) (k2 - n)) (sym facts.0)
              ∙ ap (λ (x : ℕ). node_put (sets b.words (4 * (n + 1)) (nodes ts (m + length (name lab)))) n (kind lab) x (l - m) (k2 - n)) (sym facts.1)
              ∙ ap (λ (x : ℕ). node_put (sets b.words (4 * (n + 1)) (nodes ts (m + length (name lab)))) n (kind lab) (first lab m) x (k2 - n))
              (sl ∙ sym facts.2)
              ∙ over b.words n m (k2 - n) lab ts cl;
          names-are =
              t.names-are
              ∙ ap (λ (w : List ℕ). sets w l (names_of ts)) q.names-are
              ∙ ap (λ (x : ℕ). sets (sets b.names m q.name) x (names_of ts)) li
              ∙ sym (sets-append b.names m q.name (names_of ts))
              ∙ sym (ap (sets b.names m) (names-alone lab ts ∙ ap (λ (s : List ℕ). s ++ names_of ts) facts.3));
        }

    pub reads-contained : (i : Result (ℕ × ℕ × ℕ) ParseError) → ItemsReads strict text to k (n + 1) l (lists b.words ns) a i
        → Reads strict text at n m b (lists (contain_words i k n m l a.words) a.names) (contain_out i)
    unfolding Begun R.contained
    reads-contained (Ok (end-at, k2, j2)) r =
        let rb : ItemsBound text to (n + 1) l end-at k2 j2 = r.bound in
        record {
          bound = record {
            onward = omega (arith, q.onward);
            within = rb.within;
            more = omega arith;
            room = omega (arith, opens-container, slack-le text end-at, slack-le text to, q.onward);
            names-on = omega (arith, q.names-is);
            names-room = omega (arith, q.names-room);
          };
          says = begun strict text at n m b (lists (node_put a.words n (kind_word k) m (l - m) (k2 - n)) a.names) (Ok (Encoding end-at k2 j2)) h
              (clean-opened strict text at st)
              (λ g f. contained-found end-at k2 j2 g (r.says g (omega (arith, q.onward, length-drop to text, length-drop (at + 1) text))));
        }
    reads-contained (Err e) r =
        let fr : Frame text to (n + 1) l (lists b.words ns) a = r.bound.1 in
        let li : l ≡ m + length q.name = q.names-is in
        record {
          bound = (
            r.bound.0,
            record {
              words-frame = λ e x. fr.words-frame e (omega (arith, opens-container, slack-le text to, q.onward));
              names-frame = λ e x. fr.names-frame e (omega (arith, q.names-room)) ∙ ap (drop e) q.names-are
                  ∙ drop-sets b.names m q.name e (omega (arith, q.names-room, q.within, q.onward));
            },
          );
          says = begun strict text at n m b a (Err e) h (clean-opened strict text at st)
              (λ g f. named g ∙ ap (R.contained k q.name) (r.says g (omega (arith, q.onward, length-drop to text, length-drop (at + 1) text))));
        }

-- ---- What the calls ask.

pub ready-part : (text : List ℕ) (at n m : ℕ) (b : Lists) (it : ℕ) → Ready text at n m b → at < length text → closes (start (get_or text at 0)) ≡ false
    → at + 1 ≤ it → it ≤ length text → Ready text it (n + 1) m b
ready-part text at n m b it r h o on l = record {
  at_place = l;
  words-room = omega (arith, r.words-room, slack-open text at h o, slack-le text it);
  names-room = omega (arith, r.names-room);
}

pub room-two : (text : List ℕ) (at n m : ℕ) (b : Lists) → Ready text at n m b → at < length text → closes (start (get_or text at 0)) ≡ false
    → 4 * n + 8 ≤ length b.words
room-two text at n m b r h o = omega (arith, r.words-room, slack-open text at h o)

pub after-parsed : (text : List ℕ) (at n m : ℕ) (b a : Lists) (p : Result Parsed ParseError) → Bound text at (n + 1) m b a p → After p n
after-parsed text at n m b a (Ok Empty) r = tt
after-parsed text at n m b a (Ok (Encoding to k j)) r = omega (arith, r.more)
after-parsed text at n m b a (Ok (ContainerEnd k to)) r = tt
after-parsed text at n m b a (Ok (ArrayEnd to)) r = tt
after-parsed text at n m b a (Err e) r = tt

pub after_items : (text : List ℕ) (at n m : ℕ) (b a : Lists) (i : Result (ℕ × ℕ × ℕ) ParseError) → ItemsWithin text at (n + 1) m b a i → AfterItems i n
after_items text at n m b a (Ok (to, k, j)) r = omega (arith, r.more)
after_items text at n m b a (Err e) r = tt

pub ready-fields : (text : List ℕ) (at n m : ℕ) (b : Lists) (ns : List ℕ) (to l : ℕ) (q : R.Named) → Ready text at n m b → at < length text
    → closes (start (get_or text at 0)) ≡ false
    → length ns ≡ length b.names → NameFound text (at + 1) m b.names ns to l q → Ready text to (n + 1) l (lists b.words ns)
ready-fields text at n m b ns to l q r h o s f = record {
  at_place = f.within;
  words-room = omega (arith, r.words-room, slack-open text at h o, slack-le text to, f.onward);
  names-room = omega (arith, r.names-room, f.names-room, f.onward, f.within);
}

pub ready-more : (text : List ℕ) (at n m : ℕ) (b a : Lists) (to k j : ℕ) → Ready text at n m b → length a.words ≡ length b.words → length a.names
    ≡ length b.names
    → FoundBound text at n m to k j → Ready text to k j a
ready-more text at n m b a to k j r w s f = record {
  at_place = f.within;
  words-room = omega (arith, r.words-room, f.room);
  names-room = omega (arith, r.names-room, f.names-room);
}

pub opens-closes : (k : ContainerKind) (b : ℕ) → start b ≡ R.open_container k → closes (start b) ≡ false
unfolding closes
opens-closes k b e = ap closes e
