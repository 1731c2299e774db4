-- What the private functions of reading ask and promise, against the definitions.
use Rattle.parse.specs.declared.Parsed.TheVariants.{Empty, Encoding, ContainerEnd, ArrayEnd}
use Rattle.parse.specs.declared.Parsed.{Parsed}
use Rattle.parse.specs.declared.NotRead.{NotRead}
use Rattle.parse.specs.declared.NotRead.TheVariants.{Away, Refused}
use Rattle.std.specs.Prelude.{ℕ, suc, ◌+◌, ◌*◌, ◌-◌, ◌≤◌, ◌<◌, ◌≡◌, List, [], length, drop, get_or, Bool, false}
use Rattle.std.proofs.lemmas.List.Edits.{sets}
use Rattle.std.specs.Prelude.{Some, None}
use Rattle.kinds.specs.Parse as R
use Rattle.kinds.specs.Parse.{empty, encoding, container_end, array_end, refused, items, items_refused, start}
use Rattle.kinds.specs.Sheet.{nodes, names_of, sheet_of}
use Rattle.kinds.specs.Tree.{Label, Trees, end, node, count}
use Rattle.parser.specs.Run.{run_end}
use Rattle.codes.specs.Answer.{is_indirection, has_parts}
use Rattle.parse.specs.Out.{After}
use Rattle.parse.specs.Room.{slack}
use Rattle.parse.specs.Strictly.{judged, parse_inner_by, parse_items_by, encoded_by}
use Rattle.kinds.specs.declared.ContainerKind.{ContainerKind}
use Rattle.std.specs.Prelude.{Result, Ok, Err}
use Rattle.kinds.specs.declared.ParseError.{ParseError}
use Rattle.kinds.specs.declared.ErrorKind.{ErrorKind}
use Rattle.parse.specs.Answer.{used, turned_away, filled}

-- The lists at entry and at exit.
pub record Lists : Type 0 where
  pub words : List ℕ
  pub names : List ℕ

-- A tree read: its nodes and name bytes are written in.
pub record FoundIs (text : List ℕ) (n m : ℕ) (before after : Lists) (to k l : ℕ) (q : R.Parsed) : Type 0 where
  pub label : Label
  pub children : Trees
  pub is : q ≡ encoding label children (drop to text)
  pub count-is : k ≡ n + suc (count children)
  pub names-is : l ≡ m + length (names_of (node label children end))
  pub words_are : after.words ≡ sets before.words (4 * n) (nodes (node label children end) m)
  pub names-are : after.names ≡ sets before.names m (names_of (node label children end))

abbrev pub ParsedIs : List ℕ → ℕ → ℕ → Lists → Lists → Result Parsed ParseError → R.Parsed → Type 0
ParsedIs text n m b a (Ok Empty) q = q ≡ empty
ParsedIs text n m b a (Ok (Encoding to k l)) q = FoundIs text n m b a to k l q
ParsedIs text n m b a (Ok (ContainerEnd kind to)) q = q ≡ container_end kind (drop to text)
ParsedIs text n m b a (Ok (ArrayEnd to)) q = q ≡ array_end (drop to text)
ParsedIs text n m b a (Err e) q = q ≡ refused e.«kind» (drop e.«split_point» text)

-- Nothing is written.
pub record Kept (before after : Lists) : Type 0 where
  pub words-kept : after.words ≡ before.words
  pub names-kept : after.names ≡ before.names

-- Nothing is written at or beyond what may be made of the bytes unread.
pub record Frame (text : List ℕ) (at n m : ℕ) (before after : Lists) : Type 0 where
  pub words-frame : (e : ℕ) → 4 * (n + slack (drop at text)) ≤ e → drop e after.words ≡ drop e before.words
  pub names-frame : (e : ℕ) → m + (length text - at) ≤ e → drop e after.names ≡ drop e before.names

pub record FoundBound (text : List ℕ) (at n m to k l : ℕ) : Type 0 where
  pub onward : at < to
  pub within : to ≤ length text
  pub more : n < k
  pub room : k + slack (drop to text) ≤ n + slack (drop at text)
  pub names-on : m ≤ l
  pub names-room : l + (length text - to) ≤ m + (length text - at)

-- A closer was read.
pub record Ended (text : List ℕ) (at : ℕ) (before after : Lists) (to : ℕ) : Type 0 where
  pub next : to ≡ at + 1
  pub within : to ≤ length text
  pub closer : slack (drop at text) ≡ length text - at
  pub kept : Kept before after

abbrev pub Bound : List ℕ → ℕ → ℕ → ℕ → Lists → Lists → Result Parsed ParseError → Type 0
Bound text at n m b a (Ok Empty) = (at ≡ length text) × Kept b a
Bound text at n m b a (Ok (Encoding to k l)) = FoundBound text at n m to k l
Bound text at n m b a (Ok (ContainerEnd kind to)) = Ended text at b a to
Bound text at n m b a (Ok (ArrayEnd to)) = Ended text at b a to
Bound text at n m b a (Err e) = (e.«split_point» ≤ length text) × Frame text at n m b a

-- What reading asks: a place in the text, and room for what the bytes unread may make.
pub record Ready (text : List ℕ) (at n m : ℕ) (before : Lists) : Type 0 where
  pub at_place : at ≤ length text
  pub words-room : 4 * (n + slack (drop at text)) ≤ length before.words
  pub names-room : m + (length text - at) ≤ length before.names

-- The outcome of reading at a place, whatever the fuel.
pub record Reads (strict : Bool) (text : List ℕ) (at n m : ℕ) (before after : Lists) (r : Result Parsed ParseError) : Type 0 where
  pub bound : Bound text at n m before after r
  pub says : (f : ℕ) → length (drop at text) + length (drop at text) ≤ f → ParsedIs text n m before after r (parse_inner_by strict f (drop at text))

pub record NameFound (text : List ℕ) (at m : ℕ) (before after : List ℕ) (to l : ℕ) (q : R.Named) : Type 0 where
  pub name : List ℕ
  pub is : q ≡ R.named name (drop to text)
  pub names-is : l ≡ m + length name
  pub names-are : after ≡ sets before m name
  pub onward : at < to
  pub within : to ≤ length text
  pub names-room : l + (length text - to) ≤ m + (length text - at)

abbrev pub NamedIs : List ℕ → ℕ → ℕ → List ℕ → List ℕ → Result (ℕ × ℕ) ParseError → R.Named → Type 0
NamedIs text at m b a (Ok (to, l)) q = NameFound text at m b a to l q
NamedIs text at m b a (Err e) q = ((q ≡ R.unnamed e.«kind» (drop e.«split_point» text)) × (e.«split_point» ≤ length text)) × (a ≡ b)

abbrev pub lists : List ℕ → List ℕ → Lists
lists w ns = record { words = w; names = ns }

-- The outcome of reading a byte that begins nothing with parts, whatever reads parts.
pub record Simple (strict : Bool) (text : List ℕ) (at n m : ℕ) (w w' : List ℕ) (r : Result Parsed ParseError) : Type 0 where
  pub bound : (ns : List ℕ) → Bound text at n m (lists w ns) (lists w' ns) r
  pub says : (ns : List ℕ) (inner : List ℕ → R.Parsed) (fields : ContainerKind → List ℕ → R.Items)
      → ParsedIs text n m (lists w ns) (lists w' ns) r (judged strict (start (get_or text at 0)) (drop (at + 1) text) (R.begin (get_or text at 0) (start (get_or text at 0)) (drop (at + 1) text) inner fields))

pub record SimpleReady (text : List ℕ) (at n : ℕ) (w : List ℕ) : Type 0 where
  pub at_place : at < length text
  pub words-room : 4 * (n + slack (drop at text)) ≤ length w
  pub plain : has_parts (start (get_or text at 0)) ≡ false

-- No pointer or atomic stands at the place.
pub record OneReady (text : List ℕ) (at n m : ℕ) (before : Lists) : Type 0 where
  pub ready : Ready text at n m before
  pub direct : at < length text → is_indirection (get_or text at 0) ≡ false

-- ---- Runs of pointers and atomics.

-- What writing the nodes of a run asks: the run, room for its nodes and a None, and its child's nodes after them.
pub record ChildReady (text : List ℕ) (at to n : ℕ) (w : List ℕ) (child : Result Parsed ParseError) : Type 0 where
  pub at_place : at ≤ length text
  pub ends : to ≡ run_end is_indirection text at
  pub room : at < to → 4 * (n + (to - at)) + 4 ≤ length w
  pub after : After child (n + (to - at))

-- If reading at `to` gives the child, then reading the run from `at` on gives `r`.
abbrev pub Holds : List ℕ → ℕ → ℕ → ℕ → ℕ → List ℕ → List ℕ → Result Parsed ParseError → Result Parsed ParseError → Type 0
Holds text at to n m w w' child r =
    (strict : Bool) (b : Lists) (ns : List ℕ) → Reads strict text to (n + (to - at)) m b (lists w ns) child → Reads strict text at n m b (lists w' ns) r

-- ---- The fields of a container.

pub record ItemsFound (text : List ℕ) (n m : ℕ) (before after : Lists) (to k l : ℕ) (q : R.Items) : Type 0 where
  pub trees : Trees
  pub is : q ≡ items trees (drop to text)
  pub count-is : k ≡ n + count trees
  pub names-is : l ≡ m + length (names_of trees)
  pub words_are : after.words ≡ sets before.words (4 * n) (nodes trees m)
  pub names-are : after.names ≡ sets before.names m (names_of trees)

abbrev pub ItemsIs : List ℕ → ℕ → ℕ → Lists → Lists → Result (ℕ × ℕ × ℕ) ParseError → R.Items → Type 0
ItemsIs text n m b a (Ok (to, k, l)) q = ItemsFound text n m b a to k l q
ItemsIs text n m b a (Err e) q = q ≡ items_refused e.«kind» (drop e.«split_point» text)

pub record ItemsBound (text : List ℕ) (at n m to k l : ℕ) : Type 0 where
  pub onward : at < to
  pub within : to ≤ length text
  pub more : n ≤ k
  pub room : k + (length text - to) + 1 ≤ n + slack (drop at text)
  pub names-on : m ≤ l
  pub names-room : l + (length text - to) ≤ m + (length text - at)

abbrev pub ItemsWithin : List ℕ → ℕ → ℕ → ℕ → Lists → Lists → Result (ℕ × ℕ × ℕ) ParseError → Type 0
ItemsWithin text at n m b a (Ok (to, k, l)) = ItemsBound text at n m to k l
ItemsWithin text at n m b a (Err e) = (e.«split_point» ≤ length text) × Frame text at n m b a

pub record ItemsReads (strict : Bool) (text : List ℕ) (at : ℕ) (kind : ContainerKind) (n m : ℕ) (before after : Lists) (r : Result (ℕ × ℕ × ℕ) ParseError) : Type 0 where
  pub bound : ItemsWithin text at n m before after r
  pub says : (f : ℕ) → length (drop at text) + length (drop at text) < f → ItemsIs text n m before after r (parse_items_by strict f kind (drop at text))

-- Codes stand from `at` on up to `to`, and `w'` has their nodes: whatever the fields from `to` on give, those from `at` on give.
pub record CodesRead (text : List ℕ) (at n : ℕ) (w w' : List ℕ) (to : ℕ) : Type 0 where
  pub onward : at ≤ to
  pub within : to ≤ length text
  pub room : to - at + slack (drop to text) ≤ slack (drop at text)
  pub reads : (strict : Bool) (kind : ContainerKind) (m : ℕ) (ns : List ℕ) (z : Lists) (i : Result (ℕ × ℕ × ℕ) ParseError)
      → ItemsReads strict text to kind (n + (to - at)) m (lists w' ns) z i → ItemsReads strict text at kind n m (lists w ns) z i

-- A container is to be read: its opening byte is at the place.
pub record ContainerReady (text : List ℕ) (at : ℕ) (kind : ContainerKind) (n m : ℕ) (before : Lists) : Type 0 where
  pub ready : Ready text at n m before
  pub at_byte : at < length text
  pub opens : start (get_or text at 0) ≡ R.open_container kind

-- ---- The whole text.

-- A tree at the start of the text, its sheet written and zeros up to what reading uses.
pub record TreeAt (strict : Bool) (text : List ℕ) (before after : Lists) (to : ℕ) : Type 0 where
  pub away : turned_away text before.words before.names ≡ None
  pub label : Label
  pub children : Trees
  pub is : encoded_by strict text ≡ R.encoded label children (drop to text)
  pub words-room : used (length text) ≤ length before.words
  pub names-room : length text ≤ length before.names
  pub within : to ≤ length text
  pub words_are : after.words ≡ filled (used (length text)) (sheet_of (node label children end)) before.words
  pub names-are : after.names ≡ filled (length text) (names_of (node label children end)) before.names
  pub words-fit : length (sheet_of (node label children end)) ≤ used (length text)
  pub names-fit : length (names_of (node label children end)) ≤ length text

-- No tree, and zeros in what reading uses.
pub record NoTree (strict : Bool) (text : List ℕ) (before after : Lists) (why : ErrorKind) (to : ℕ) : Type 0 where
  pub away : turned_away text before.words before.names ≡ None
  pub is : encoded_by strict text ≡ R.not_encoded why (drop to text)
  pub words-room : used (length text) ≤ length before.words
  pub names-room : length text ≤ length before.names
  pub within : to ≤ length text
  pub words_are : after.words ≡ filled (used (length text)) [] before.words
  pub names-are : after.names ≡ filled (length text) [] before.names

abbrev pub EncodedIs : Bool → List ℕ → Lists → Lists → Result ℕ NotRead → Type 0
EncodedIs strict text b a (Ok to) = TreeAt strict text b a to
EncodedIs strict text b a (Err (Away why)) = (turned_away text b.words b.names ≡ Some why) × Kept b a
EncodedIs strict text b a (Err (Refused e)) = NoTree strict text b a e.«kind» e.«split_point»
