-- What the private functions of skipping promise: their outcome, against what reading gives at the same place.
use Rattle.std.specs.Prelude.{ℕ, ◌+◌, ◌≤◌, ◌<◌, ◌≡◌, Bool, false, cond, not, ◌&&◌, List, [], ◌∷◌, eqb, length, drop, get_or}
use Rattle.kinds.specs.Byte.{byte}
use Rattle.kinds.specs.Container.{end_byte, same_container}
use Rattle.kinds.specs.Parse as R
use Rattle.kinds.specs.Parse.{empty, encoding, container_end, array_end, refused, items, items_refused, parse_inner, parse_items, start}
use Rattle.kinds.specs.Tree.{Label, Trees}
use Rattle.kinds.specs.declared.ContainerKind.{ContainerKind}
use Rattle.kinds.specs.declared.ErrorKind.TheVariants.{WrongEndArray, WrongEndContainer, Unknown}
use Rattle.codes.specs.Answer.{closed, is_indirection}
use Rattle.codes.specs.declared.Token.{Token}
use Rattle.codes.specs.declared.Token.TheVariants as T
use Rattle.skip.specs.declared.Skipped.{Skipped}
use Rattle.skip.specs.declared.Skipped.TheVariants.{Empty, Encoding, ContainerEnd, ArrayEnd}
use Rattle.std.specs.Prelude.{Result, Ok, Err}
use Rattle.kinds.specs.Refusal.{parse_error}
use Rattle.kinds.specs.declared.ParseError.{ParseError}

-- A tree was passed, whichever it is.
pub record Passed (text : List ℕ) (to : ℕ) (q : R.Parsed) : Type 0 where
  pub label : Label
  pub children : Trees
  pub is : q ≡ encoding label children (drop to text)

abbrev pub SkippedIs : List ℕ → Result Skipped ParseError → R.Parsed → Type 0
SkippedIs text (Ok Empty) q = q ≡ empty
SkippedIs text (Ok (Encoding to)) q = Passed text to q
SkippedIs text (Ok (ContainerEnd kind to)) q = q ≡ container_end kind (drop to text)
SkippedIs text (Ok (ArrayEnd to)) q = q ≡ array_end (drop to text)
SkippedIs text (Err e) q = q ≡ refused e.«kind» (drop e.«split_point» text)

-- A place after `at`, within the text.
abbrev pub Beyond : List ℕ → ℕ → ℕ → Type 0
Beyond text at to = (at < to) × (to ≤ length text)

abbrev pub SkipBound : List ℕ → ℕ → Result Skipped ParseError → Type 0
SkipBound text at (Ok Empty) = at ≡ length text
SkipBound text at (Ok (Encoding to)) = Beyond text at to
SkipBound text at (Ok (ContainerEnd kind to)) = Beyond text at to
SkipBound text at (Ok (ArrayEnd to)) = Beyond text at to
SkipBound text at (Err e) = e.«split_point» ≤ length text

-- The outcome of skipping at a place, whatever the fuel.
pub record Skips (text : List ℕ) (at : ℕ) (r : Result Skipped ParseError) : Type 0 where
  pub bound : SkipBound text at r
  pub says : (f : ℕ) → length (drop at text) + length (drop at text) ≤ f → SkippedIs text r (parse_inner f (drop at text))

-- Fields were passed, whichever they are.
pub record PassedItems (text : List ℕ) (to : ℕ) (q : R.Items) : Type 0 where
  pub trees : Trees
  pub is : q ≡ items trees (drop to text)

abbrev pub SkippedItemsIs : List ℕ → Result ℕ ParseError → R.Items → Type 0
SkippedItemsIs text (Ok to) q = PassedItems text to q
SkippedItemsIs text (Err e) q = q ≡ items_refused e.«kind» (drop e.«split_point» text)

abbrev pub SkipItemsBound : List ℕ → ℕ → Result ℕ ParseError → Type 0
SkipItemsBound text at (Ok to) = Beyond text at to
SkipItemsBound text at (Err e) = e.«split_point» ≤ length text

pub record SkipsItems (text : List ℕ) (at : ℕ) (kind : ContainerKind) (r : Result ℕ ParseError) : Type 0 where
  pub bound : SkipItemsBound text at r
  pub says : (f : ℕ) → length (drop at text) + length (drop at text) < f → SkippedItemsIs text r (parse_items f kind (drop at text))

-- No pointer or atomic stands at the place.
pub record OneAt (text : List ℕ) (at : ℕ) : Type 0 where
  pub at_place : at < length text
  pub direct : is_indirection (get_or text at 0) ≡ false

-- A container is to be skipped: its opening byte is at the place.
pub record OpensAt (text : List ℕ) (at : ℕ) (kind : ContainerKind) : Type 0 where
  pub at_place : at < length text
  pub opens : start (get_or text at 0) ≡ R.open_container kind

-- ---- What ends a step.

abbrev pub token_skipped : Token → Result Skipped ParseError
token_skipped (T.Primitive p to) = Ok (Encoding to)
token_skipped (T.BitField n to d) = Ok (Encoding to)
token_skipped (T.TypedBitField o p n to d) = Ok (Encoding to)
token_skipped (T.ArrayEnd to) = Ok (ArrayEnd to)
token_skipped (T.ContainerEnd kind to) = Ok (ContainerEnd kind to)
token_skipped (T.Refused why to d) = Err (parse_error why to)
token_skipped T.Parts = Ok Empty
token_skipped T.End = Ok Empty

-- Under a pointer or an atomic: a closer is given back.
abbrev pub under_skipped : Skipped → ℕ → Skipped
under_skipped Empty to = Encoding to
under_skipped (Encoding end) to = Encoding end
under_skipped (ContainerEnd kind end) to = Encoding to
under_skipped (ArrayEnd end) to = Encoding to

abbrev pub held_skipped : Skipped → ℕ → ℕ → Skipped
held_skipped s at to = cond (eqb at to) s (under_skipped s to)

-- An array's item and its closer.
abbrev pub item_skipped : Skipped → List ℕ → Result Skipped ParseError
item_skipped Empty text = Err (parse_error WrongEndArray (length text))
item_skipped (Encoding to) text = cond (closed text to) (Ok (Encoding (to + 1))) (Err (parse_error WrongEndArray to))
item_skipped (ContainerEnd kind to) text = Err (parse_error (Unknown (end_byte kind)) to)
item_skipped (ArrayEnd to) text = Ok (Encoding to)

-- What ends a container's fields.
abbrev pub end_skipped : Skipped → List ℕ → ContainerKind → Result ℕ ParseError
end_skipped Empty text kind = Err (parse_error (WrongEndContainer kind) (length text))
end_skipped (Encoding to) text kind = Ok to
end_skipped (ContainerEnd other to) text kind = cond (same_container kind other) (Ok to) (Err (parse_error (Unknown (end_byte other)) to))
end_skipped (ArrayEnd to) text kind = Err (parse_error (Unknown (byte "]")) to)

-- ---- The answers.

-- A type on its own: nothing is left where None stands, and a closer stands for no type.
abbrev pub encoding_of : Skipped → List ℕ → Result ℕ ParseError
encoding_of Empty text = Ok (length text)
encoding_of (Encoding to) text = Ok to
encoding_of (ContainerEnd kind to) text = Err (parse_error (Unknown (end_byte kind)) to)
encoding_of (ArrayEnd to) text = Err (parse_error (Unknown (byte "]")) to)

-- An object ends before this byte: it is no block and has no class name.
abbrev pub ends_object : ℕ → Bool
ends_object b = not (eqb b (byte "?")) && not (eqb b (byte "\""))

-- An object of one byte, before the text `s`.
abbrev pub object_alone : ℕ → List ℕ → Bool
object_alone b [] = eqb b (byte "@")
object_alone b (c ∷ s) = eqb b (byte "@") && ends_object c
