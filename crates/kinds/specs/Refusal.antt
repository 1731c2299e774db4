-- Why an input is turned away (01, "Why an input is turned away"; 16 to 18 are 02's, N1, 19 is N3's, 20 N5's and N6's, and 21 N7's, whose place is the number of a node): the number of each refusal and the values that it carries.
use Rattle.std.specs.Prelude.{ℕ, List, [], ◌∷◌}
use Rattle.std.specs.Prelude.{Option, Some, None, unwrap_or}
use Rattle.kinds.specs.declared.ContainerKind.{ContainerKind}
use Rattle.kinds.specs.declared.ContainerKind.TheVariants.{Struct, Union}
use Rattle.kinds.specs.declared.ErrorKind.TheVariants as E
use Rattle.kinds.specs.declared.ErrorKind.{ErrorKind}
use Rattle.kinds.specs.declared.ParseError.{ParseError}
use Rattle.kinds.specs.declared.Refusal.{Refusal}
use Rattle.kinds.specs.declared.Refusal.TheVariants as R

-- What a refusal is made of: its number, and the place, the byte and the container where it carries them.
pub record Row : Type 0 where
  pub its-number : ℕ
  pub its-place : Option ℕ
  pub its-byte : Option ℕ
  pub its-container : Option ContainerKind

abbrev pub plain : ℕ → Row
plain n = record { its-number = n; its-place = None; its-byte = None; its-container = None }

abbrev pub placed : ℕ → ℕ → Row
placed n at = record { its-number = n; its-place = Some at; its-byte = None; its-container = None }

abbrev pub with_byte : ℕ → ℕ → ℕ → Row
with_byte n at b = record { its-number = n; its-place = Some at; its-byte = Some b; its-container = None }

abbrev pub within : ℕ → ℕ → ContainerKind → Row
within n at k = record { its-number = n; its-place = Some at; its-byte = None; its-container = Some k }

-- The table. A refusal more is its name in an enum, its row here and its row in the code's `words`.
abbrev pub row : Refusal → Row
row R.TextTooLong = plain 1
row R.ListTooShort = plain 2
row R.NotASheet = plain 3
row R.BadName = plain 4
row R.OutputTooShort = plain 5
row R.SizeTooLarge = plain 6
row (R.Parse E.UnexpectedEnd at) = placed 7 at
row (R.Parse (E.Unknown b) at) = with_byte 8 at b
row (R.Parse (E.UnknownAfterComplex b) at) = with_byte 9 at b
row (R.Parse E.ExpectedInteger at) = placed 10 at
row (R.Parse E.IntegerTooLarge at) = placed 11 at
row (R.Parse E.WrongEndArray at) = placed 12 at
row (R.Parse (E.WrongEndContainer k) at) = within 13 at k
row (R.Parse (E.InvalidIdentifier k) at) = within 14 at k
row (R.Parse E.NotAllConsumed at) = placed 15 at
row (R.Parse E.SurplusZero at) = placed 19 at
row (R.ExpectedOffset at) = placed 16 at
row (R.OffsetTooLarge at) = placed 17 at
row R.EmptySignature = plain 18
row R.NoSuchRow = plain 20
row (R.BitFieldInLayout node) = placed 21 node

abbrev pub number : Refusal → ℕ
number r = (row r).its-number

abbrev pub place : Refusal → Option ℕ
place r = (row r).its-place

abbrev pub refused_byte : Refusal → Option ℕ
refused_byte r = (row r).its-byte

abbrev pub refused_container : Refusal → Option ContainerKind
refused_container r = (row r).its-container

-- Why text cannot be read, and where.
abbrev pub parse_error : ErrorKind → ℕ → ParseError
parse_error e at = record { «kind» = e; «split_point» = at }

-- ---- The same as plain numbers, 0 where a refusal carries none; a container by its kind word.

abbrev pub container_word : Option ContainerKind → ℕ
container_word None = 0
container_word (Some Struct) = 29
container_word (Some Union) = 30

-- Place, byte and container.
abbrev pub values : Refusal → List ℕ
values r = unwrap_or (place r) 0 ∷ unwrap_or (refused_byte r) 0 ∷ container_word (refused_container r) ∷ []

-- The number and these.
abbrev pub words : Refusal → List ℕ
words r = number r ∷ values r
