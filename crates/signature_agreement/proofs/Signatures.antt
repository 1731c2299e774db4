-- What the entries of a signature are good for: the statements over the definition that reading a signature is proved to equal (crate signature).
-- Tilings, pieces, written signatures and the tables are those of specs/. The work is in the files below this one.
use Prim.Native.Nat.{ℕ, ◌/◌, ◌≤◌}
use mathlib.Core.Path.{◌≡◌}
use mathlib.Core.Bool.{true}
use mathlib.Core.List.{List, ◌∷◌}
use lib.ListN.{length}
use Rattle.signature.specs.Signature.{Entry, entries, signature}
use Rattle.signature_agreement.specs.Cases.{cases}
use Rattle.signature_agreement.specs.Cases as C
use Rattle.signature_agreement.specs.Needed.{needed, Ambiguous, NoItem, MethodWritable}
use Rattle.signature_agreement.specs.Needed as N
use Rattle.signature_agreement.specs.Pieces.{EachIsType}
use Rattle.signature_agreement.specs.Tiling.{Tiles}
use Rattle.signature_agreement.specs.Written.{Item, written, all_writable, entries_for, PiecesRead}
use Rattle.signature_agreement.proofs.CasesHold.{all_hold}
use Rattle.signature_agreement.proofs.NeededHold.{all-needed}
use Rattle.signature_agreement.proofs.PieceLaws.{types}
use Rattle.signature_agreement.proofs.TilingLaws.{tiled, few}
use Rattle.signature_agreement.proofs.WrittenLaws.{written_read, pieces-read}

-- The first entry starts at 0, each next one right behind the digits of the one before, and the last digits end the signature. Every type has at
-- least one byte and every number at least one digit; a number is the value of its digits and at most 4,294,967,295.
pub entries-tile : (s : List ℕ) (es : List Entry) → signature s ≡ entries es → Tiles s 0 es
entries-tile = tiled

-- So half as many entries as bytes are enough.
pub few-entries : (s : List ℕ) (es : List Entry) → signature s ≡ entries es → length es ≤ length s / 2
few-entries = few

-- The bytes of every entry, cut out and put to whole-text reading, are accepted, and give the tree that reading from the start gives at their place.
pub pieces-are-types : (s : List ℕ) (es : List Entry) → signature s ≡ entries es → EachIsType s es
pieces-are-types = types

-- Prints of sound trees, each not empty and not ending in a digit, `^` or `A`, with a number of at most 32 bits behind each, are read back as
-- exactly these pieces and numbers.
pub reads-written : (x : Item) (xs : List Item) → all_writable (x ∷ xs) ≡ true → signature (written (x ∷ xs)) ≡ entries (entries_for 0 (x ∷ xs))
reads-written = written_read

-- And each piece is its tree's print, and is read as the tree's shown part.
pub reads-pieces : (xs : List Item) → all_writable xs ≡ true → PiecesRead (written xs) (entries_for 0 xs) xs
reads-pieces = pieces-read

-- Each of these conditions is needed, and a method's signature meets them.
pub conditions-needed : N.AllHold needed × Ambiguous × NoItem × MethodWritable
conditions-needed = all-needed

-- Each case of the table holds.
pub signature-cases : C.AllHold cases
signature-cases = all_hold
