-- A signature written from trees and numbers, and the entries that it should have.
use Rattle.std.specs.Prelude.{ℕ, ◌+◌, ◌≡◌, Bool, true, false, ◌&&◌, ◌||◌, not, List, [], ◌∷◌, ◌++◌, leb, length}
use Rattle.kinds.specs.Byte.{bytes, among, is_digit}
use Rattle.kinds.specs.Parse.{max_u32}
use Rattle.kinds.specs.Print.{decimal, print}
use Rattle.kinds.specs.Tree.{Trees, shown}
use Rattle.kinds.specs.declared.NestingLevel.TheVariants.{Top}
use Rattle.agreement.specs.ReadTree.{read_tree}
use Rattle.agreement.specs.Sound.{sound}
use Rattle.signature.specs.Signature.{Entry, entry}
use Rattle.signature_agreement.specs.Pieces.{piece}

-- A type and its number.
abbrev pub Item : Type 0
Item = Trees × ℕ

-- Each tree's print, with its number in decimal behind it.
unfoldable pub written : List Item → List ℕ
written [] = []
written (x ∷ xs) = print Top x.0 ++ (decimal x.1 ++ written xs)

unfoldable pub not_empty : List ℕ → Bool
not_empty [] = false
not_empty (b ∷ s) = true

-- The text ends in a digit, `^` or `A`: a number behind it would be read as more of it.
unfoldable pub ends_open : List ℕ → Bool
ends_open [] = false
ends_open (b ∷ []) = is_digit b || among b (bytes "^A")
ends_open (b ∷ c ∷ s) = ends_open (c ∷ s)

-- The tree is sound, its print is not empty and does not end so, and the number has at most 32 bits.
unfoldable pub writable : Item → Bool
writable x = sound x.0 && (not_empty (print Top x.0) && (not (ends_open (print Top x.0)) && leb x.1 max_u32))

unfoldable pub all_writable : List Item → Bool
all_writable [] = true
all_writable (x ∷ xs) = writable x && all_writable xs

-- One entry for each, the first at the place `at`.
unfoldable pub entries_for : ℕ → List Item → List Entry
entries_for at [] = []
entries_for at (x ∷ xs) = entry at (length (print Top x.0)) x.1 ∷ entries_for (at + length (print Top x.0) + length (decimal x.1)) xs

-- Each entry's piece is read as the shown part of its tree.
abbrev pub PiecesRead : List ℕ → List Entry → List Item → Type 0
PiecesRead s [] [] = Unit {0}
PiecesRead s [] (x ∷ xs) = ⊥
PiecesRead s (e ∷ es) [] = ⊥
PiecesRead s (e ∷ es) (x ∷ xs) = (piece s e ≡ print Top x.0) × (read_tree (piece s e) ≡ shown Top x.0) × PiecesRead s es xs
