-- The letters of the guide's qualifiers are what is dropped at the start of a text.
use Prim.Native.Nat.{ℕ}
use mathlib.Core.Path.{◌≡◌, refl, ◌∙◌}
use mathlib.Core.List.{List, [], ◌∷◌, ◌++◌}
use mathlib.Core.Bool.{Bool, true, false}
use mathlib.Core.Logic.{◌↔◌}
use lib.ListN.{length}
use Rattle.kinds.proofs.TableLaws.{each}
use Rattle.kinds.specs.Byte.{among}
use Rattle.kinds.specs.Parse.{Encoded, encoded, not_encoded, whole, qualifiers, is_qualifier, strip_leading_qualifiers, parse_encoding_or_none, from_str}
use Rattle.agreement.specs.ReadTree as A
use Rattle.agreement.specs.ReadTree.{read_tree}
use Rattle.documents.specs.Guide.{Qualifier, const, «in», inout, out, bycopy, byref, oneway, letter, letters}

is-letter : (q : Qualifier) → is_qualifier (letter q) ≡ true
unfolding is_qualifier qualifiers among letter
is-letter const = refl
is-letter «in» = refl
is-letter inout = refl
is-letter out = refl
is-letter bycopy = refl
is-letter byref = refl
is-letter oneway = refl

letter-of : (b : ℕ) → is_qualifier b ≡ true → (q : Qualifier) × (b ≡ letter q)
unfolding is_qualifier qualifiers letter
letter-of b h = each (λ x. (q : Qualifier) × (x ≡ letter q)) qualifiers ((const, refl), ((«in», refl), ((inout, refl), ((out, refl), ((bycopy, refl), ((byref, refl), ((oneway, refl), tt))))))) b h

pub qualifier-letter : (b : ℕ) → (is_qualifier b ≡ true) ↔ ((q : Qualifier) × (b ≡ letter q))
qualifier-letter b = (letter-of b, λ s. rw s.1 (is-letter s.0))

pub letters-dropped : (qs : List Qualifier) (s : List ℕ) → strip_leading_qualifiers (letters qs ++ s) ≡ strip_leading_qualifiers s
unfolding letters strip_leading_qualifiers
letters-dropped [] s = refl
letters-dropped (q ∷ qs) s = rw (is-letter q, strip_leading_qualifiers) (letters-dropped qs s)

other-first : (b : ℕ) (s : List ℕ) → ((q : Qualifier) → b ≡ letter q → ⊥) → strip_leading_qualifiers (b ∷ s) ≡ b ∷ s
unfolding strip_leading_qualifiers
other-first b s no-letter = go (is_qualifier b) refl
  where
    go : (t : Bool) → is_qualifier b ≡ t → strip_leading_qualifiers (b ∷ s) ≡ b ∷ s
    go true e = let l = letter-of b e in absurd (no-letter l.0 l.1)
    go false e = rw (e, strip_leading_qualifiers)

pub other-kept : (qs : List Qualifier) (b : ℕ) (s : List ℕ) → ((q : Qualifier) → b ≡ letter q → ⊥) → strip_leading_qualifiers (letters qs ++ (b ∷ s)) ≡ b ∷ s
other-kept qs b s no-letter = letters-dropped qs (b ∷ s) ∙ other-first b s no-letter

-- The tree that is read does not depend on the text's length.
any-length : (m n : ℕ) (x : Encoded) → A.trees (whole m x) ≡ A.trees (whole n x)
unfolding A.trees whole
any-length m n (encoded l cs []) = refl
any-length m n (encoded l cs (b ∷ t)) = refl
any-length m n (not_encoded e t) = refl

pub qualified-read : (qs : List Qualifier) (s : List ℕ) → read_tree (letters qs ++ s) ≡ read_tree s
unfolding read_tree from_str parse_encoding_or_none
qualified-read qs s = rw (letters-dropped qs s) (any-length (length (letters qs ++ s)) (length s) (parse_encoding_or_none s))
