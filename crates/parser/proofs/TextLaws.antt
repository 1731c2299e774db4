-- Laws of the tests on bytes at a place of a list.
use Prim.Native.Nat.{ℕ, ◌+◌, ◌≤◌, ◌<◌}
use mathlib.Core.Path.{◌≡◌, refl, sym, ap, ◌∙◌}
use mathlib.Core.List.{List, [], ◌∷◌}
use mathlib.Core.Bool.{Bool, true, false}
use lib.ListN.{length, drop, get_or}
use Rattle.kinds.specs.Parse.{is_qualifier, strip_leading_qualifiers}
use Rattle.kinds.proofs.ListLaws.{unread, unread-end}
use Rattle.parser.specs.Run.{after}

pub strip-more : (s : List ℕ) (i : ℕ) → i < length s → is_qualifier (get_or s i 0) ≡ true → strip_leading_qualifiers (drop i s) ≡ strip_leading_qualifiers (drop (i + 1) s)
unfolding strip_leading_qualifiers
strip-more s i h e = ap strip_leading_qualifiers (unread s i h) ∙ rw (e, strip_leading_qualifiers) refl

pub strip-stop : (s : List ℕ) (i : ℕ) → i < length s → is_qualifier (get_or s i 0) ≡ false → strip_leading_qualifiers (drop i s) ≡ drop i s
unfolding strip_leading_qualifiers
strip-stop s i h e = ap strip_leading_qualifiers (unread s i h) ∙ (rw (e, strip_leading_qualifiers) refl) ∙ sym (unread s i h)

pub strip-end : (s : List ℕ) (i : ℕ) → length s ≤ i → strip_leading_qualifiers (drop i s) ≡ drop i s
unfolding strip_leading_qualifiers
strip-end s i h = ap strip_leading_qualifiers (unread-end s i h) ∙ sym (unread-end s i h)

-- Stripping leaves what the run of qualifiers leaves.
pub strip-run : (s : List ℕ) → strip_leading_qualifiers s ≡ after is_qualifier s
unfolding strip_leading_qualifiers after
strip-run [] = refl
strip-run (b ∷ s) = go (is_qualifier b) (strip-run s)
  where
    go : (d : Bool) → strip_leading_qualifiers s ≡ after is_qualifier s
        → ◌≡◌ {A = List ℕ} (elim d [ true ↦ strip_leading_qualifiers s | false ↦ b ∷ s ]) (elim d [ true ↦ after is_qualifier s | false ↦ b ∷ s ])
    go true e = e
    go false e = refl
