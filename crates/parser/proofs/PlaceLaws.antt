-- Laws of the places of a text.
use Prim.Native.Nat.{ℕ, zero, suc, ◌+◌, ◌-◌, ◌≤◌, ◌<◌}
use mathlib.Core.Path.{◌≡◌, refl, sym, ap, ap₂, ◌∙◌}
use mathlib.Core.List.{List, [], ◌∷◌}
use mathlib.Core.Bool.{Bool, true, false}
use native.Mathlib.Nat.{sub_self, zero-add, suc-add}
use native.Mathlib.Omega.{arith}
use lib.ListN.{length, take, drop, get_or, length-drop, drop_of_length-le}
use lib.Seq.{drop-nil, drop-length}
use denote.Ref.{Bor}
use borrow.Author.Rules.{part_to_end}
use Rattle.kinds.specs.Parse.{is_qualifier, strip_leading_qualifiers}
use Rattle.kinds.proofs.ParseLaws.{strip-shorter}
use borrow.Author.Tests.{lt-ltb, le-ltb}
use Rattle.parser.specs.Place.{end_of, remaining_at, peek_at, advance_at, strip_at}
use Rattle.parser.specs.Run.{run_end}
use Rattle.parser.specs.Answer.{new_parser, remaining, strip_qualifiers, skip_qualifiers}
use Rattle.std.specs.Prelude.{Some, None}
use Rattle.parser.proofs.TextLaws.{strip-run}

pub peek-byte : (s : List ℕ) (at : ℕ) → at < length s → peek_at s at ≡ Some (get_or s at 0)
unfolding peek_at
peek-byte s at h = rw (lt-ltb at (length s) h, peek_at) refl

pub peek-end : (s : List ℕ) (at : ℕ) → length s ≤ at → peek_at s at ≡ None
unfolding peek_at
peek-end s at h = rw (le-ltb at (length s) h, peek_at) refl

pub advance-on : (s : List ℕ) (at : ℕ) → at < length s → advance_at s at ≡ at + 1
unfolding advance_at
advance-on s at h = rw (lt-ltb at (length s) h, advance_at) refl

pub advance-stays : (s : List ℕ) (at : ℕ) → length s ≤ at → advance_at s at ≡ at
unfolding advance_at
advance-stays s at h = rw (le-ltb at (length s) h, advance_at) refl

-- The place after the qualifiers is the end of their run.
pub strip-at-run : (s : List ℕ) (at : ℕ) → run_end is_qualifier s at ≡ strip_at s at
unfolding strip_at run_end
strip-at-run s at = ap (λ (t : List ℕ). at + (length (drop at s) - length t)) (sym (strip-run (drop at s)))

-- What stripping leaves is the list from a place on.
pub strip-leaves : (s : List ℕ) → drop (length s - length (strip_leading_qualifiers s)) s ≡ strip_leading_qualifiers s
unfolding strip_leading_qualifiers
strip-leaves [] = refl
strip-leaves (b ∷ s) = go (is_qualifier b) (strip-leaves s)
  where
    longer : (n m : ℕ) → m ≤ n → suc n - m ≡ suc (n - m)
    longer n m h = omega arith

    go : (y : Bool) → drop (length s - length (strip_leading_qualifiers s)) s ≡ strip_leading_qualifiers s
        → drop (suc (length s) - length {A = ℕ} (elim y [ true ↦ strip_leading_qualifiers s | false ↦ b ∷ s ])) (b ∷ s) ≡ (elim y [ true ↦ strip_leading_qualifiers s | false ↦ b ∷ s ])
    go true h = ap (λ (k : ℕ). drop k (b ∷ s)) (longer (length s) (length (strip_leading_qualifiers s)) (strip-shorter s)) ∙ h
    go false h = ap (λ (k : ℕ). drop k (b ∷ s)) (sub_self (suc (length s)))

-- The place after the qualifiers.
pub strip-place : (s : List ℕ) (at : ℕ) → at ≡ length s - length (strip_leading_qualifiers s) → (drop at s ≡ strip_leading_qualifiers s) × (at ≤ length s)
strip-place s at e = (ap (λ (k : ℕ). drop k s) e ∙ strip-leaves s, omega arith)

pub drop-on : (a b : ℕ) (s : List ℕ) → drop (a + b) s ≡ drop b (drop a s)
drop-on zero b s = ap (λ (k : ℕ). drop k s) (zero-add b)
drop-on (suc a) b [] = drop-nil (suc a + b) ∙ sym (drop-nil b)
drop-on (suc a) b (x ∷ s) = ap (λ (k : ℕ). drop k (x ∷ s)) (suc-add a b) ∙ drop-on a b s

-- What is unread at the place after the qualifiers is what stripping leaves of what was unread.
pub unread-stripped : (s : List ℕ) (at : ℕ) → drop (strip_at s at) s ≡ strip_leading_qualifiers (drop at s)
unfolding strip_at
unread-stripped s at = drop-on at _ s ∙ strip-leaves (drop at s)

-- The part of a lent text from a place on is what remains there.
pub part-remains : (s : Bor (List ℕ)) (at : ℕ) → at ≤ length s.now → ((s.ref_ptr.0, at + s.ref_ptr.1), take (length s.now - at) (drop at s.now)) ≡ remaining_at s at
unfolding remaining_at end_of
part-remains s at h = ap₂ (λ (o : ℕ) (t : List ℕ). ((s.ref_ptr.0, o), t)) further (part_to_end s.now at)
  where
    further : at + s.ref_ptr.1 ≡ s.ref_ptr.1 + (length s.now - length (drop at s.now))
    further = omega (arith, length-drop at s.now)

-- Its bytes are those from there on.
pub remains-bytes : {p : ℕ × ℕ} {t : List ℕ} (s : Bor (List ℕ)) (at : ℕ) → (p, t) ≡ remaining_at s at → t ≡ drop at s.now
unfolding remaining_at end_of
remains-bytes s at e = ap (λ (x : (ℕ × ℕ) × List ℕ). x.1) e

pub end-remains : (s : Bor (List ℕ)) (at : ℕ) → length s.now ≤ at → remaining_at s (length s.now) ≡ remaining_at s at
unfolding remaining_at
end-remains s at h = ap (end_of s) (drop-length s.now ∙ sym (drop_of_length-le s.now h))

-- What remains at the place after the qualifiers of a whole text.
pub stripped-remains : (s : Bor (List ℕ)) → remaining (strip_qualifiers (new_parser s)) ≡ skip_qualifiers s
unfolding remaining_at skip_qualifiers
stripped-remains s = ap (end_of s) (unread-stripped s.now 0)

pub strip-at-within : (s : List ℕ) (at r : ℕ) → at ≤ length s → r ≡ strip_at s at → r ≤ length s
unfolding strip_at
strip-at-within s at r h e = omega (arith, length-drop at s)
