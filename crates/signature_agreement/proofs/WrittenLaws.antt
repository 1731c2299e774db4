-- A signature that is written from trees and numbers is read back.
use Prim.Native.Nat.{ℕ, zero, suc, ◌+◌, ◌-◌, ◌≤◌}
use mathlib.Core.Path.{◌≡◌, refl, ap₂, subst, ◌∙◌}
use mathlib.Core.List.{List, [], ◌∷◌, ◌++◌, append-nil, append_assoc}
use mathlib.Core.Bool.{true, false, ◌&&◌, not, false≢true}
use native.Mathlib.Omega.{arith}
use lib.Dec.{leb}
use lib.ListN.{length, length-append}
use lib.Seq.{take_at, drop_at}
use borrow.Author.Tests.{leb-true, not-true}
use Rattle.kinds.specs.Byte.{among, starts_digit}
use Rattle.kinds.specs.Parse.{max_u32, encoded, encoding_or_none, parse_encoding_or_none, parse, qualifiers, is_qualifier, strip_leading_qualifiers, from_start}
use Rattle.kinds.specs.Print.{decimal, print_node, print}
use Rattle.kinds.specs.Tree.{Label, Trees, end, node, inside, shows, keep, shown, is_end, is_one}
use Rattle.kinds.specs.declared.NestingLevel.TheVariants.{Top}
use Rattle.kinds.proofs.ParseLaws.{within-limit}
use Rattle.kinds.proofs.TableLaws.{both}
use Rattle.agreement.specs.Sound.{sound}
use Rattle.agreement.proofs.Agreement.{reads-back}
use Rattle.agreement.proofs.ByteLaws.{every}
use Rattle.agreement.proofs.DigitLaws.{decimal-start, read-decimal}
use Rattle.agreement.proofs.FitLaws.{fit_parts, sound-parts}
use Rattle.agreement.proofs.FollowLaws.{next_bytes, may_follow, next-byte, no_digit, trees-follow}
use Rattle.agreement.proofs.RoundTrip.{clear-parts, print-one}
use Rattle.signature.specs.Signature.{entry, entries, type_from_start, offset, limited, parse_offset, add_entry, number_then, type_then, signature_from, signature}
use Rattle.signature_agreement.specs.Pieces.{piece}
use Rattle.signature_agreement.specs.Written.{Item, written, not_empty, ends_open, writable, all_writable, entries_for, PiecesRead}
use Rattle.signature_agreement.proofs.PrintLaws.{first_piece}

-- ---- Texts that are not empty.

some_byte : (s : List ℕ) → not_empty s ≡ true → 1 ≤ length s
unfolding not_empty
some_byte [] h = absurd (false≢true h)
some_byte (b ∷ s) h = omega arith

append-some : (s r : List ℕ) → not_empty s ≡ true → not_empty (s ++ r) ≡ true
unfolding not_empty
append-some [] r h = absurd (false≢true h)
append-some (b ∷ s) r h = refl

unqualified : (s r : List ℕ) → may_follow s ≡ true → not_empty s ≡ true → strip_leading_qualifiers (s ++ r) ≡ s ++ r
unfolding strip_leading_qualifiers is_qualifier qualifiers next_bytes every among not_empty
unqualified [] r h k = absurd (false≢true k)
unqualified (b ∷ s) r h k = rw (not-true (is_qualifier b) (next-byte (λ x. not (is_qualifier x)) refl b s h), strip_leading_qualifiers)

not_digit : (s r : List ℕ) → may_follow s ≡ true → not_empty s ≡ true → starts_digit (s ++ r) ≡ false
unfolding starts_digit not_empty
not_digit [] r h k = absurd (false≢true k)
not_digit (b ∷ s) r h k = no_digit (b ∷ s) h

-- ---- One type and its number.

-- What a type that can be written is read as.
record PieceOf (A : Trees) (r : List ℕ) : Type 0 where
  label : Label
  children : Trees
  reads : parse_encoding_or_none (print Top A ++ r) ≡ encoded label children r

follows : (A : Trees) → sound A ≡ true → may_follow (print Top A) ≡ true
unfolding may_follow
follows A h = rw append-nil at (trees-follow Top A [] (sound-parts A h).1 refl)

piece_of : (A : Trees) (r : List ℕ) → sound A ≡ true → not_empty (print Top A) ≡ true → ends_open (print Top A) ≡ false → starts_digit r ≡ true → PieceOf A r
unfolding is_one is_end print parse_encoding_or_none parse encoding_or_none
piece_of end r h k o d = absurd (false≢true (sound-parts end h).0)
piece_of (node l cs (node m ds us)) r h k o d = absurd (false≢true (sound-parts (node l cs (node m ds us)) h).0)
piece_of (node l cs end) r h k o d =
    let p = sound-parts (node l cs end) h in
    let g = fit_parts l cs end p.1 in
    let s = print_node l Top (print (inside l Top) cs) ++ r in
    let read = first_piece (node l cs end) Top r (length s + length s) d g.0 g.1 g.2 (clear-parts Top l cs end [] p.2).0 (rw append-nil at k) (rw append-nil at o)
    (omega arith) in
    record { label = l; children = keep (shows l Top) (shown (inside l Top) cs); reads = rw (unqualified (print Top (node l cs end)) r (follows (node l cs end) h) k, print-one Top l cs r, read) }

offset-decimal : (n v : ℕ) (r : List ℕ) → starts_digit r ≡ false → v ≤ max_u32 → parse_offset n (decimal v ++ r) ≡ offset v r
unfolding parse_offset limited
offset-decimal n v r d h = rw (read-decimal max_u32 v r d ∙ within-limit max_u32 v r h)

one_entry : (f n : ℕ) (s : List ℕ) (l : Label) (cs : Trees) (t : List ℕ) (v : ℕ) (u : List ℕ) → not_empty s ≡ true → parse_encoding_or_none s ≡ encoded l cs t → parse_offset n t ≡ offset v u
    → signature_from (suc f) n s ≡ add_entry (entry (n - length s) (length s - length t) v) (signature_from f n u)
unfolding not_empty signature_from type_then type_from_start from_start number_then
one_entry f n [] l cs t v u k e o = absurd (false≢true k)
one_entry f n (b ∷ s) l cs t v u k e o = rw (e, o)

-- ---- All of them.

record Writable (x : Item) : Type 0 where
  is-sound : sound x.0 ≡ true
  some-print : not_empty (print Top x.0) ≡ true
  shut : ends_open (print Top x.0) ≡ false
  small : x.1 ≤ max_u32

writable-parts : (x : Item) → writable x ≡ true → Writable x
unfolding writable
writable-parts x h =
    let P = print Top x.0 in
    let a = both (sound x.0) (not_empty P && (not (ends_open P) && leb x.1 max_u32)) h in
    let b = both (not_empty P) (not (ends_open P) && leb x.1 max_u32) a.1 in
    let c = both (not (ends_open P)) (leb x.1 max_u32) b.1 in
    record { is-sound = a.0; some-print = b.0; shut = not-true (ends_open P) c.0; small = leb-true x.1 max_u32 c.1 }

all-parts : (x : Item) (xs : List Item) → all_writable (x ∷ xs) ≡ true → Writable x × (all_writable xs ≡ true)
unfolding all_writable
all-parts x xs h = let a = both (writable x) (all_writable xs) h in (writable-parts x a.0, a.1)

written_start : (xs : List Item) → all_writable xs ≡ true → starts_digit (written xs) ≡ false
unfolding written starts_digit
written_start [] h = refl
written_start (x ∷ xs) h =
    let w = (all-parts x xs h).0 in
    not_digit (print Top x.0) (decimal x.1 ++ written xs) (follows x.0 w.is-sound) w.some-print

read-written : (xs : List Item) → all_writable xs ≡ true → (f n at : ℕ) → length (written xs) ≤ f → at + length (written xs) ≡ n → signature_from f n (written xs) ≡ entries (entries_for at xs)
unfolding written signature_from entries_for add_entry
read-written [] h zero n at l e = refl
read-written [] h (suc f) n at l e = refl
read-written (x ∷ xs) h zero n at l e =
    absurd (omega (arith, some_byte (print Top x.0) (all-parts x xs h).0.some-print, length-append (print Top x.0) (decimal x.1 ++ written xs)))
read-written (x ∷ xs) h (suc f) n at l e =
    let w = (all-parts x xs h).0 in
    let h' = (all-parts x xs h).1 in
    let P = print Top x.0 in
    let t = decimal x.1 ++ written xs in
    let p = piece_of x.0 t w.is-sound w.some-print w.shut (decimal-start x.1 (written xs)) in
    let a = some_byte P w.some-print in
    let b = length-append P t in
    let c = length-append (decimal x.1) (written xs) in
    one_entry f n (P ++ t) p.label p.children t x.1 (written xs) (append-some P t w.some-print) p.reads (offset-decimal n x.1 (written xs) (written_start xs h') w.small)
    ∙ rw (read-written xs h' f n (at + length P + length (decimal x.1)) (omega arith) (omega arith))
    (ap₂ (λ i j. entries (entry i j x.1 ∷ entries_for (at + length P + length (decimal x.1)) xs)) (omega arith) (omega arith))

signature-some : (s : List ℕ) → not_empty s ≡ true → signature s ≡ signature_from (length s) (length s) s
unfolding not_empty signature
signature-some [] h = absurd (false≢true h)
signature-some (b ∷ s) h = refl

pub written_read : (x : Item) (xs : List Item) → all_writable (x ∷ xs) ≡ true → signature (written (x ∷ xs)) ≡ entries (entries_for 0 (x ∷ xs))
unfolding written
written_read x xs h =
    let s = written (x ∷ xs) in
    signature-some s (append-some (print Top x.0) (decimal x.1 ++ written xs) (all-parts x xs h).0.some-print) ∙ read-written (x ∷ xs) h (length s) (length s) 0 (omega arith) (omega arith)

-- ---- The pieces.

piece-at : (p s t : List ℕ) (at number : ℕ) → length p ≡ at → piece (p ++ (s ++ t)) (entry at (length s) number) ≡ s
unfolding piece
piece-at p s t at number h = rw (drop_at p (s ++ t) at h) (take_at s t (length s) refl)

pieces-at : (xs : List Item) → all_writable xs ≡ true → (p : List ℕ) (at : ℕ) → length p ≡ at → PiecesRead (p ++ written xs) (entries_for at xs) xs
unfolding written entries_for
pieces-at [] h p at e = tt
pieces-at (x ∷ xs) h p at e =
    let w = (all-parts x xs h).0 in
    let P = print Top x.0 in
    let d = decimal x.1 in
    let i = piece-at p P (d ++ written xs) at x.1 e in
    let q : (p ++ (P ++ d)) ++ written xs ≡ p ++ (P ++ (d ++ written xs)) = simp append_assoc in (
      i,
      rw i (reads-back x.0 w.is-sound),
      subst (λ s. PiecesRead s (entries_for (at + length P + length d) xs) xs) q
          (pieces-at xs (all-parts x xs h).1 (p ++ (P ++ d)) (at + length P + length d) (omega (arith, length-append p (P ++ d), length-append P d))),
    )

pub pieces-read : (xs : List Item) → all_writable xs ≡ true → PiecesRead (written xs) (entries_for 0 xs) xs
pieces-read xs h = pieces-at xs h [] 0 refl
