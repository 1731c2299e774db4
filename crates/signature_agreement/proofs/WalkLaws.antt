-- The walk over a signature that is read: each entry's type is what reading finds at its place, and its digits follow the type.
use Prim.Native.Nat.{ℕ, zero, suc, ◌+◌, ◌-◌, ◌≤◌}
use mathlib.Core.Path.{◌≡◌, refl, ap, subst, ◌∙◌}
use mathlib.Core.List.{List, [], ◌∷◌, ◌++◌}
use mathlib.Core.Bool.{Bool, true, false}
use native.Mathlib.Omega.{arith}
use lib.ListN.{length, length-append}
use Rattle.kinds.specs.Parse.{Encoded, encoded, not_encoded, parse_encoding_or_none, unknown_digit, from_start}
use Rattle.kinds.specs.Tree.{Label, Trees}
use Rattle.kinds.specs.declared.Refusal.{Refusal}
use Rattle.agreement.proofs.CutLaws.{encoded-rest, encoded-some}
use Rattle.signature.specs.Signature as S
use Rattle.signature.specs.Signature.{Entry, entry, Signature, entries, type_from_start, Offset, offset, no_offset, parse_offset, add_entry, number_then, type_then, signature_from, signature}
use Rattle.signature_agreement.specs.Tiling.{Tile}
use Rattle.signature_agreement.proofs.OffsetLaws.{offset-of}

-- Reading finds a type at the text's start, and its number behind it.
pub record Read (s : List ℕ) (size number : ℕ) : Type 0 where
  pub tile : Tile s size number
  pub label : Label
  pub children : Trees
  pub reads : parse_encoding_or_none s ≡ encoded label children (tile.digits ++ tile.rest)

abbrev pub Walk : List ℕ → ℕ → List Entry → Type 0
Walk s at [] = s ≡ []
Walk s at (entry start size number ∷ es) = (start ≡ at) × (r : Read s size number) × Walk r.tile.rest (at + size + length r.tile.digits) es

not-read : {A : Type 0} {r : Refusal} {es : List Entry} → S.refused r ≡ entries es → A
not-read h = let z : ◌≡◌ {A = ℕ} 0 1 = cc in absurd (omega arith)

module _ (n : ℕ) (s : List ℕ) (more : List ℕ → Signature) (es : List Entry) where
  type-then : (q : Encoded) → type_then n s (type_from_start n q) more ≡ entries es
      → (l : Label) × (cs : Trees) × (t : List ℕ) × (q ≡ encoded l cs t) × (number_then n s t (parse_offset n t) more ≡ entries es)
  unfolding type_then type_from_start from_start
  type-then (encoded l cs t) h = (l, cs, t, refl, h)
  type-then (not_encoded e t) h = go (unknown_digit e) refl
    where
      go : (x : Bool) → unknown_digit e ≡ x → (l : Label) × (cs : Trees) × (u : List ℕ) × (not_encoded e t ≡ encoded l cs u) × (number_then n s u (parse_offset n u) more ≡ entries es)
      go true i = not-read (rw (i, type_from_start) at h)
      go false i = not-read (rw (i, from_start) at (rw (i, type_from_start) at h))

  number-then : (t : List ℕ) (o : Offset) → number_then n s t o more ≡ entries es
      → (v : ℕ) × (u : List ℕ) × (o ≡ offset v u) × (add_entry (entry (n - length s) (length s - length t) v) (more u) ≡ entries es)
  unfolding number_then
  number-then t (offset v u) h = (v, u, refl, h)
  number-then t (no_offset r) h = not-read h

add-entry : (x : Entry) (z : Signature) (es : List Entry) → add_entry x z ≡ entries es → (fs : List Entry) × (z ≡ entries fs) × (x ∷ fs ≡ es)
unfolding add_entry
add-entry x (entries fs) es h = (fs, refl, cc)
add-entry x (S.refused r) es h = not-read h

no-entries : (s : List ℕ) (at : ℕ) (es : List Entry) → s ≡ [] → entries [] ≡ entries es → Walk s at es
no-entries s at [] e h = e
no-entries s at (x ∷ es) e h = let z : ◌≡◌ {A = ℕ} 0 1 = cc in absurd (omega arith)

walk : (f n at : ℕ) (s : List ℕ) (es : List Entry) → at + length s ≡ n → length s ≤ f → signature_from f n s ≡ entries es → Walk s at es
unfolding signature_from
walk zero n at [] es p l h = no-entries [] at es refl h
walk zero n at (b ∷ s) es p l h = absurd (omega arith)
walk (suc f) n at [] es p l h = no-entries [] at es refl h
walk (suc f) n at (b ∷ s) es p l h =
    let a = type-then n (b ∷ s) (λ t. signature_from f n t) es (parse_encoding_or_none (b ∷ s)) h in
    let t = a.2 in
    let c = number-then n (b ∷ s) (λ t. signature_from f n t) es t (parse_offset n t) a.4 in
    let d = add-entry (entry (n - length (b ∷ s)) (length (b ∷ s) - length t) c.0) (signature_from f n c.1) es c.3 in
    let o = offset-of n t c.0 c.1 c.2 in
    let y = encoded-rest (b ∷ s) a.0 a.1 t a.3 in
    let some = encoded-some b s a.0 a.1 t a.3 in
    let sizes : length (b ∷ s) ≡ length y.0 + length t = ap length y.1 ∙ length-append y.0 t in
    let more : length t ≡ length o.digits + length c.1 = ap length o.parts ∙ length-append o.digits c.1 in
    subst (λ x. Walk (b ∷ s) at x) d.2 (
      omega arith,
      record {
        tile = record {
          type = y.0;
          digits = o.digits;
          rest = c.1;
          parts = y.1 ∙ ap (λ x. y.0 ++ x) o.parts;
          type-size = omega arith;
          some_byte = omega arith;
          some-digit = o.some;
          only-digits = o.only-digits;
          no-digit-left = o.no-digit-left;
          its-number = o.its-number;
          in-32-bits = o.in-32-bits;
        };
        label = a.0;
        children = a.1;
        reads = a.3 ∙ ap (encoded a.0 a.1) o.parts;
      },
      walk f n (at + (length (b ∷ s) - length t) + length o.digits) c.1 d.0 (omega arith) (omega arith) d.1,
    )

pub walk-all : (s : List ℕ) (es : List Entry) → signature s ≡ entries es → Walk s 0 es
unfolding signature
walk-all [] es h = not-read h
walk-all (b ∷ s) es h = walk (length (b ∷ s)) (length (b ∷ s)) 0 (b ∷ s) es (omega arith) (omega arith) h
