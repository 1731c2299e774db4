-- The number behind a type: what its digits are.
use Prim.Native.Nat.{ℕ, ◌+◌, ◌-◌, ◌*◌, ◌≤◌}
use mathlib.Core.Path.{◌≡◌, refl, sym, ap, ◌∙◌}
use mathlib.Core.List.{List, [], ◌∷◌, ◌++◌}
use mathlib.Core.Bool.{Bool, true, false, false≢true}
use native.Mathlib.Omega.{arith}
use lib.Dec.{leb}
use lib.ListN.{length}
use borrow.Author.Tests.{leb-true}
use Rattle.kinds.specs.Byte.{byte, is_digit, starts_digit}
use Rattle.kinds.specs.Parse.{max_u32, value, more_digits, bounded, parse_number}
use Rattle.kinds.specs.declared.Refusal.{Refusal}
use Rattle.kinds.proofs.ParseLaws.{number-none}
use Rattle.agreement.proofs.DigitLaws.{number-start}
use Rattle.signature.specs.Signature.{offset, no_offset, limited, parse_offset}
use Rattle.signature_agreement.specs.Tiling.{all_digits, value_after}

-- The digits at the start of a text, and their value after digits of value `m`.
record Digits (s : List ℕ) (m : ℕ) : Type 0 where
  digits : List ℕ
  rest : List ℕ
  parts : s ≡ digits ++ rest
  only-digits : all_digits digits ≡ true
  no-digit-left : starts_digit rest ≡ false
  read : more_digits m s ≡ value (value_after m digits) rest

digits_of_lem : (s : List ℕ) (m : ℕ) → Digits s m
unfolding all_digits starts_digit value_after more_digits
digits_of_lem [] m = record { digits = []; rest = []; parts = refl; only-digits = refl; no-digit-left = refl; read = refl }
digits_of_lem (b ∷ s) m = go (is_digit b) refl (digits_of_lem s (m * 10 + (b - byte "0")))
  where
    go : (t : Bool) → is_digit b ≡ t → Digits s (m * 10 + (b - byte "0")) → Digits (b ∷ s) m
    go true e d = record {
      digits = b ∷ d.digits;
      rest = d.rest;
      parts = ap (λ x. b ∷ x) d.parts;
      only-digits = rw e d.only-digits;
      no-digit-left = d.no-digit-left;
      read = rw (e, more_digits) d.read;
    }
    go false e d = record { digits = []; rest = b ∷ s; parts = refl; only-digits = refl; no-digit-left = e; read = rw (e, more_digits) }

some-digit : (d w : List ℕ) (b : ℕ) (s : List ℕ) → b ∷ s ≡ d ++ w → starts_digit w ≡ false → is_digit b ≡ true → 1 ≤ length d
unfolding starts_digit
some-digit [] w b s e n h = absurd (false≢true (sym n ∙ ap starts_digit (sym e) ∙ h))
some-digit (c ∷ d) w b s e n h = omega arith

-- What the number behind a type is.
pub record OffsetOf (t : List ℕ) (v : ℕ) (u : List ℕ) : Type 0 where
  pub digits : List ℕ
  pub parts : t ≡ digits ++ u
  pub some : 1 ≤ length digits
  pub only-digits : all_digits digits ≡ true
  pub no-digit-left : starts_digit u ≡ false
  pub its-number : value_after 0 digits ≡ v
  pub in-32-bits : v ≤ max_u32

no-offset : {A : Type 0} {r : Refusal} {v : ℕ} {u : List ℕ} → no_offset r ≡ offset v u → A
no-offset h = let z : ◌≡◌ {A = ℕ} 0 1 = cc in absurd (omega arith)

offset-same : (v v' : ℕ) (u u' : List ℕ) → offset v u ≡ offset v' u' → (v ≡ v') × (u ≡ u')
offset-same v v' u u' e = (cc, cc)

pub offset-of : (n : ℕ) (t : List ℕ) (v : ℕ) (u : List ℕ) → parse_offset n t ≡ offset v u → OffsetOf t v u
unfolding parse_offset limited parse_number starts_digit bounded
offset-of n [] v u h = no-offset h
offset-of n (b ∷ s) v u h = go (is_digit b) refl (digits_of_lem (b ∷ s) 0)
  where
    sized : (d : Digits (b ∷ s) 0) → is_digit b ≡ true → (x : Bool) → leb (value_after 0 d.digits) max_u32 ≡ x
        → parse_offset n (b ∷ s) ≡ limited n true (bounded max_u32 (value (value_after 0 d.digits) d.rest)) → OffsetOf (b ∷ s) v u
    sized d i true e q =
        let k : offset (value_after 0 d.digits) d.rest ≡ offset v u = rw (e, bounded) at (sym q ∙ h) in
        let same = offset-same (value_after 0 d.digits) v d.rest u k in
        record {
          digits = d.digits;
          parts = d.parts ∙ ap (λ x. d.digits ++ x) same.1;
          some = some-digit d.digits d.rest b s d.parts d.no-digit-left i;
          only-digits = d.only-digits;
          no-digit-left = rw same.1 at d.no-digit-left;
          its-number = same.0;
          in-32-bits = rw same.0 at (leb-true (value_after 0 d.digits) max_u32 e);
        }
    sized d i false e q = no-offset (rw (e, bounded) at (sym q ∙ h))

    go : (x : Bool) → is_digit b ≡ x → Digits (b ∷ s) 0 → OffsetOf (b ∷ s) v u
    go true e d = sized d e (leb (value_after 0 d.digits) max_u32) refl (rw (e, number-start max_u32 (b ∷ s) e, d.read))
    go false e d = no-offset (rw (number-none max_u32 b s e) at h)
