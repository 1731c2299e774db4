-- Laws of what two nodes differ in by themselves, their children aside.
use Prim.Native.Nat.{ℕ, ◌-◌, ◌≤◌, ◌<◌}
use native.Mathlib.Omega.{arith}
use mathlib.Core.Path.{◌≡◌, refl, ap, sym, ◌∙◌}
use mathlib.Core.List.{List}
use Rattle.std.specs.Prelude.{Option, Some, None}
use mathlib.Core.Bool.{Bool, true, false, ◌||◌, false≢true}
use borrow.Author.Tests.{ne_eqb, eq-eqb, eqb-true, eqb-false}
use lib.Dec.{eqb}
use Rattle.kinds.specs.Byte.{same_bytes}
use Rattle.kinds.specs.Compare.{bits}
use Rattle.kinds.specs.Primitive.{equivalent}
use Rattle.kinds.specs.Sheet.{kind_at, first_at, second_at, label_at, label, is_container_kind}
use Rattle.kinds.specs.Tree as T
use Rattle.kinds.specs.Walk.{NodeAt}
use Rattle.kinds.proofs.NodeLaws.{by_kind, kind-label, label-primitive, label-struct, label-union}
use Rattle.helper.proofs.CompareLaws.{partner, low-partner}
use Rattle.reason.specs.Reason.{kind, size, offset, length as len, name, or_else, unless, offset_of, length_of, own_difference}
use Rattle.reason.specs.Spot.{difference_found, spotted, name_at, number_at, difference_at, Named, ValueAt, Finds}
use Rattle.reason.specs.declared.find.Aspect.{Aspect}
use Rattle.reason.specs.declared.find.Aspect.TheVariants as A
use Rattle.reason.specs.declared.find.FirstDifference.{FirstDifference}

-- ---- Two labels of one kind.

module _ (s t : List ℕ) (k a b c d : ℕ) where
  own_bits : k ≡ 24 → own_difference (label s k a b) (label t k c d) ≡ unless (eqb b d) (size b d)
  unfolding own_difference equivalent T.kind bits offset_of length_of T.name label same_bytes or_else unless
  own_bits p = rw p (go (eqb b d))
    where
      go : (x : Bool) → or_else (unless x (size b d)) None ≡ unless x (size b d)
      go true = refl
      go false = refl

  own-typed : k ≡ 25 → own_difference (label s k a b) (label t k c d) ≡ or_else (unless (eqb b d) (size b d)) (unless (eqb a c) (offset a c))
  unfolding own_difference equivalent T.kind bits offset_of length_of T.name label same_bytes or_else unless
  own-typed p = rw p (go (eqb b d) (eqb a c))
    where
      go : (x y : Bool) → or_else (unless x (size b d)) (or_else (unless y (offset a c)) None) ≡ or_else (unless x (size b d)) (unless y (offset a c))
      go true true = refl
      go true false = refl
      go false y = refl

  own-array : k ≡ 28 → own_difference (label s k a b) (label t k c d) ≡ unless (eqb a c) (len a c)
  unfolding own_difference equivalent T.kind bits offset_of length_of T.name label same_bytes or_else unless
  own-array p = rw p (go (eqb a c))
    where
      go : (x : Bool) → or_else (unless x (len a c)) None ≡ unless x (len a c)
      go true = refl
      go false = refl

  own-plain : 24 ≤ k → k ≤ 31 → is_container_kind k ≡ false → (k ≡ 24 → ⊥) → (k ≡ 25 → ⊥) → (k ≡ 28 → ⊥) → own_difference (label s k a b) (label t k c d) ≡ None
  unfolding own_difference equivalent T.kind bits offset_of length_of T.name label same_bytes or_else unless
  own-plain lo hi p q r u =
      by_kind (λ (j : ℕ). is_container_kind j ≡ false → (j ≡ 24 → ⊥) → (j ≡ 25 → ⊥) → (j ≡ 28 → ⊥) → own_difference (label s j a b) (label t j c d) ≡ None)
      (λ x y z n. absurd (y refl)) (λ x y z n. absurd (z refl)) (λ x y z n. refl) (λ x y z n. refl) (λ x y z n. absurd (n refl)) (λ x y z n. absurd (false≢true (sym x)))
      (λ x y z n. absurd (false≢true (sym x))) (λ x y z n. refl) k lo hi p q r u

-- ---- Two nodes of words.

this-value : (aspect : Aspect) (w : List ℕ) (x : ℕ) → NodeAt w x → Named aspect w x → ValueAt aspect w x 1 x
this-value aspect w x h g = record { node = record { number = 0; is = omega arith; few = omega arith }; whole = h; named = g }

module _ (an a bn b : List ℕ) (at bt : ℕ) (ha : NodeAt a at) (hb : NodeAt b bt) where
  abbrev pub OwnIs : Option FirstDifference → Type 0
  OwnIs r = Finds an a at 1 bn b bt 1 (spotted at (own_difference (label_at an a at) (label_at bn b bt))) r

  found : (aspect : Aspect) → Named aspect a at → Named aspect b bt → own_difference (label_at an a at) (label_at bn b bt) ≡ Some (difference_at aspect an a at bn b bt)
      → OwnIs (Some (difference_found at bt aspect (number_at aspect a at) (number_at aspect b bt)))
  unfolding spotted
  found aspect x y e = (ap (spotted at) e, (this-value aspect a at ha x, this-value aspect b bt hb y), (refl, refl))

  same : own_difference (label_at an a at) (label_at bn b bt) ≡ None → OwnIs None
  unfolding spotted
  same e = ap (spotted at) e

  -- kinds
  pub own-kind : kind_at a at ≤ 31 → kind_at b bt ≤ 31 → equivalent (kind_at a at) (kind_at b bt) ≡ false → OwnIs (Some (difference_found at bt A.Kind (kind_at a at) (kind_at b bt)))
  unfolding own_difference or_else unless difference_at number_at
  own-kind p q h = found A.Kind tt tt (rw (kind-label an (first_at a at) (second_at a at) (kind_at a at) p, kind-label bn (first_at b bt) (second_at b bt) (kind_at b bt) q, h))

  module _ (h : equivalent (kind_at a at) (kind_at b bt) ≡ true) where
    pub own-primitive : kind_at a at < 24 → OwnIs None
    unfolding own_difference T.kind bits offset_of length_of T.name same_bytes or_else unless
    own-primitive p =
        same (rw (
          label-primitive an (kind_at a at) (first_at a at) (second_at a at) p,
          label-primitive bn (kind_at b bt) (first_at b bt) (second_at b bt) (low-partner (kind_at a at) (kind_at b bt) h p),
          h,
        ))

    -- names
    named : is_container_kind (kind_at a at) ≡ true → own_difference (label_at an a at) (label_at bn b bt) ≡ unless (same_bytes (name_at an a at) (name_at bn b bt)) (name (name_at an a at) (name_at bn b bt))
    unfolding own_difference equivalent T.kind bits offset_of length_of T.name or_else unless name_at
    named p = go (eqb (kind_at a at) 29) refl (eqb (kind_at a at) 30) refl p
      where
        go : (t : Bool) → eqb (kind_at a at) 29 ≡ t → (u : Bool) → eqb (kind_at a at) 30 ≡ u → (t || u) ≡ true → own_difference (label_at an a at) (label_at bn b bt)
            ≡ unless (same_bytes (name_at an a at) (name_at bn b bt)) (name (name_at an a at) (name_at bn b bt))
        go true e u d r =
            let k = eqb-true (kind_at a at) 29 e in
            rw (label-struct an (kind_at a at) (first_at a at) (second_at a at) k, label-struct bn (kind_at b bt) (first_at b bt) (second_at b bt) (partner (kind_at a at) (kind_at b bt) h (omega arith) ∙ k))
        go false e true d r =
            let k = eqb-true (kind_at a at) 30 d in
            rw (label-union an (kind_at a at) (first_at a at) (second_at a at) k, label-union bn (kind_at b bt) (first_at b bt) (second_at b bt) (partner (kind_at a at) (kind_at b bt) h (omega arith) ∙ k))
        go false e false d r = absurd (false≢true r)

    module _ (p : is_container_kind (kind_at a at) ≡ true) where
      pub own-same-name : same_bytes (name_at an a at) (name_at bn b bt) ≡ true → OwnIs None
      unfolding unless
      own-same-name e = same (named p ∙ ap (λ x. unless x (name (name_at an a at) (name_at bn b bt))) e)

      other-named : 24 ≤ kind_at a at → is_container_kind (kind_at b bt) ≡ true
      other-named lo = ap is_container_kind (partner (kind_at a at) (kind_at b bt) h (omega arith)) ∙ p

      pub own_name : 24 ≤ kind_at a at → same_bytes (name_at an a at) (name_at bn b bt) ≡ false → OwnIs (Some (difference_found at bt A.Name (second_at a at) (second_at b bt)))
      unfolding unless difference_at number_at
      own_name lo e = found A.Name p (other-named lo) (named p ∙ ap (λ x. unless x (name (name_at an a at) (name_at bn b bt))) e)

  -- numbers
  module _ (twin : kind_at b bt ≡ kind_at a at) where
    one-kind : own_difference (label_at an a at) (label_at bn b bt) ≡ own_difference (label an (kind_at a at) (first_at a at) (second_at a at)) (label bn (kind_at a at) (first_at b bt) (second_at b bt))
    one-kind = ap (λ (j : ℕ). own_difference (label_at an a at) (label bn j (first_at b bt) (second_at b bt))) twin

    bits_are : kind_at a at ≡ 24 → own_difference (label_at an a at) (label_at bn b bt) ≡ unless (eqb (second_at a at) (second_at b bt)) (size (second_at a at) (second_at b bt))
    bits_are k = one-kind ∙ own_bits an bn (kind_at a at) (first_at a at) (second_at a at) (first_at b bt) (second_at b bt) k

    typed-is : kind_at a at ≡ 25 → own_difference (label_at an a at) (label_at bn b bt)
        ≡ or_else (unless (eqb (second_at a at) (second_at b bt)) (size (second_at a at) (second_at b bt))) (unless (eqb (first_at a at) (first_at b bt)) (offset (first_at a at) (first_at b bt)))
    typed-is k = one-kind ∙ own-typed an bn (kind_at a at) (first_at a at) (second_at a at) (first_at b bt) (second_at b bt) k

    array-is : kind_at a at ≡ 28 → own_difference (label_at an a at) (label_at bn b bt) ≡ unless (eqb (first_at a at) (first_at b bt)) (len (first_at a at) (first_at b bt))
    array-is k = one-kind ∙ own-array an bn (kind_at a at) (first_at a at) (second_at a at) (first_at b bt) (second_at b bt) k

    either : 24 ≤ kind_at a at → kind_at a at ≤ 25 → (kind_at a at ≡ 24 → ⊥) → kind_at a at ≡ 25
    either lo hi h = omega arith

    pub own-size : 24 ≤ kind_at a at → kind_at a at ≤ 25 → (second_at a at ≡ second_at b bt → ⊥) → OwnIs (Some (difference_found at bt A.Size (second_at a at) (second_at b bt)))
    unfolding or_else unless difference_at number_at
    own-size lo hi h = found A.Size tt tt (go (eqb (kind_at a at) 24) refl)
      where
        go : (t : Bool) → eqb (kind_at a at) 24 ≡ t → own_difference (label_at an a at) (label_at bn b bt) ≡ Some (difference_at A.Size an a at bn b bt)
        go true e = bits_are (eqb-true (kind_at a at) 24 e) ∙ rw (ne_eqb (second_at a at) (second_at b bt) h)
        go false e = typed-is (either lo hi (eqb-false (kind_at a at) 24 e)) ∙ rw (ne_eqb (second_at a at) (second_at b bt) h)

    pub own-same-bits : kind_at a at ≡ 24 → second_at a at ≡ second_at b bt → OwnIs None
    unfolding unless
    own-same-bits k e = same (bits_are k ∙ rw (eq-eqb (second_at a at) (second_at b bt) e))

    module _ (lo : 24 ≤ kind_at a at) (hi : kind_at a at ≤ 25) (no : kind_at a at ≡ 24 → ⊥) (e : second_at a at ≡ second_at b bt) where
      pub own-offset : (first_at a at ≡ first_at b bt → ⊥) → OwnIs (Some (difference_found at bt A.Offset (first_at a at) (first_at b bt)))
      unfolding or_else unless difference_at number_at
      own-offset h = found A.Offset tt tt (typed-is (either lo hi no) ∙ rw (eq-eqb (second_at a at) (second_at b bt) e, ne_eqb (first_at a at) (first_at b bt) h))

      pub own-same-typed : first_at a at ≡ first_at b bt → OwnIs None
      unfolding or_else unless
      own-same-typed f = same (typed-is (either lo hi no) ∙ rw (eq-eqb (second_at a at) (second_at b bt) e, eq-eqb (first_at a at) (first_at b bt) f))

    pub own-other : 25 < kind_at a at → kind_at a at ≤ 31 → is_container_kind (kind_at a at) ≡ false → (kind_at a at ≡ 28 → ⊥) → OwnIs None
    own-other lo hi c n = same (one-kind ∙ own-plain an bn (kind_at a at) (first_at a at) (second_at a at) (first_at b bt) (second_at b bt) (omega arith) hi c (λ e. omega arith) (λ e. omega arith) n)

    pub own-length : kind_at a at ≡ 28 → (first_at a at ≡ first_at b bt → ⊥) → OwnIs (Some (difference_found at bt A.Length (first_at a at) (first_at b bt)))
    unfolding unless difference_at number_at
    own-length k h = found A.Length tt tt (array-is k ∙ rw (ne_eqb (first_at a at) (first_at b bt) h))

    pub own-same-array : kind_at a at ≡ 28 → first_at a at ≡ first_at b bt → OwnIs None
    unfolding unless
    own-same-array k e = same (array-is k ∙ rw (eq-eqb (first_at a at) (first_at b bt) e))
