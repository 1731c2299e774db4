-- Tests of which both hold; a rule of a table, proved at all of its entries by one computed test; tests on lists.
use Prim.Native.Nat.{ℕ, zero, suc, ◌<◌}
use mathlib.Core.Path.{◌≡◌, refl, sym, ap₂, subst}
use mathlib.Core.Bool.{Bool, true, false, ◌&&◌, ◌||◌, false≢true}
use mathlib.Core.List.{List, [], ◌∷◌}
use native.Mathlib.Omega.{arith}
use lib.Dec.{eqb}
use borrow.Author.Tests.{eqb-true, eqb-false, eq-eqb}
use Rattle.kinds.specs.Byte.{among, same_bytes}

pub both_left : (a b : Bool) → (a && b) ≡ true → a ≡ true
both_left true b h = refl
both_left false b h = h

pub both_right : (a b : Bool) → (a && b) ≡ true → b ≡ true
both_right true b h = h
both_right false b h = absurd (false≢true h)

pub both : (a b : Bool) → (a && b) ≡ true → (a ≡ true) × (b ≡ true)
both a b h = (both_left a b h, both_right a b h)

-- A family over the members of a list.
abbrev pub Each : (ℕ → Type 0) → List ℕ → Type 0
Each P [] = Unit {0}
Each P (x ∷ xs) = P x × Each P xs

-- What holds of each member of a list holds of a byte among them.
pub each : (P : ℕ → Type 0) (s : List ℕ) → Each P s → (b : ℕ) → among b s ≡ true → P b
unfolding among
each P [] a b h = absurd (false≢true h)
each P (x ∷ s) a b h = go (eqb b x) refl h (λ k. each P s a.1 b k)
  where
    go : (t : Bool) → eqb b x ≡ t → (t || among b s) ≡ true → (among b s ≡ true → P b) → P b
    go true e k rec = subst P (sym (eqb-true b x e)) a.0
    go false e k rec = rec k

-- The test passes at each number below `n`.
unfoldable pub every_below : (ℕ → Bool) → ℕ → Bool
every_below test zero = true
every_below test (suc n) = every_below test n && test n

pub pass_below : (test : ℕ → Bool) (n : ℕ) → every_below test n ≡ true → (i : ℕ) → i < n → test i ≡ true
unfolding every_below
pass_below test zero h i l = absurd (omega arith)
pass_below test (suc n) h i l = go (eqb i n) refl (λ k. pass_below test n (both (every_below test n) (test n) h).0 i k)
  where
    go : (b : Bool) → eqb i n ≡ b → (i < n → test i ≡ true) → test i ≡ true
    go true e rec = rw (eqb-true i n e) (both (every_below test n) (test n) h).1
    go false e rec = rec (omega (arith, eqb-false i n e))

pub same_bytes_lem : (s t : List ℕ) → same_bytes s t ≡ true → s ≡ t
unfolding same_bytes
same_bytes_lem [] [] h = refl
same_bytes_lem [] (y ∷ t) h = absurd (false≢true h)
same_bytes_lem (x ∷ s) [] h = absurd (false≢true h)
same_bytes_lem (x ∷ s) (y ∷ t) h = ap₂ ◌∷◌ (eqb-true x y (both (eqb x y) (same_bytes s t) h).0) (same_bytes_lem s t (both (eqb x y) (same_bytes s t) h).1)

pub same-bytes-refl : (s : List ℕ) → same_bytes s s ≡ true
unfolding same_bytes
same-bytes-refl [] = refl
same-bytes-refl (x ∷ s) = rw (eq-eqb x x refl) (same-bytes-refl s)
