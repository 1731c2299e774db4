-- What a kind word says of a node is what the node's label says.
use Prim.Native.Nat.{ℕ, ◌≤◌, ◌<◌}
use native.Mathlib.Omega.{arith}
use mathlib.Core.Path.{◌≡◌, refl, ap, sym, ◌∙◌, subst}
use mathlib.Core.Bool.{Bool, true, false, ◌||◌, false≢true}
use mathlib.Core.List.{List}
use borrow.Author.Tests.{leb-true, leb-false, ne_eqb, eqb-true, eqb-false}
use lib.Dec.{leb, eqb}
use Rattle.kinds.specs.Kind.{is_indirection, inside_kind, children_level}
use Rattle.kinds.specs.Level.{shows_fields, container_include_fields}
use Rattle.kinds.specs.Sheet.{label, is_container_kind}
use Rattle.kinds.specs.Tree.{inside}
use Rattle.std.specs.Prelude.{Some, None}
use Rattle.kinds.specs.declared.NestingLevel.{NestingLevel}
use Rattle.kinds.specs.declared.NestingLevel.TheVariants.{Top, Within, Bottom}
use Rattle.kinds.proofs.NodeLaws.{by_kind, label-primitive, label-none}

-- every kind word is a primitive's, one from 24 to 31, or beyond
pub every-kind : (P : ℕ → Type 0) → ((k : ℕ) → k < 24 → P k) → P 24 → P 25 → P 26 → P 27 → P 28 → P 29 → P 30 → P 31 → ((k : ℕ) → 31 < k → P k) → (k : ℕ) → P k
every-kind P low a b c d e f g h high k = go (leb k 23) refl (leb k 31) refl
  where
    le-lt : k ≤ 23 → k < 24
    le-lt h = omega arith

    go : (t : Bool) → leb k 23 ≡ t → (u : Bool) → leb k 31 ≡ u → P k
    go true p u q = low k (le-lt (leb-true k 23 p))
    go false p true q = by_kind P a b c d e f g h k (leb-false k 23 p) (leb-true k 31 q)
    go false p false q = high k (leb-false k 31 q)

-- a kind that is neither a container's nor an indirection's
module _ (k : ℕ) (v : NestingLevel) (a : k ≡ 26 → ⊥) (b : k ≡ 27 → ⊥) (c : k ≡ 29 → ⊥) (d : k ≡ 30 → ⊥) where
  plain-inside : v ≡ inside_kind k v
  unfolding inside_kind
  plain-inside = rw (ne_eqb k 26 a, ne_eqb k 27 b, ne_eqb k 29 c, ne_eqb k 30 d)

-- The level of the children of a node of kind `k`.
pub inside-kind : (s : List ℕ) (k a b : ℕ) (v : NestingLevel) → inside (label s k a b) v ≡ inside_kind k v
unfolding label inside_kind
inside-kind s k a b v = every-kind (λ (j : ℕ). inside (label s j a b) v ≡ inside_kind j v) low refl refl refl refl refl refl refl refl high k
  where
    low : (j : ℕ) → j < 24 → inside (label s j a b) v ≡ inside_kind j v
    low j p = rw (label-primitive s j a b p) (plain-inside j v (λ e. omega arith) (λ e. omega arith) (λ e. omega arith) (λ e. omega arith))

    high : (j : ℕ) → 31 < j → inside (label s j a b) v ≡ inside_kind j v
    high j p = rw (label-none s j a b (omega arith)) (plain-inside j v (λ e. omega arith) (λ e. omega arith) (λ e. omega arith) (λ e. omega arith))

-- Kinds 29 and 30.
pub container-kind : (k : ℕ) → 29 ≤ k → k ≤ 30 → is_container_kind k ≡ true
container-kind k p q = go (eqb k 29) refl
  where
    other : (k ≡ 29 → ⊥) → k ≡ 30
    other r = omega arith

    go : (t : Bool) → eqb k 29 ≡ t → is_container_kind k ≡ true
    go true e = rw (eqb-true k 29 e)
    go false e = rw (other (eqb-false k 29 e))

-- What is left of the kinds from an array's on.
pub only_none : (k : ℕ) → 28 ≤ k → (k ≡ 28 → ⊥) → is_container_kind k ≡ false → k ≤ 31 → k ≡ 31
only_none k lo n f hi = go (leb k 30) refl
  where
    go : (t : Bool) → leb k 30 ≡ t → k ≡ 31
    go true e = absurd (false≢true (sym f ∙ container-kind k (omega arith) (leb-true k 30 e)))
    go false e = omega (arith, leb-false k 30 e)

-- What is left of those between the primitives and an array.
pub only-atomic : (k : ℕ) → 24 ≤ k → k < 28 → (k ≡ 24 → ⊥) → (k ≡ 25 → ⊥) → (k ≡ 26 → ⊥) → k ≡ 27
only-atomic k lo hi d e f = omega arith

-- Kinds 26 and 27.
pub indirection-range : (k : ℕ) → is_indirection k ≡ true → (26 ≤ k) × (k ≤ 27)
indirection-range k h = go (eqb k 26) refl (eqb k 27) refl h
  where
    go : (t : Bool) → eqb k 26 ≡ t → (u : Bool) → eqb k 27 ≡ u → (t || u) ≡ true → (26 ≤ k) × (k ≤ 27)
    go true p u q r = let e = eqb-true k 26 p in (omega arith, omega arith)
    go false p true q r = let e = eqb-true k 27 q in (omega arith, omega arith)
    go false p false q r = absurd (false≢true r)

pub not-indirection : (k : ℕ) → is_indirection k ≡ false → (k ≡ 26 → ⊥) × (k ≡ 27 → ⊥)
not-indirection k h = (λ e. false≢true (sym h ∙ ap is_indirection e), λ e. false≢true (sym h ∙ ap is_indirection e))

-- A kind that is neither a container's nor an indirection's keeps the level.
pub inside-plain : (k : ℕ) (v : NestingLevel) → is_container_kind k ≡ false → is_indirection k ≡ false → inside_kind k v ≡ v
inside-plain k v c d = let n = not-indirection k d in sym (plain-inside k v n.0 n.1 (other 29 refl) (other 30 refl))
  where
    other : (j : ℕ) → is_container_kind j ≡ true → k ≡ j → ⊥
    other j t e = false≢true (sym c ∙ ap is_container_kind e ∙ t)

-- So do codes and bitfields.
pub inside-low : (k : ℕ) (v : NestingLevel) → k < 26 → inside_kind k v ≡ v
inside-low k v h = sym (plain-inside k v (λ e. omega arith) (λ e. omega arith) (λ e. omega arith) (λ e. omega arith))

-- Children at their parent's own level are shown.
pub children-kept : (k : ℕ) (v : NestingLevel) → inside_kind k v ≡ v → children_level k v ≡ Some v
unfolding inside_kind children_level
children-kept k v h = go (is_container_kind k) refl
  where
    go : (t : Bool) → is_container_kind k ≡ t → children_level k v ≡ Some v
    go true e = rw e (subst (λ (u : NestingLevel). container_include_fields u ≡ Some u) (rw e at h) refl)
    go false e = rw e (ap Some (rw e at h))

-- Whether a container shows its fields, and at which level.
pub dropped : (v : NestingLevel) → container_include_fields v ≡ None → shows_fields v ≡ false
dropped Top h = absurd (let z : ◌≡◌ {A = ℕ} 0 1 = cc in omega arith)
dropped Within h = absurd (let z : ◌≡◌ {A = ℕ} 0 1 = cc in omega arith)
dropped Bottom h = refl

pub included : (v u : NestingLevel) → container_include_fields v ≡ Some u → (shows_fields v ≡ true) × (u ≡ Within)
included Top u h = (refl, cc)
included Within u h = (refl, cc)
included Bottom u h = absurd (let z : ◌≡◌ {A = ℕ} 0 1 = cc in omega arith)
