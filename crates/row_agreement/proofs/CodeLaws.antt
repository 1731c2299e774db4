-- Machines that give the same sizes to codes give the same sizes to trees of these codes.
use Prim.Native.Nat.{ℕ, ◌*◌, ◌≤◌}
use mathlib.Core.Bool.{Bool, true, false, cond, not, ◌&&◌, true≢false}
use mathlib.Core.List.{List, ◌∷◌, map}
use Rattle.std.specs.Prelude.{Option, Some, None}
use mathlib.Core.Path.{◌≡◌, refl, sym, ap, ap₂, ◌∙◌}
use borrow.Author.Tests.{leb-true, leb-false, not-true, eqb-true}
use lib.Dec.{leb}
use lib.ListN.{get_or-eq_default}
use Rattle.kinds.specs.Byte.{among}
use Rattle.kinds.specs.Primitive.{Widths, width, primitives, primitive_size}
use Rattle.kinds.specs.Size.{only, node_size, sizes, size}
use Rattle.kinds.specs.Tree as T
use Rattle.kinds.specs.Tree.{Label, Trees, end, node, primitive, bit_field, typed_bit_field, pointer, atomic, array, struct, union, inside}
use Rattle.kinds.specs.declared.NestingLevel.{NestingLevel}
use Rattle.kinds.specs.declared.NestingLevel.TheVariants.{Top}
use Rattle.kinds.proofs.TableLaws.{both}
use Rattle.agreement.proofs.ByteLaws.{Below, below, ◌next◌}
use Rattle.row_agreement.specs.Lacking.{is_code, lacks, is_long_double, is_long, no_long_double, no_long, int_for, ints_for_longs}

-- Other kinds have no size on any machine.
beyond : (w u : Widths) (p : ℕ) → 24 ≤ p → primitive_size w p ≡ primitive_size u p
unfolding primitive_size
beyond w u p h = get_or-eq_default (map (width w) primitives) None h ∙ sym (get_or-eq_default (map (width u) primitives) None h)

-- What holds of the 24 codes and of all beyond them holds of all.
every : (P : ℕ → Type 0) → Below P 24 → ((p : ℕ) → 24 ≤ p → P p) → (p : ℕ) → P p
every P low high p = go (leb 24 p) refl
  where
    go : (x : Bool) → leb 24 p ≡ x → P p
    go true e = high p (leb-true 24 p e)
    go false e = below P 24 low p (leb-false 24 p e)

-- ---- Trees that lack the codes for which the machines differ.

module _ (f : ℕ → Bool) (w u : Widths) (a : (p : ℕ) → f p ≡ false → primitive_size w p ≡ primitive_size u p) (b : w.pointer ≡ u.pointer) where
  node_alike : (l : Label) (v : NestingLevel) (xs : List (Option ℕ)) → is_code f l ≡ false → node_size w l v xs ≡ node_size u l v xs
  unfolding node_size is_code
  node_alike (primitive p) v xs h = a p h
  node_alike (bit_field n) v xs h = refl
  node_alike (typed_bit_field o n) v xs h = refl
  node_alike pointer v xs h = ap Some b
  node_alike atomic v xs h = refl
  node_alike (array n) v xs h = refl
  node_alike (struct s) v xs h = refl
  node_alike (union s) v xs h = refl
  node_alike T.none v xs h = refl

  sizes-alike : (v : NestingLevel) (ts : Trees) → lacks f ts ≡ true → sizes w v ts ≡ sizes u v ts
  unfolding sizes lacks
  sizes-alike v end h = refl
  sizes-alike v (node l cs ts) h =
      let p = both (not (is_code f l)) (lacks f cs && lacks f ts) h in
      let q = both (lacks f cs) (lacks f ts) p.1 in
      ap₂ ◌∷◌ (node_alike l v (sizes w (inside l v) cs) (not-true (is_code f l) p.0) ∙ ap (node_size u l v) (sizes-alike (inside l v) cs q.0)) (sizes-alike v ts q.1)

  size-alike : (t : Trees) → lacks f t ≡ true → size w t ≡ size u t
  unfolding size
  size-alike t h = ap only (sizes-alike Top t h)

module _ (w u : Widths) where
  module _ (a : w.long ≡ u.long) (b : w.unsigned-long ≡ u.unsigned-long) (c : w.pointer ≡ u.pointer) where
    long-double-codes : (p : ℕ) → is_long_double p ≡ false → primitive_size w p ≡ primitive_size u p
    unfolding is_long_double among primitive_size
    long-double-codes = every (λ p. is_long_double p ≡ false → primitive_size w p ≡ primitive_size u p)
        (tt next (λ h. refl) next (λ h. refl) next (λ h. refl) next (λ h. ap Some a) next (λ h. refl)
        next (λ h. refl) next (λ h. refl) next (λ h. refl) next (λ h. ap Some b) next (λ h. refl)
        next (λ h. refl) next (λ h. refl) next (λ h. absurd (true≢false h)) next (λ h. refl) next (λ h. refl) next (λ h. absurd (true≢false h))
        next (λ h. refl) next (λ h. refl) next (λ h. ap Some c) next (λ h. ap Some c) next (λ h. ap Some c) next (λ h. ap Some c) next (λ h. ap Some c) next (λ h. refl))
        (λ p g h. beyond w u p g)

    pub without-long-double : (t : Trees) → no_long_double t ≡ true → size w t ≡ size u t
    without-long-double = size-alike is_long_double w u long-double-codes c

  module _ (a : w.unsigned-long ≡ u.unsigned-long) (b : w.pointer ≡ u.pointer) (c : w.long-double ≡ u.long-double) where
    -- the complex number of two
    two : Some (2 * w.long-double) ≡ Some (2 * u.long-double)
    two = ap (λ x. Some (2 * x)) c

    long-codes : (p : ℕ) → is_long p ≡ false → primitive_size w p ≡ primitive_size u p
    unfolding is_long primitive_size
    long-codes = every (λ p. is_long p ≡ false → primitive_size w p ≡ primitive_size u p)
        (tt next (λ h. refl) next (λ h. refl) next (λ h. refl) next (λ h. absurd (true≢false h)) next (λ h. refl)
        next (λ h. refl) next (λ h. refl) next (λ h. refl) next (λ h. ap Some a) next (λ h. refl)
        next (λ h. refl) next (λ h. refl) next (λ h. ap Some c) next (λ h. refl) next (λ h. refl) next (λ h. two)
        next (λ h. refl) next (λ h. refl) next (λ h. ap Some b) next (λ h. ap Some b) next (λ h. ap Some b) next (λ h. ap Some b) next (λ h. ap Some b) next (λ h. refl))
        (λ p g h. beyond w u p g)

    pub without-long : (t : Trees) → no_long t ≡ true → size w t ≡ size u t
    without-long = size-alike is_long w u long-codes b

    -- ---- Trees with ints for longs.

    module _ (d : w.long ≡ 4) where
      int-codes : (p : ℕ) → primitive_size w p ≡ primitive_size u (cond (is_long p) 2 p)
      unfolding is_long primitive_size
      int-codes p = go (is_long p) refl
        where
          go : (x : Bool) → is_long p ≡ x → primitive_size w p ≡ primitive_size u (cond x 2 p)
          go true e = ap (primitive_size w) (eqb-true p 3 e) ∙ ap Some d
          go false e = long-codes p e

      inside-int : (l : Label) (v : NestingLevel) → inside (int_for l) v ≡ inside l v
      unfolding int_for
      inside-int (primitive p) v = refl
      inside-int (bit_field n) v = refl
      inside-int (typed_bit_field o n) v = refl
      inside-int pointer v = refl
      inside-int atomic v = refl
      inside-int (array n) v = refl
      inside-int (struct s) v = refl
      inside-int (union s) v = refl
      inside-int T.none v = refl

      node-int : (l : Label) (v : NestingLevel) (xs : List (Option ℕ)) → node_size w l v xs ≡ node_size u (int_for l) v xs
      unfolding node_size int_for
      node-int (primitive p) v xs = int-codes p
      node-int (bit_field n) v xs = refl
      node-int (typed_bit_field o n) v xs = refl
      node-int pointer v xs = ap Some b
      node-int atomic v xs = refl
      node-int (array n) v xs = refl
      node-int (struct s) v xs = refl
      node-int (union s) v xs = refl
      node-int T.none v xs = refl

      sizes-int : (v : NestingLevel) (ts : Trees) → sizes w v ts ≡ sizes u v (ints_for_longs ts)
      unfolding sizes ints_for_longs
      sizes-int v end = refl
      sizes-int v (node l cs ts) =
          ap₂ ◌∷◌ (node-int l v (sizes w (inside l v) cs)
          ∙ ap (node_size u (int_for l) v) (sizes-int (inside l v) cs ∙ ap (λ x. sizes u x (ints_for_longs cs)) (sym (inside-int l v)))) (sizes-int v ts)

      pub ints-for-longs : (t : Trees) → size w t ≡ size u (ints_for_longs t)
      unfolding size
      ints-for-longs t = ap only (sizes-int Top t)
