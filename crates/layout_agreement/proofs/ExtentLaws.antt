-- Alignments are positive; a node's alignment is the largest of its fields' or members'.
use Prim.Native.Nat.{ℕ, zero, suc, ◌≤◌, ◌<◌}
use native.Mathlib.Nat.{le-max_left, le-max_right, max-le}
use native.Mathlib.Omega.{arith}
use mathlib.Core.List.{List, [], ◌∷◌, map}
use Rattle.std.specs.Prelude.{None, unwrap_or}
use lib.ListN.{length, get_or}
use Rattle.kinds.specs.Primitive.{Widths, width, primitives, widths}
use Rattle.kinds.specs.Tree as T
use Rattle.kinds.specs.Tree.{Label, Trees, end, node, primitive, bit_field, typed_bit_field, pointer, atomic, array, struct, union}
use Rattle.kinds.specs.declared.Primitive.{Primitive}
use Rattle.kinds.specs.declared.Primitive.TheVariants as P
use Rattle.layout.specs.Layout.{Extent, part, primitive_alignment, primitive_extent, alignments, only_extent, node_extent, extents, extent}
use Rattle.layout.proofs.FillLaws.{alignments-positive}
use Rattle.layout_agreement.specs.Fields.{Positive, alignment_at}

-- Every row's widths are positive; a number that is no row's has those of row 0.
pub rows-positive : (row : ℕ) → Positive (widths row)
rows-positive zero = record { long = omega arith; unsigned-long = omega arith; pointer = omega arith; long-double = omega arith }
rows-positive (suc zero) = record { long = omega arith; unsigned-long = omega arith; pointer = omega arith; long-double = omega arith }
rows-positive (suc (suc zero)) = record { long = omega arith; unsigned-long = omega arith; pointer = omega arith; long-double = omega arith }
rows-positive (suc (suc (suc zero))) = record { long = omega arith; unsigned-long = omega arith; pointer = omega arith; long-double = omega arith }
rows-positive (suc (suc (suc (suc n)))) = record { long = omega arith; unsigned-long = omega arith; pointer = omega arith; long-double = omega arith }

-- ---- The largest of alignments.

pub alignment-below : (xs : List Extent) (i : ℕ) → alignment_at xs i ≤ alignments xs
unfolding alignments
alignment-below [] i = omega arith
alignment-below (x ∷ xs) zero = le-max_left x.alignment (alignments xs)
alignment-below (x ∷ xs) (suc i) = omega (arith, alignment-below xs i, le-max_right x.alignment (alignments xs))

pub alignments-least : (xs : List Extent) (k : ℕ) → 0 < k → ((i : ℕ) → i < length xs → alignment_at xs i ≤ k) → alignments xs ≤ k
unfolding alignments
alignments-least [] k p h = omega arith
alignments-least (x ∷ xs) k p h = max-le (h 0 (omega arith)) (alignments-least xs k p (λ i l. h (suc i) (omega arith)))

-- ---- All alignments are positive.

-- Each of the extents has a positive one.
abbrev pub Aligned : List Extent → Type 0
Aligned [] = Unit {0}
Aligned (x ∷ xs) = (0 < x.alignment) × Aligned xs

pub aligned_at : (xs : List Extent) → Aligned xs → (i : ℕ) → 0 < alignment_at xs i
aligned_at [] a i = omega arith
aligned_at (x ∷ xs) a zero = a.0
aligned_at (x ∷ xs) a (suc i) = aligned_at xs a.1 i

only-positive : (xs : List Extent) → Aligned xs → 0 < (only_extent xs).alignment
unfolding only_extent
only-positive [] a = omega arith
only-positive (x ∷ xs) a = a.0

module _ (w : Widths) (p : Positive w) where
  part-positive : (q : Primitive) → 0 < unwrap_or (width w (part q)) 1
  part-positive P.Char = omega arith
  part-positive P.Short = omega arith
  part-positive P.Int = omega arith
  part-positive P.Long = p.long
  part-positive P.LongLong = omega arith
  part-positive P.UChar = omega arith
  part-positive P.UShort = omega arith
  part-positive P.UInt = omega arith
  part-positive P.ULong = p.unsigned-long
  part-positive P.ULongLong = omega arith
  part-positive P.Float = omega arith
  part-positive P.Double = omega arith
  part-positive P.LongDouble = p.long-double
  part-positive P.FloatComplex = omega arith
  part-positive P.DoubleComplex = omega arith
  part-positive P.LongDoubleComplex = p.long-double
  part-positive P.Bool = omega arith
  part-positive P.Void = omega arith
  part-positive P.String = p.pointer
  part-positive P.Object = p.pointer
  part-positive P.Block = p.pointer
  part-positive P.Class = p.pointer
  part-positive P.Sel = p.pointer
  part-positive P.Unknown = omega arith

  parts-positive : (qs : List Primitive) (i : ℕ) → 0 < unwrap_or (get_or (map (λ q. width w (part q)) qs) i None) 1
  parts-positive [] i = omega arith
  parts-positive (q ∷ qs) zero = part-positive q
  parts-positive (q ∷ qs) (suc i) = parts-positive qs i

  node-positive : (l : Label) (xs : List Extent) → Aligned xs → 0 < (node_extent w l xs).alignment
  unfolding node_extent primitive_extent primitive_alignment
  node-positive (primitive q) xs a = parts-positive primitives q
  node-positive (bit_field n) xs a = omega arith
  node-positive (typed_bit_field o n) xs a = omega arith
  node-positive pointer xs a = p.pointer
  node-positive atomic xs a = only-positive xs a
  node-positive (array n) xs a = only-positive xs a
  node-positive (struct s) xs a = alignments-positive xs
  node-positive (union s) xs a = alignments-positive xs
  node-positive T.none xs a = omega arith

  pub extents-aligned : (ts : Trees) → Aligned (extents w ts)
  unfolding extents
  extents-aligned end = tt
  extents-aligned (node l cs ts) = (node-positive l (extents w cs) (extents-aligned cs), extents-aligned ts)

  pub extent-aligned : (t : Trees) → 0 < (extent w t).alignment
  unfolding extent
  extent-aligned t = only-positive (extents w t) (extents-aligned t)
