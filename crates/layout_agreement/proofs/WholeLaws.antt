-- A padded size is a multiple of its alignment, so items side by side are all aligned.
use Prim.Native.Nat.{ℕ, zero, suc, ◌*◌}
use native.Mathlib.Nat.{mul_assoc}
use native.Mathlib.Omega.{arith}
use mathlib.Core.List.{List, [], ◌∷◌, map}
use Rattle.std.specs.Prelude.{None, unwrap_or}
use mathlib.Core.Path.{◌≡◌, refl, sym, ap, ◌∙◌}
use lib.ListN.{get_or}
use Rattle.kinds.specs.Primitive.{Widths, width, primitives, primitive_size}
use Rattle.kinds.specs.Tree as T
use Rattle.kinds.specs.Tree.{Label, Trees, end, node, primitive, bit_field, typed_bit_field, pointer, atomic, array, struct, union}
use Rattle.kinds.specs.declared.Primitive.{Primitive}
use Rattle.kinds.specs.declared.Primitive.TheVariants as P
use Rattle.layout.specs.Layout.{Extent, part, primitive_alignment, primitive_extent, alignments, fields_end, members_end, only_extent, node_extent, extents, extent}
use Rattle.layout.proofs.MultipleLaws.{times-of, is-multiple}

abbrev Multiple : ℕ → ℕ → Type 0
Multiple n a = (k : ℕ) × (n ≡ k * a)

once : (n : ℕ) → Multiple n n
once n = (1, omega arith)

abbrev Whole : List Extent → Type 0
Whole [] = Unit {0}
Whole (x ∷ xs) = Multiple x.bytes x.alignment × Whole xs

only-whole : (xs : List Extent) → Whole xs → Multiple (only_extent xs).bytes (only_extent xs).alignment
unfolding only_extent
only-whole [] h = (0, refl)
only-whole (x ∷ xs) h = h.0

times-whole : (n b a : ℕ) → Multiple b a → Multiple (n * b) a
times-whole n b a m = (n * m.0, ap (λ x. n * x) m.1 ∙ sym (mul_assoc n m.0 a))

module _ (w : Widths) where
  primitive-whole : (q : Primitive) → Multiple (unwrap_or (width w q) 0) (unwrap_or (width w (part q)) 1)
  primitive-whole P.Char = once 1
  primitive-whole P.Short = once 2
  primitive-whole P.Int = once 4
  primitive-whole P.Long = once w.long
  primitive-whole P.LongLong = once 8
  primitive-whole P.UChar = once 1
  primitive-whole P.UShort = once 2
  primitive-whole P.UInt = once 4
  primitive-whole P.ULong = once w.unsigned-long
  primitive-whole P.ULongLong = once 8
  primitive-whole P.Float = once 4
  primitive-whole P.Double = once 8
  primitive-whole P.LongDouble = once w.long-double
  primitive-whole P.FloatComplex = (2, refl)
  primitive-whole P.DoubleComplex = (2, refl)
  primitive-whole P.LongDoubleComplex = (2, refl)
  primitive-whole P.Bool = once 1
  primitive-whole P.Void = (0, refl)
  primitive-whole P.String = once w.pointer
  primitive-whole P.Object = once w.pointer
  primitive-whole P.Block = once w.pointer
  primitive-whole P.Class = once w.pointer
  primitive-whole P.Sel = once w.pointer
  primitive-whole P.Unknown = (0, refl)

  primitives-whole : (qs : List Primitive) (i : ℕ) → Multiple (unwrap_or (get_or (map (width w) qs) i None) 0) (unwrap_or (get_or (map (λ q. width w (part q)) qs) i None) 1)
  primitives-whole [] i = (0, refl)
  primitives-whole (q ∷ qs) zero = primitive-whole q
  primitives-whole (q ∷ qs) (suc i) = primitives-whole qs i

  node-whole : (l : Label) (xs : List Extent) → Whole xs → Multiple (node_extent w l xs).bytes (node_extent w l xs).alignment
  unfolding node_extent primitive_extent primitive_alignment primitive_size
  node-whole (primitive q) xs h = primitives-whole primitives q
  node-whole (bit_field n) xs h = (0, refl)
  node-whole (typed_bit_field o n) xs h = (0, refl)
  node-whole pointer xs h = once w.pointer
  node-whole atomic xs h = only-whole xs h
  node-whole (array n) xs h = times-whole n (only_extent xs).bytes (only_extent xs).alignment (only-whole xs h)
  node-whole (struct s) xs h = (times-of (alignments xs) (fields_end 0 xs), is-multiple (alignments xs) (fields_end 0 xs))
  node-whole (union s) xs h = (times-of (alignments xs) (members_end xs), is-multiple (alignments xs) (members_end xs))
  node-whole T.none xs h = (0, refl)

  extents-whole : (ts : Trees) → Whole (extents w ts)
  unfolding extents
  extents-whole end = tt
  extents-whole (node l cs ts) = (node-whole l (extents w cs) (extents-whole cs), extents-whole ts)

  pub extent-whole : (t : Trees) → (k : ℕ) × ((extent w t).bytes ≡ k * (extent w t).alignment)
  unfolding extent
  extent-whole t = only-whole (extents w t) (extents-whole t)
