-- Row 3 has the width that the guide states, and beside it those of row 0.
use Prim.Native.Nat.{ℕ, ◌*◌}
use native.Mathlib.Omega.{arith}
use mathlib.Core.Logic.{◌↔◌}
use mathlib.Core.Path.{◌≡◌, refl, sym}
use Rattle.std.specs.Prelude.{Some, None}
use Rattle.kinds.specs.Primitive.{widths, primitive_size}
use Rattle.kinds.specs.Size.{only, node_size, sizes, size}
use Rattle.kinds.specs.declared.Primitive.{Primitive}
use Rattle.kinds.specs.declared.Primitive.TheVariants as P
use Rattle.documents.specs.Guide as G
use Rattle.documents.specs.Guide.{Meaning, bits}
use Rattle.documents.specs.Translation.{meant, one}

nothing-stated : {A : Type 0} {n : ℕ} → None ≡ Some n → A
nothing-stated e = let z : ◌≡◌ {A = ℕ} 0 1 = cc in absurd (omega arith)

pub one-stated : (m : Meaning) (n : ℕ) → (bits m ≡ Some n) ↔ ((m ≡ G.long) × (n ≡ 32))
one-stated m n = (from m, λ e. rw (e.0, e.1))
  where
    from : (x : Meaning) → bits x ≡ Some n → (x ≡ G.long) × (n ≡ 32)
    from G.char e = nothing-stated e
    from G.int e = nothing-stated e
    from G.short e = nothing-stated e
    from G.long e = let q : n ≡ 32 = cc in (refl, q)
    from G.long_long e = nothing-stated e
    from G.unsigned_char e = nothing-stated e
    from G.unsigned_int e = nothing-stated e
    from G.unsigned_short e = nothing-stated e
    from G.unsigned_long e = nothing-stated e
    from G.unsigned_long_long e = nothing-stated e
    from G.float e = nothing-stated e
    from G.double e = nothing-stated e
    from G.bool e = nothing-stated e
    from G.void e = nothing-stated e
    from G.string e = nothing-stated e
    from G.object e = nothing-stated e
    from G.class e = nothing-stated e
    from G.selector e = nothing-stated e
    from G.unknown e = nothing-stated e

pub stated-width : (m : Meaning) (n : ℕ) → bits m ≡ Some n → (b : ℕ) × (size (widths 3) (one (meant m)) ≡ Some b) × (8 * b ≡ n)
unfolding size sizes only node_size primitive_size
stated-width m n e = let o = (one-stated m n).0 e in (4, rw o.0, sym o.1)

pub other_width : (p : Primitive) → ((m : Meaning) → p ≡ meant m → bits m ≡ None) → size (widths 3) (one p) ≡ size (widths 0) (one p)
unfolding size sizes only node_size primitive_size
other_width P.Char h = refl
other_width P.Short h = refl
other_width P.Int h = refl
other_width P.Long h = let e = h G.long refl in let z : ◌≡◌ {A = ℕ} 0 1 = cc in absurd (omega arith)
other_width P.LongLong h = refl
other_width P.UChar h = refl
other_width P.UShort h = refl
other_width P.UInt h = refl
other_width P.ULong h = refl
other_width P.ULongLong h = refl
other_width P.Float h = refl
other_width P.Double h = refl
other_width P.LongDouble h = refl
other_width P.FloatComplex h = refl
other_width P.DoubleComplex h = refl
other_width P.LongDoubleComplex h = refl
other_width P.Bool h = refl
other_width P.Void h = refl
other_width P.String h = refl
other_width P.Object h = refl
other_width P.Block h = refl
other_width P.Class h = refl
other_width P.Sel h = refl
other_width P.Unknown h = refl
