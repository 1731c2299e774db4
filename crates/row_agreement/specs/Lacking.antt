-- Sizes at a level, sizes that are none, trees without a long double or a long, and trees with ints for longs.
use Rattle.std.specs.Prelude.{ℕ, Bool, true, false, cond, not, ◌&&◌, ◌||◌, List, [], ◌∷◌, eqb}
use Rattle.std.specs.Prelude.{Option}
use Rattle.kinds.specs.Byte.{among}
use Rattle.kinds.specs.Primitive.{Widths, kind_of}
use Rattle.kinds.specs.Size.{is_none, only, sizes}
use Rattle.kinds.specs.Tree as T
use Rattle.kinds.specs.Tree.{Label, Trees, end, node, primitive, bit_field, typed_bit_field, pointer, atomic, array, struct, union}
use Rattle.kinds.specs.declared.NestingLevel.{NestingLevel}
use Rattle.kinds.specs.declared.Primitive.TheVariants.{Int, Long, LongDouble, LongDoubleComplex}

-- The size of a tree that stands at a level. `size` is that at the top.
abbrev pub size_from : Widths → NestingLevel → Trees → Option ℕ
size_from w v t = only (sizes w v t)

-- One of the sizes is none.
unfoldable pub one_none : List (Option ℕ) → Bool
one_none [] = false
one_none (x ∷ xs) = is_none x || one_none xs

-- All of the sizes are none.
unfoldable pub all_none : List (Option ℕ) → Bool
all_none [] = true
all_none (x ∷ xs) = is_none x && all_none xs

-- The label is a code whose kind passes the test.
unfoldable pub is_code : (ℕ → Bool) → Label → Bool
is_code f (primitive p) = f p
is_code f (bit_field n) = false
is_code f (typed_bit_field o n) = false
is_code f pointer = false
is_code f atomic = false
is_code f (array n) = false
is_code f (struct s) = false
is_code f (union s) = false
is_code f T.none = false

-- No node of the trees is such a code.
unfoldable pub lacks : (ℕ → Bool) → Trees → Bool
lacks f end = true
lacks f (node l cs ts) = not (is_code f l) && (lacks f cs && lacks f ts)

-- A long double or a complex number of two.
unfoldable pub is_long_double : ℕ → Bool
is_long_double p = among p (kind_of LongDouble ∷ kind_of LongDoubleComplex ∷ [])

unfoldable pub is_long : ℕ → Bool
is_long p = eqb p (kind_of Long)

abbrev pub no_long_double : Trees → Bool
no_long_double t = lacks is_long_double t

abbrev pub no_long : Trees → Bool
no_long t = lacks is_long t

-- An int in the place of a long.
unfoldable pub int_for : Label → Label
int_for (primitive p) = primitive (cond (is_long p) (kind_of Int) p)
int_for (bit_field n) = bit_field n
int_for (typed_bit_field o n) = typed_bit_field o n
int_for pointer = pointer
int_for atomic = atomic
int_for (array n) = array n
int_for (struct s) = struct s
int_for (union s) = union s
int_for T.none = T.none

-- The trees with an int in the place of each long.
unfoldable pub ints_for_longs : Trees → Trees
ints_for_longs end = end
ints_for_longs (node l cs ts) = node (int_for l) (ints_for_longs cs) (ints_for_longs ts)
