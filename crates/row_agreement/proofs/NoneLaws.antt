-- Where there is no size: on every machine or on none, in structs, unions and arrays.
use Prim.Native.Nat.{ℕ, zero, suc}
use native.Mathlib.Omega.{arith}
use mathlib.Core.Bool.{Bool, true, false, cond, ◌&&◌, ◌||◌, true≢false, false≢true}
use mathlib.Core.List.{List, [], ◌∷◌, map}
use Rattle.std.specs.Prelude.{Option, Some, None}
use mathlib.Core.Path.{◌≡◌, refl, sym, ap, ap₂, ◌∙◌}
use lib.ListN.{get_or}
use Rattle.kinds.specs.Level.{shows_fields}
use Rattle.kinds.specs.Primitive.{Widths, width, primitives, primitive_size}
use Rattle.kinds.specs.Size.{is_none, plus, larger, times, sum, largest, only, node_size, sizes}
use Rattle.kinds.specs.Tree as T
use Rattle.kinds.specs.Tree.{Label, Trees, end, node, primitive, bit_field, typed_bit_field, pointer, atomic, array, struct, union, inside}
use Rattle.kinds.specs.declared.NestingLevel.{NestingLevel}
use Rattle.kinds.specs.declared.NestingLevel.TheVariants.{Within}
use Rattle.kinds.specs.declared.Primitive.{Primitive}
use Rattle.kinds.specs.declared.Primitive.TheVariants as P
use Rattle.row_agreement.specs.Lacking.{size_from, one_none, all_none}

-- ---- Whether there is a size depends on no width.

plus_none : (a b : Option ℕ) → is_none (plus a b) ≡ (is_none a || is_none b)
unfolding is_none plus
plus_none None b = refl
plus_none (Some a) None = refl
plus_none (Some a) (Some b) = refl

larger-none : (a b : Option ℕ) → is_none (larger a b) ≡ (is_none a && is_none b)
unfolding is_none larger
larger-none None b = refl
larger-none (Some a) None = refl
larger-none (Some a) (Some b) = refl

times_none : (n : ℕ) (a : Option ℕ) → is_none (times n a) ≡ is_none a
unfolding is_none times
times_none n None = refl
times_none n (Some a) = refl

sum-none : (xs : List (Option ℕ)) → is_none (sum xs) ≡ one_none xs
unfolding sum one_none is_none
sum-none [] = refl
sum-none (x ∷ xs) = plus_none x (sum xs) ∙ ap (λ b. is_none x || b) (sum-none xs)

largest-none : (xs : List (Option ℕ)) → is_none (largest xs) ≡ all_none xs
unfolding largest all_none is_none
largest-none [] = refl
largest-none (x ∷ xs) = larger-none x (largest xs) ∙ ap (λ b. is_none x && b) (largest-none xs)

-- Sizes of which the same are none.
abbrev nones : List (Option ℕ) → List Bool
nones xs = map is_none xs

one_of : List Bool → Bool
one_of [] = false
one_of (b ∷ bs) = b || one_of bs

all_of : List Bool → Bool
all_of [] = true
all_of (b ∷ bs) = b && all_of bs

first_of : List Bool → Bool
first_of [] = true
first_of (b ∷ bs) = b

one-nones : (xs : List (Option ℕ)) → one_none xs ≡ one_of (nones xs)
unfolding one_none one_of
one-nones [] = refl
one-nones (x ∷ xs) = ap (λ b. is_none x || b) (one-nones xs)

all-nones : (xs : List (Option ℕ)) → all_none xs ≡ all_of (nones xs)
unfolding all_none all_of
all-nones [] = refl
all-nones (x ∷ xs) = ap (λ b. is_none x && b) (all-nones xs)

first-nones : (xs : List (Option ℕ)) → is_none (only xs) ≡ first_of (nones xs)
unfolding only first_of is_none
first-nones [] = refl
first-nones (x ∷ xs) = refl

-- What depends on nothing else of sizes is the same of two lists of them.
of-nones : (f : List (Option ℕ) → Bool) (g : List Bool → Bool) → ((xs : List (Option ℕ)) → f xs ≡ g (nones xs)) → (xs ys : List (Option ℕ)) → nones xs ≡ nones ys → f xs ≡ f ys
of-nones f g h xs ys e = h xs ∙ ap g e ∙ sym (h ys)

module _ (w u : Widths) where
  width-none : (p : Primitive) → is_none (width w p) ≡ is_none (width u p)
  unfolding is_none
  width-none P.Char = refl
  width-none P.Short = refl
  width-none P.Int = refl
  width-none P.Long = refl
  width-none P.LongLong = refl
  width-none P.UChar = refl
  width-none P.UShort = refl
  width-none P.UInt = refl
  width-none P.ULong = refl
  width-none P.ULongLong = refl
  width-none P.Float = refl
  width-none P.Double = refl
  width-none P.LongDouble = refl
  width-none P.FloatComplex = refl
  width-none P.DoubleComplex = refl
  width-none P.LongDoubleComplex = refl
  width-none P.Bool = refl
  width-none P.Void = refl
  width-none P.String = refl
  width-none P.Object = refl
  width-none P.Block = refl
  width-none P.Class = refl
  width-none P.Sel = refl
  width-none P.Unknown = refl

  widths-none : (ps : List Primitive) (p : ℕ) → is_none (get_or (map (width w) ps) p None) ≡ is_none (get_or (map (width u) ps) p None)
  widths-none [] p = refl
  widths-none (q ∷ ps) zero = width-none q
  widths-none (q ∷ ps) (suc p) = widths-none ps p

  shown-none : (b : Bool) (x y : Option ℕ) → is_none x ≡ is_none y → is_none (cond b x None) ≡ is_none (cond b y None)
  shown-none true x y e = e
  shown-none false x y e = refl

  node-none : (l : Label) (v : NestingLevel) (xs ys : List (Option ℕ)) → nones xs ≡ nones ys → is_none (node_size w l v xs) ≡ is_none (node_size u l v ys)
  unfolding node_size primitive_size is_none
  node-none (primitive p) v xs ys e = widths-none primitives p
  node-none (bit_field n) v xs ys e = refl
  node-none (typed_bit_field o n) v xs ys e = refl
  node-none pointer v xs ys e = refl
  node-none atomic v xs ys e = of-nones (λ z. is_none (only z)) first_of first-nones xs ys e
  node-none (array n) v xs ys e = times_none n (only xs) ∙ of-nones (λ z. is_none (only z)) first_of first-nones xs ys e ∙ sym (times_none n (only ys))
  node-none (struct s) v xs ys e = shown-none (shows_fields v) (sum xs) (sum ys) (of-nones (λ z. is_none (sum z)) one_of (λ z. sum-none z ∙ one-nones z) xs ys e)
  node-none (union s) v xs ys e = shown-none (shows_fields v) (largest xs) (largest ys) (of-nones (λ z. is_none (largest z)) all_of (λ z. largest-none z ∙ all-nones z) xs ys e)
  node-none T.none v xs ys e = refl

  sizes-none : (v : NestingLevel) (ts : Trees) → nones (sizes w v ts) ≡ nones (sizes u v ts)
  unfolding sizes
  sizes-none v end = refl
  sizes-none v (node l cs ts) = ap₂ ◌∷◌ (node-none l v (sizes w (inside l v) cs) (sizes u (inside l v) cs) (sizes-none (inside l v) cs)) (sizes-none v ts)

  pub size_none : (v : NestingLevel) (t : Trees) → is_none (size_from w v t) ≡ is_none (size_from u v t)
  size_none v t = of-nones (λ z. is_none (only z)) first_of first-nones (sizes w v t) (sizes u v t) (sizes-none v t)

-- ---- Structs, unions and arrays.

module _ (w : Widths) (v : NestingLevel) (h : shows_fields v ≡ true) (s : List ℕ) (cs ts : Trees) where
  pub struct-none : is_none (size_from w v (node (struct s) cs ts)) ≡ one_none (sizes w Within cs)
  unfolding sizes node_size only
  struct-none = rw h (sum-none (sizes w Within cs))

  pub union-none : is_none (size_from w v (node (union s) cs ts)) ≡ all_none (sizes w Within cs)
  unfolding sizes node_size only
  union-none = rw h (largest-none (sizes w Within cs))

times_zero : (x : Option ℕ) → is_none x ≡ false → times 0 x ≡ Some 0
unfolding is_none times
times_zero None e = absurd (true≢false e)
times_zero (Some n) e = ap Some (omega arith)

pub zero-items : (w u : Widths) (v : NestingLevel) (t ts : Trees) → is_none (size_from u v t) ≡ false → size_from w v (node (array 0) t ts) ≡ Some 0
unfolding sizes node_size only
zero-items w u v t ts e = times_zero (size_from w v t) (size_none w u v t ∙ e)

pub none_is : (x : Option ℕ) → is_none x ≡ true → x ≡ None
unfolding is_none
none_is None e = refl
none_is (Some n) e = absurd (false≢true e)
