-- What the calls answer: where the fields of a tree lie. `w` is the words of a sheet from its first node on, `os` the list that `layout` fills, and `xs` the
-- one that `extents` fills.
use Rattle.std.specs.Prelude.{ℕ, zero, suc, ◌+◌, ◌-◌, ◌*◌, max, Bool, true, false, cond, ◌&&◌, List, leb, ltb, eqb, get_or}
use Rattle.kinds.specs.Sheet.{kind_at, count_at, is_container_kind}
use Rattle.kinds.specs.declared.Refusal.TheVariants.{SizeTooLarge}
use Rattle.std.specs.Prelude.{Option, Some, Result, Ok, Err}
use Rattle.kinds.specs.declared.Refusal.{Refusal}
use Rattle.fields.specs.declared.Hole.{Hole}

-- Node `j` holds node `i`, directly or not: it stands before it, and its subtree reaches beyond it.
unfoldable pub holds : List ℕ → ℕ → ℕ → Bool
holds w j i = ltb j i && ltb (i - j) (count_at w (4 * j))

-- It is a pointer besides.
unfoldable pub points : List ℕ → ℕ → ℕ → Bool
points w j i = eqb (kind_at w (4 * j)) 26 && holds w j i

-- Node `i` of a tree that has a layout is laid out: no pointer holds it. (A container that hides its fields has no size, so that there is no layout.)
unfoldable pub none_of : List ℕ → ℕ → ℕ → Bool
none_of w i zero = true
none_of w i (suc j) = cond (points w j i) false (none_of w i j)

unfoldable pub is_laid_out : List ℕ → ℕ → Bool
is_laid_out w i = none_of w i i

-- The node that holds node `i` directly: the last that holds it; the node itself where there is none.
unfoldable pub last_of : List ℕ → ℕ → ℕ → ℕ
last_of w i zero = i
last_of w i (suc j) = cond (holds w j i) j (last_of w i j)

unfoldable pub holder_of : List ℕ → ℕ → ℕ
holder_of w i = last_of w i i

-- Node `j` is a field of node `p`, a struct or a union.
unfoldable pub is_field_of : List ℕ → ℕ → ℕ → Bool
is_field_of w p j = ltb p j && (eqb (holder_of w j) p && is_container_kind (kind_at w (4 * p)))

unfoldable pub is_field : List ℕ → ℕ → Bool
is_field w i = is_field_of w (holder_of w i) i

-- The subtree of node `i` ends with node `last`, which does not stand before it.
unfoldable pub ends_with : List ℕ → ℕ → ℕ → Bool
ends_with w i last = eqb (count_at w (4 * i)) (last - i + 1)

-- The size and the alignment of node `i`: where there is none in the list the size is too large.
unfoldable pub extent_of : List ℕ → ℕ → Result (Option (ℕ × ℕ)) Refusal
extent_of xs i = cond (eqb (get_or xs (2 * i + 1) 0) 0) (Err SizeTooLarge) (Ok (Some (get_or xs (2 * i) 0, get_or xs (2 * i + 1) 0)))

-- What lies between an end and the next beginning.
unfoldable pub gap : ℕ → ℕ → Hole
gap e n = cond (ltb e n) (record { begin = e; bytes = n - e }) (record { begin = 0; bytes = 0 })

-- Node `i` is the last field of `p`: their subtrees end together.
unfoldable pub is_last : List ℕ → ℕ → ℕ → Bool
is_last w p i = leb (count_at w (4 * p) - (i - p)) (count_at w (4 * i))

-- The size of the largest field of `p` among the first `n` nodes.
unfoldable pub largest : List ℕ → List ℕ → ℕ → ℕ → ℕ
largest w xs p zero = 0
largest w xs p (suc j) = max (largest w xs p j) (cond (is_field_of w p j) (get_or xs (2 * j) 0) 0)

-- The padding after field `i` of `p`: in a struct from its end up to the next field, or to the end of `p`; in a union from the end of the largest to the end
-- of `p`, after the last of them. None is found at the end of a container that is too large.
unfoldable pub hole_in : List ℕ → List ℕ → List ℕ → ℕ → ℕ → Hole
hole_in w os xs p i =
    cond (eqb (kind_at w (4 * p)) 30)
    (cond (is_last w p i) (gap (max (largest w xs p i) (get_or xs (2 * i) 0)) (get_or xs (2 * p) 0)) (gap 0 0))
    (gap (get_or os i 0 + get_or xs (2 * i) 0) (cond (is_last w p i) (get_or xs (2 * p) 0) (get_or os (i + count_at w (4 * i)) 0)))

-- The padding after node `i`; none where it is no field or is not laid out.
unfoldable pub hole_after : List ℕ → List ℕ → List ℕ → ℕ → Hole
hole_after w os xs i = cond (is_field w i && is_laid_out w i) (hole_in w os xs (holder_of w i) i) (gap 0 0)
