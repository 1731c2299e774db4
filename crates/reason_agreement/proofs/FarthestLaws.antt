-- The two trees with the longest reason: sheets can hold them, and how long it is.
use Prim.Native.Nat.{ℕ, zero, suc, ◌+◌, ◌*◌, ◌≤◌}
use native.Mathlib.Omega.{arith}
use mathlib.Core.Path.{◌≡◌, refl, ap, ◌∙◌}
use mathlib.Core.Bool.{Bool, true, false, false≢true}
use mathlib.Core.List.{[], ◌∷◌, ◌++◌, append-nil}
use Rattle.std.specs.Prelude.{Option, Some, None}
use lib.ListN as N
use lib.ListN.{replicate, length-append, length-replicate}
use Rattle.kinds.specs.Byte.{byte, bytes, among, is_digit, same_bytes}
use Rattle.kinds.specs.Compare.{bits, level_for}
use Rattle.kinds.specs.Name.{is_name_byte}
use Rattle.kinds.specs.Primitive.{is_object, equivalent}
use Rattle.kinds.specs.Print.{digits, decimal}
use Rattle.kinds.specs.Sheet.{Holds, names_of, sheet_of}
use Rattle.kinds.specs.Sound.{valid_label, valid_count, valid, good_name, good_names}
use Rattle.kinds.specs.Tree as T
use Rattle.kinds.specs.Tree.{Trees, end, node, pointer, struct, is_end, is_one, is_container, inside}
use Rattle.kinds.specs.declared.NestingLevel.{NestingLevel}
use Rattle.kinds.specs.declared.NestingLevel.TheVariants.{Top}
use Rattle.sheet.specs.Answer.{holding, held, held_both, of_sheets}
use Rattle.static_str.proofs.NumberLaws.{decimal-one}
use Rattle.bounds.proofs.HeldLaws.{holds-held, layout-holds}
use Rattle.bounds.proofs.LongestLaws.{name-good}
use Rattle.reason.specs.Answer.{measured, reason_len}
use Rattle.reason.specs.Reason.{Difference, name, Reason, or_else, unless, offset_of, length_of, own_difference, items, items_compared, count_difference, here, under, node_difference, items_difference, first_difference}
use Rattle.reason.specs.Reason.{dotted, path_text, value_text, values_text, difference_text, reason_text}
use Rattle.std.specs.Prelude.{Ok}
use Rattle.reason_agreement.specs.Limits.{max_reason, pointers_to, far_struct, most_pointers, farthest_r, farthest_s}
use Rattle.reason_agreement.proofs.AlongLaws.{reason}
use Rattle.reason_agreement.proofs.KindLaws.{one-items}

-- ---- The trees.

module _ (t : Trees) where
  to_one : is_one t ≡ true → (n : ℕ) → is_one (pointers_to n t) ≡ true
  unfolding pointers_to is_one is_end
  to_one h zero = h
  to_one h (suc n) = refl

  to-valid : is_one t ≡ true → valid t ≡ true → (n : ℕ) → valid (pointers_to n t) ≡ true
  unfolding pointers_to valid valid_label valid_count
  to-valid o h zero = h
  to-valid o h (suc n) = rw (to_one o n, to-valid o h n)

  to-good : good_names t ≡ true → (n : ℕ) → good_names (pointers_to n t) ≡ true
  unfolding pointers_to good_names good_name
  to-good h zero = h
  to-good h (suc n) = rw (to-good h n)

  to-count : (n : ℕ) → T.count (pointers_to n t) ≡ n + T.count t
  unfolding pointers_to T.count
  to-count zero = omega arith
  to-count (suc n) = omega (arith, to-count n)

  to-names : (n : ℕ) → names_of (pointers_to n t) ≡ names_of t
  unfolding pointers_to names_of T.name
  to-names zero = refl
  to-names (suc n) = append-nil (names_of (pointers_to n t)) ∙ to-names n

abbrev core : ℕ → ℕ → Trees
core m b = node (struct (replicate m b)) end end

far-holds : (n m b : ℕ) → n ≤ 2000 → m ≤ 2000 → Holds (sheet_of (far_struct n m b)) (names_of (far_struct n m b)) (far_struct n m b)
unfolding far_struct is_one is_end valid valid_label valid_count T.count names_of T.name
far-holds n m b p q =
    layout-holds (far_struct n m b) (to_one (core m b) refl n) (to-valid (core m b) refl refl n) (omega (arith, to-count (core m b) n))
    (omega (arith, ap N.length (to-names (core m b) n ∙ append-nil (replicate m b)), length-replicate m b))

far-good : (n m b : ℕ) → is_name_byte b ≡ true → good_names (far_struct n (suc (suc m)) b) ≡ true
unfolding far_struct good_names good_name
far-good n m b h = to-good (core (suc (suc m)) b) (rw (name-good m b h)) n

-- ---- Their first difference.

-- Of one item on each side.
one-item : (all : Bool) (v : NestingLevel) (x y : Trees) → is_one x ≡ true → is_one y ≡ true → items_difference all v 0 x y ≡ under 0 (first_difference all v x y)
unfolding is_one is_end items_difference first_difference or_else
one-item all v end y a b = absurd (false≢true a)
one-item all v (node l cs ts) end a b = absurd (false≢true b)
one-item all v (node l cs (node k es xs)) (node m ds us) a b = absurd (false≢true a)
one-item all v (node l cs end) (node m ds us) a b = else-none (under 0 (first_difference all v (node l cs end) (node m ds us)))
  where
    else-none : (z : Option Reason) → or_else z None ≡ z
    else-none None = refl
    else-none (Some r) = refl

-- A pointer on each side.
pointer-difference : (all : Bool) (v : NestingLevel) (x y : Trees) → is_one x ≡ true → is_one y ≡ true
    → first_difference all v (node pointer x end) (node pointer y end) ≡ under 0 (first_difference all (inside pointer (level_for all v)) x y)
unfolding first_difference node_difference own_difference equivalent is_object among T.kind bits offset_of length_of same_bytes T.name unless or_else here items_compared is_container count_difference
pointer-difference all v x y a b = rw (one-items x a, one-items y b) (one-item all (inside pointer (level_for all v)) x y a b)

far-difference : (all : Bool) (v : NestingLevel) (n : ℕ) (t u : Trees) (d : Difference) → is_one t ≡ true → is_one u ≡ true
    → ((w : NestingLevel) → first_difference all w t u ≡ Some (reason [] d)) → first_difference all v (pointers_to n t) (pointers_to n u) ≡ Some (reason (replicate n 0) d)
unfolding pointers_to under
far-difference all v zero t u d a b h = h v
far-difference all v (suc n) t u d a b h =
    pointer-difference all v (pointers_to n t) (pointers_to n u) (to_one t a n) (to_one u b n)
    ∙ ap (under 0) (far-difference all (inside pointer (level_for all v)) n t u d a b h)

core-difference : (all : Bool) (v : NestingLevel) (m b c : ℕ) → same_bytes (replicate m b) (replicate m c) ≡ false
    → first_difference all v (core m b) (core m c) ≡ Some (reason [] (name (replicate m b) (replicate m c)))
unfolding first_difference node_difference own_difference equivalent is_object among T.kind bits offset_of length_of T.name unless or_else here
core-difference all v m b c h = rw h

-- ---- Its bytes.

zeros-length : (n : ℕ) → N.length (dotted (replicate n 0)) ≡ 2 * n
unfolding dotted
zeros-length zero = refl
zeros-length (suc n) = omega (arith, length-append (decimal 0) (dotted (replicate n 0)), decimal-one 0 (omega arith), zeros-length n)

far-path : (n : ℕ) → N.length (path_text (replicate (suc n) 0)) ≡ 2 * n + 1
unfolding path_text
far-path n = omega (arith, length-append (decimal 0) (dotted (replicate n 0)), decimal-one 0 (omega arith), zeros-length n)

name-value : (m b k : ℕ) → N.length (decimal m) ≡ k → N.length (value_text (replicate m b)) ≡ m + k + 2
unfolding value_text
name-value m b k h =
    let l = length-replicate m b in
    let d = ap (λ x. N.length (decimal x)) l in
    omega (arith, length-append (decimal (N.length (replicate m b))) (byte ":" ∷ replicate m b))

far-length : (n m b c k : ℕ) → N.length (decimal m) ≡ k
    → N.length (reason_text (reason (replicate (suc n) 0) (name (replicate m b) (replicate m c)))) ≡ 2 * n + 2 * m + 2 * k + 10
unfolding reason_text difference_text values_text
far-length n m b c k h =
    let s = replicate m b in
    let t = replicate m c in
    omega (
      arith,
      length-append (path_text (replicate (suc n) 0)) (byte ":" ∷ (bytes "name" ++ (value_text s ++ value_text t))),
      far-path n,
      length-append (value_text s) (value_text t),
      name-value m b k h,
      name-value m c k h,
    )

-- ---- The longest.

letters_named : (is_name_byte (byte "R") ≡ true) × (is_name_byte (byte "S") ≡ true)
unfolding is_name_byte is_digit
letters_named = (refl, refl)

letters_differ : (m : ℕ) → same_bytes (replicate (suc m) (byte "R")) (replicate (suc m) (byte "S")) ≡ false
unfolding same_bytes
letters_differ m = refl

four_digits : N.length (decimal 2000) ≡ 4
unfolding decimal digits
four_digits = refl

far-found : (all : Bool) (n m : ℕ) → first_difference all Top (far_struct n (suc m) (byte "R")) (far_struct n (suc m) (byte "S"))
    ≡ Some (reason (replicate n 0) (name (replicate (suc m) (byte "R")) (replicate (suc m) (byte "S"))))
unfolding far_struct is_one is_end
far-found all n m =
    far-difference all Top n (core (suc m) (byte "R")) (core (suc m) (byte "S")) (name (replicate (suc m) (byte "R")) (replicate (suc m) (byte "S"))) refl refl
    (λ w. core-difference all w (suc m) (byte "R") (byte "S") (letters_differ m))

held-R : held (sheet_of farthest_r) (names_of farthest_r) ≡ holding farthest_r
unfolding farthest_r
held-R = holds-held (sheet_of (far_struct most_pointers 2000 (byte "R"))) (names_of (far_struct most_pointers 2000 (byte "R"))) (far_struct most_pointers 2000 (byte "R"))
    (far-holds most_pointers 2000 (byte "R") (omega arith) (omega arith)) (far-good most_pointers 1998 (byte "R") letters_named.0)

held-S : held (sheet_of farthest_s) (names_of farthest_s) ≡ holding farthest_s
unfolding farthest_s
held-S = holds-held (sheet_of (far_struct most_pointers 2000 (byte "S"))) (names_of (far_struct most_pointers 2000 (byte "S"))) (far_struct most_pointers 2000 (byte "S"))
    (far-holds most_pointers 2000 (byte "S") (omega arith) (omega arith)) (far-good most_pointers 1998 (byte "S") letters_named.1)

farthest : (all : Bool) → measured (first_difference all Top farthest_r farthest_s) ≡ Ok (Some max_reason)
unfolding farthest_r farthest_s measured
farthest all = ap measured (far-found all most_pointers 1999) ∙ ap (λ (x : ℕ). Ok (Some x)) (far-length 1999 2000 (byte "R") (byte "S") 4 four_digits)

pub reaches : (all : Bool) → reason_len all (sheet_of farthest_r) (names_of farthest_r) (sheet_of farthest_s) (names_of farthest_s) ≡ Ok (Some max_reason)
unfolding reason_len of_sheets held_both
reaches all = rw (held-R, held-S) (farthest all)
