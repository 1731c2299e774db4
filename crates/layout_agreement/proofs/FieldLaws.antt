-- Where a struct's fields lie, and what a struct and a union take: each field at the next multiple, none over another, all of them held.
use Prim.Native.Nat.{ℕ, zero, suc, ◌+◌, ◌≤◌, ◌<◌}
use native.Mathlib.Nat.{le-max_left, le-max_right, max-le}
use native.Mathlib.Omega.{arith}
use mathlib.Core.List.{List, [], ◌∷◌}
use mathlib.Core.Path.{◌≡◌, refl, ap, ◌∙◌}
use lib.ListN.{length, get_or}
use Rattle.layout.specs.Layout.{Extent, next_multiple, fields_end, members_end}
use Rattle.layout.proofs.MultipleLaws.{at_or_after}
use Rattle.layout_agreement.specs.Fields.{bytes_at, alignment_at, field_offsets, offset_at, end_at, end_before}
use Rattle.layout_agreement.proofs.ExtentLaws.{Aligned}

-- ---- Fields after one that ends at `e`.

abbrev from : ℕ → List Extent → ℕ → ℕ
from e xs i = get_or (field_offsets e xs) i 0

abbrev before : ℕ → List Extent → ℕ → ℕ
before e xs zero = e
before e xs (suc i) = from e xs i + bytes_at xs i

-- Each begins at the next multiple after the end of the one before.
from_next : (e : ℕ) (xs : List Extent) (i : ℕ) → i < length xs → from e xs i ≡ next_multiple (alignment_at xs i) (before e xs i)
unfolding field_offsets
from_next e [] i h = absurd (omega arith)
from_next e (x ∷ xs) zero h = refl
from_next e (x ∷ xs) (suc zero) h = from_next (next_multiple x.alignment e + x.bytes) xs zero (omega arith)
from_next e (x ∷ xs) (suc (suc i)) h = from_next (next_multiple x.alignment e + x.bytes) xs (suc i) (omega arith)

-- All begin at or after `e`.
from-after : (e : ℕ) (xs : List Extent) → Aligned xs → (i : ℕ) → i < length xs → e ≤ from e xs i
unfolding field_offsets
from-after e [] a i h = absurd (omega arith)
from-after e (x ∷ xs) a zero h = at_or_after x.alignment e a.0
from-after e (x ∷ xs) a (suc i) h =
    omega (arith, at_or_after x.alignment e a.0, from-after (next_multiple x.alignment e + x.bytes) xs a.1 i (omega arith))

from-apart : (e : ℕ) (xs : List Extent) → Aligned xs → (i j : ℕ) → i < j → j < length xs → from e xs i + bytes_at xs i ≤ from e xs j
unfolding field_offsets
from-apart e [] a i j h l = absurd (omega arith)
from-apart e (x ∷ xs) a i zero h l = absurd (omega arith)
from-apart e (x ∷ xs) a zero (suc j) h l = from-after (next_multiple x.alignment e + x.bytes) xs a.1 j (omega arith)
from-apart e (x ∷ xs) a (suc i) (suc j) h l = from-apart (next_multiple x.alignment e + x.bytes) xs a.1 i j (omega arith) (omega arith)

-- The last ends where all of them end.
from_last : (e : ℕ) (xs : List Extent) → fields_end e xs ≡ before e xs (length xs)
unfolding field_offsets fields_end
from_last e [] = refl
from_last e (x ∷ []) = refl
from_last e (x ∷ y ∷ xs) = from_last (next_multiple x.alignment e + x.bytes) (y ∷ xs)

end_after : (e : ℕ) (xs : List Extent) → Aligned xs → e ≤ fields_end e xs
unfolding fields_end
end_after e [] a = omega arith
end_after e (x ∷ xs) a = omega (arith, at_or_after x.alignment e a.0, end_after (next_multiple x.alignment e + x.bytes) xs a.1)

from-held : (e : ℕ) (xs : List Extent) → Aligned xs → (i : ℕ) → i < length xs → from e xs i + bytes_at xs i ≤ fields_end e xs
unfolding field_offsets fields_end
from-held e [] a i h = absurd (omega arith)
from-held e (x ∷ xs) a zero h = end_after (next_multiple x.alignment e + x.bytes) xs a.1
from-held e (x ∷ xs) a (suc i) h = from-held (next_multiple x.alignment e + x.bytes) xs a.1 i (omega arith)

-- ---- A struct's.

before-is : (xs : List Extent) (i : ℕ) → before 0 xs i ≡ end_before xs i
before-is xs zero = refl
before-is xs (suc i) = refl

pub field_next : (xs : List Extent) (i : ℕ) → i < length xs → offset_at xs i ≡ next_multiple (alignment_at xs i) (end_before xs i)
field_next xs i h = from_next 0 xs i h ∙ ap (next_multiple (alignment_at xs i)) (before-is xs i)

pub fields-apart : (xs : List Extent) → Aligned xs → (i j : ℕ) → i < j → j < length xs → end_at xs i ≤ offset_at xs j
fields-apart xs a i j h l = from-apart 0 xs a i j h l

pub fields-last : (xs : List Extent) → fields_end 0 xs ≡ end_before xs (length xs)
fields-last xs = from_last 0 xs ∙ before-is xs (length xs)

pub fields-held : (xs : List Extent) → Aligned xs → (i : ℕ) → i < length xs → end_at xs i ≤ fields_end 0 xs
fields-held xs a i h = from-held 0 xs a i h

-- What holds every field reaches the end of the last.
pub fields-reach : (xs : List Extent) (n : ℕ) → ((i : ℕ) → i < length xs → end_at xs i ≤ n) → fields_end 0 xs ≤ n
fields-reach xs n h = rw (fields-last xs) (go (length xs) (omega arith))
  where
    go : (j : ℕ) → j ≤ length xs → end_before xs j ≤ n
    go zero l = omega arith
    go (suc j) l = h j (omega arith)

-- ---- A union's members.

pub members-held : (xs : List Extent) (i : ℕ) → bytes_at xs i ≤ members_end xs
unfolding members_end
members-held [] i = omega arith
members-held (x ∷ xs) zero = le-max_left x.bytes (members_end xs)
members-held (x ∷ xs) (suc i) = omega (arith, members-held xs i, le-max_right x.bytes (members_end xs))

pub members-reach : (xs : List Extent) (n : ℕ) → ((i : ℕ) → i < length xs → bytes_at xs i ≤ n) → members_end xs ≤ n
unfolding members_end
members-reach [] n h = omega arith
members-reach (x ∷ xs) n h = max-le (h 0 (omega arith)) (members-reach xs n (λ i l. h (suc i) (omega arith)))
