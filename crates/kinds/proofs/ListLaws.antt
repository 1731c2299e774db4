-- Laws of the unread part of a list.
use Prim.Native.Nat.{ℕ, ◌+◌, ◌-◌, ◌≤◌, ◌<◌}
use mathlib.Core.Path.{◌≡◌, refl}
use mathlib.Core.List.{List, [], ◌∷◌}
use native.Mathlib.Numerals.{add-one}
use native.Mathlib.Omega.{arith}
use lib.ListN.{length, take, drop, get_or, length-drop}
use lib.Seq.{take_all, drop-cons}

-- The next byte and what follows it.
pub unread : (s : List ℕ) (i : ℕ) → i < length s → drop i s ≡ get_or s i 0 ∷ drop (i + 1) s
unread s i h = rw (add-one, drop-cons s i 0)

pub unread-end : (s : List ℕ) (i : ℕ) → length s ≤ i → drop i s ≡ []
unread-end s i h = none (drop i s) (simp length-drop (omega arith))
  where
    none : (t : List ℕ) → length t ≡ 0 → t ≡ []
    none [] e = refl
    none (b ∷ t) e = absurd (omega arith)

-- The part from a place to the end.
pub part-rest : (s : List ℕ) (k : ℕ) → take (length s - k) (drop k s) ≡ drop k s
part-rest s k = let e = length-drop k s in take_all (length s - k) (drop k s) (omega arith)

-- The part from the start on, as `&s[0..]` lends it.
pub whole : (s : List ℕ) → take (length s - 0) s ≡ s
whole s = part-rest s 0
