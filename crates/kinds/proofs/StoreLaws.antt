-- Laws on runs of stores.
use Prim.Native.Nat.{ℕ, zero, suc, ◌+◌, ◌-◌, ◌≤◌, ◌<◌}
use mathlib.Core.Path.{◌≡◌, refl, sym, ap, ◌∙◌}
use mathlib.Core.List.{List, [], ◌∷◌, ◌++◌}
use native.Mathlib.Nat.{add-zero, zero-add, suc-add}
use native.Mathlib.Omega.{arith}
use native.Mathlib.Numerals.{add-one}
use lib.ListN.{length, take, drop, get_or, set, replicate, length-set, take-append-drop}
use lib.Seq.{sets, set_comm, set-get_or, get_or-set_other, drop-set-lt, take-suc, length-take-le, set-append_left}
use borrow.Rule.Slice.PartMut.{mid_of, post_of, put_mid, mid_len}

-- Runs that stand side by side are one run.
pub sets-append : (w : List ℕ) (i : ℕ) (a b : List ℕ) → sets w i (a ++ b) ≡ sets (sets w i a) (i + length a) b
sets-append w i [] b = rw add-zero
sets-append w i (x ∷ a) b = sets-append (set w i x) (suc i) a b ∙ ap (λ (k : ℕ). sets (sets (set w i x) (suc i) a) k b) (omega arith)

-- So may one in front.
pub set-sets : (w : List ℕ) (i : ℕ) (x : ℕ) (j : ℕ) (b : List ℕ) → i < j → set (sets w j b) i x ≡ sets (set w i x) j b
set-sets w i x j [] h = refl
set-sets w i x j (y ∷ b) h = set-sets (set w j y) i x (suc j) b (omega arith) ∙ ap (λ (l : List ℕ). sets l (suc j) b) (set_comm w j i y x (omega arith))

-- The run in front may be stored last.
pub sets-front : (w : List ℕ) (i : ℕ) (a : List ℕ) (j : ℕ) (b : List ℕ) → i + length a ≤ j → sets (sets w j b) i a ≡ sets (sets w i a) j b
sets-front w i [] j b h = refl
sets-front w i (x ∷ a) j b h =
    ap (λ (l : List ℕ). sets l (suc i) a) (set-sets w i x j b (omega arith))
    ∙ sets-front (set w i x) (suc i) a j b (omega arith)

pub sets-front-append : (w : List ℕ) (i j : ℕ) (a b : List ℕ) → j ≡ i + length a → sets (sets w j b) i a ≡ sets w i (a ++ b)
sets-front-append w i j a b e = sets-front w i a j b (omega arith) ∙ ap (λ (k : ℕ). sets (sets w i a) k b) e ∙ sym (sets-append w i a b)

-- What lies beyond a run is kept.
pub drop-sets : (w : List ℕ) (i : ℕ) (v : List ℕ) (e : ℕ) → i + length v ≤ e → drop e (sets w i v) ≡ drop e w
drop-sets w i [] e h = refl
drop-sets w i (x ∷ v) e h = drop-sets (set w i x) (suc i) v e (omega arith) ∙ drop-set-lt e w i x (omega arith)

pub get_d_sets : (w : List ℕ) (i : ℕ) (v : List ℕ) (k : ℕ) → i + length v ≤ k → get_or (sets w i v) k 0 ≡ get_or w k 0
get_d_sets w i [] k h = refl
get_d_sets w i (x ∷ v) k h = get_d_sets (set w i x) (suc i) v k (omega arith) ∙ get_or-set_other w i k x 0 (omega arith)

-- What is there already may be stored again.
pub sets_same : (w : List ℕ) (i n x : ℕ) → ((k : ℕ) → k < n → get_or w (i + k) 0 ≡ x) → sets w i (replicate n x) ≡ w
sets_same w i zero x h = refl
sets_same w i (suc n) x h =
    let e : set w i x ≡ w = ap (set w i) (sym (ap (λ (k : ℕ). get_or w k 0) (sym (add-zero i)) ∙ h 0 (omega arith))) ∙ set-get_or w i 0 in
    ap (λ (l : List ℕ). sets l (suc i) (replicate n x)) e
    ∙ sets_same w (suc i) n x (λ k l. ap (λ (j : ℕ). get_or w j 0) (omega arith) ∙ h (suc k) (omega arith))

-- A run that grows by one.
pub sets_more : (w : List ℕ) (m : ℕ) (s : List ℕ) (i : ℕ) → i < length s → set (sets w m (take i s)) (m + i) (get_or s i 0) ≡ sets w m (take (i + 1) s)
sets_more w m s i h =
    ap (λ (k : ℕ). set (sets w m (take i s)) (m + k) (get_or s i 0)) (sym (length-take-le i s (omega arith)))
    ∙ sym (sets-append w m (take i s) (get_or s i 0 ∷ []))
    ∙ ap (sets w m) (sym (take-suc s i 0 h))
    ∙ ap (λ (k : ℕ). sets w m (take k s)) (sym (add-one i))

sets-cons : (x : ℕ) (w : List ℕ) (i : ℕ) (v : List ℕ) → sets (x ∷ w) (suc i) v ≡ x ∷ sets w i v
sets-cons x w i [] = refl
sets-cons x w i (y ∷ v) = sets-cons x (set w i y) (suc i) v

-- A run as long as the list.
pub sets-whole : (w v : List ℕ) → length w ≡ length v → sets w 0 v ≡ v
sets-whole [] [] h = refl
sets-whole [] (y ∷ v) h = absurd (omega arith)
sets-whole (x ∷ w) [] h = absurd (omega arith)
sets-whole (x ∷ w) (y ∷ v) h = sets-cons y w 0 v ∙ ap (λ (t : List ℕ). y ∷ t) (sets-whole w v (omega arith))

-- A run stored in a part of the list, from `a` on.
pub sets-part : (a : ℕ) (w : List ℕ) (i : ℕ) (v : List ℕ) → a ≤ length w → take a w ++ sets (drop a w) i v ≡ sets w (a + i) v
sets-part zero w i v h = ap (λ (k : ℕ). sets w k v) (sym (zero-add i))
sets-part (suc a) [] i v h = absurd (omega arith)
sets-part (suc a) (x ∷ w) i v h =
    ap (λ (t : List ℕ). x ∷ t) (sets-part a w i v (omega arith))
    ∙ sym (sets-cons x w (a + i) v)
    ∙ ap (λ (k : ℕ). sets (x ∷ w) k v) (sym (suc-add a i))

-- A run stored in the first of two lists.
sets-left : (x y : List ℕ) (i : ℕ) (v : List ℕ) → i + length v ≤ length x → sets (x ++ y) i v ≡ sets x i v ++ y
sets-left x y i [] h = refl
sets-left x y i (b ∷ v) h =
    let e : length (set x i b) ≡ length x = length-set x i b in
    ap (λ (l : List ℕ). sets l (suc i) v) (set-append_left x y i b (omega arith)) ∙ sets-left (set x i b) y (suc i) v (omega arith)

-- A run stored in a part of the list that is handed on: from `a` up to `e`.
pub sets-middle : (a e : ℕ) (w : List ℕ) (i : ℕ) (v : List ℕ) → a ≤ e → e ≤ length w → i + length v ≤ e - a → put_mid a (e - a) w (sets (mid_of a (e - a) w) i v) ≡ sets w (a + i) v
sets-middle a e w i v l h r =
    let n : length (mid_of a (e - a) w) ≡ e - a = mid_len a e w h in
    ap (λ (z : List ℕ). take a w ++ z) (sym (sets-left (mid_of a (e - a) w) (post_of a (e - a) w) i v (omega arith)) ∙ ap (λ (z : List ℕ). sets z i v) (take-append-drop (e - a) (drop a w)))
    ∙ sets-part a w i v (omega arith)
