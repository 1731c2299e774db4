-- Laws of the codes and sizes of primitives.
use Prim.Native.Nat.{ℕ, ◌≤◌, ◌<◌}
use native.Mathlib.Omega.{arith}
use mathlib.Core.Path.{◌≡◌, refl, ap, sym, subst}
use mathlib.Core.Bool.{Bool, true, false, cond, false≢true}
use mathlib.Core.List.{List, [], ◌∷◌, map}
use Rattle.std.specs.Prelude.{Option, Some, None, unwrap_or}
use lib.Dec.{eqb, leb, ltb}
use borrow.Author.Tests.{eq-eqb, ne_eqb, eqb-true, lt-leb, leb-true, ltb-true, ltb-false}
use lib.ListN.{get_or, get_or-eq_default}
use Rattle.kinds.specs.Byte.{byte, bytes, same_bytes}
use Rattle.kinds.specs.Primitive.{codes, code, width, primitives, primitive_size, is_row, widths, size_in, size_rows, entry}
use Rattle.kinds.proofs.TableLaws.{every_below, pass_below, same_bytes_lem}

-- The two tables of the code.
abbrev pub firsts : List ℕ
firsts = bytes "csilqCSILQfdDjjjBv*@@#:?"

abbrev pub seconds : List ℕ
seconds = bytes "             fdD    ?   "

joined : ℕ → ℕ → List ℕ
joined a b = elim (eqb b (byte " ")) [ true ↦ a ∷ [] | false ↦ a ∷ b ∷ [] ]

right : ℕ → Bool
right k = same_bytes (joined (get_or firsts k 0) (get_or seconds k 0)) (code k)

all_right : every_below right 24 ≡ true
unfolding every_below right joined same_bytes code codes
all_right = refl

joined-code : (k : ℕ) → k < 24 → joined (get_or firsts k 0) (get_or seconds k 0) ≡ code k
unfolding right
joined-code k h = same_bytes_lem (joined (get_or firsts k 0) (get_or seconds k 0)) (code k) (pass_below right 24 all_right k h)

one_byte : (a b : ℕ) → b ≡ byte " " → a ∷ [] ≡ joined a b
unfolding joined
one_byte a b e = rw (eq-eqb b (byte " ") e, joined)

two_bytes_lem : (a b : ℕ) → (b ≡ byte " " → ⊥) → a ∷ b ∷ [] ≡ joined a b
unfolding joined
two_bytes_lem a b e = rw (ne_eqb b (byte " ") e, joined)

pub code_one : (k : ℕ) → k < 24 → get_or seconds k 0 ≡ byte " " → get_or firsts k 0 ∷ [] ≡ code k
code_one k h e = rw (one_byte (get_or firsts k 0) (get_or seconds k 0) e) (joined-code k h)

pub code-two : (k : ℕ) → k < 24 → (get_or seconds k 0 ≡ byte " " → ⊥) → get_or firsts k 0 ∷ get_or seconds k 0 ∷ [] ≡ code k
code-two k h e = rw (two_bytes_lem (get_or firsts k 0) (get_or seconds k 0) e) (joined-code k h)

pub code-beyond : (k : ℕ) → 24 ≤ k → code k ≡ []
unfolding code codes
code-beyond k h = get_or-eq_default codes [] h

-- ---- Sizes.

pub size-beyond : (row k : ℕ) → 24 ≤ k → size_in row k ≡ None
unfolding size_in primitive_size
size-beyond row k h = go (is_row row)
  where
    go : (t : Bool) → cond t (get_or (map (width (widths row)) primitives) k None) None ≡ None
    go true = get_or-eq_default (map (width (widths row)) primitives) None h
    go false = refl

pub no_row : (row k : ℕ) → 4 ≤ row → size_in row k ≡ None
unfolding size_in
no_row row k h = rw (lt-leb row 3 h)

same : Option ℕ → Option ℕ → Bool
same None None = true
same None (Some b) = false
same (Some a) None = false
same (Some a) (Some b) = eqb a b

same_size : (x y : Option ℕ) → same x y ≡ true → x ≡ y
unfolding same
same_size None None h = refl
same_size None (Some b) h = absurd (false≢true h)
same_size (Some a) None h = absurd (false≢true h)
same_size (Some a) (Some b) h = ap Some (eqb-true a b h)

sized-right : ℕ → ℕ → Bool
sized-right row k = same (entry (get_or (get_or size_rows row []) k 0)) (size_in row k)

row-right : ℕ → Bool
row-right row = every_below (sized-right row) 24

all-sized : every_below row-right 4 ≡ true
unfolding every_below row-right sized-right same entry size_in primitive_size
all-sized = refl

-- A number of the table is the size of its row and kind.
pub table-size : (row k : ℕ) → row < 4 → k < 24 → entry (get_or (get_or size_rows row []) k 0) ≡ size_in row k
unfolding sized-right row-right
table-size row k g h = same_size (entry (get_or (get_or size_rows row []) k 0)) (size_in row k)
    (pass_below (sized-right row) 24 (pass_below row-right 4 all-sized row g) k h)

pub entry-none : {n : ℕ} → n ≡ 0 → None ≡ entry n
unfolding entry
entry-none e = rw e

pub entry-some : {n : ℕ} → (n ≡ 0 → ⊥) → Some n ≡ entry n
unfolding entry
entry-some {n} e = rw (ne_eqb n 0 e)

-- No primitive has more than 32 bytes.
small : ℕ → ℕ → Bool
small row k = leb (unwrap_or (size_in row k) 0) 32

row_small : ℕ → Bool
row_small row = every_below (small row) 24

all_small : every_below row_small 4 ≡ true
unfolding every_below row_small small size_in primitive_size
all_small = refl

pub size_small : (row k n : ℕ) → Some n ≡ size_in row k → n ≤ 32
unfolding small row_small
size_small row k n e = go (ltb row 4) refl (ltb k 24) refl
  where
    not_some : size_in row k ≡ None → ⊥
    not_some f = let z : ◌≡◌ {A = ℕ} 0 1 = cc in absurd (omega arith)

    up_to : row < 4 → k < 24 → n ≤ 32
    up_to g h = subst (λ x. unwrap_or x 0 ≤ 32) (sym e)
        (leb-true (unwrap_or (size_in row k) 0) 32 (pass_below (small row) 24 (pass_below row_small 4 all_small row g) k h))

    go : (t : Bool) → ltb row 4 ≡ t → (u : Bool) → ltb k 24 ≡ u → n ≤ 32
    go true p true q = up_to (ltb-true row 4 p) (ltb-true k 24 q)
    go true p false q = absurd (not_some (size-beyond row k (ltb-false k 24 q)))
    go false p u q = absurd (not_some (no_row row k (ltb-false row 4 p)))
