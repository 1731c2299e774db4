-- Laws of the rows and of their text.
use Prim.Native.Nat.{ℕ, zero, suc, ◌≤◌, ◌<◌}
use native.Mathlib.Omega.{arith}
use mathlib.Core.Path.{◌≡◌, refl, ap, ◌∙◌}
use mathlib.Core.List.{List, [], ◌∷◌, ◌++◌}
use lib.ListN.{get_or}
use Rattle.kinds.specs.Byte.{bytes}
use Rattle.kinds.specs.Primitive.{Widths, size_row, widths}
use Rattle.lines.specs.Answer.{joined, space_number}
use Rattle.rows.specs.Answer.{four, spaced, row_text}

spaced-joined : (s : List ℕ) → joined 32 s ≡ spaced s
unfolding joined spaced space_number
spaced-joined [] = refl
spaced-joined (n ∷ s) = refl

-- The widths of all machines, as the program has them.
abbrev pub all_widths : List (List ℕ)
all_widths = (8 ∷ 8 ∷ 8 ∷ 8 ∷ []) ∷ (8 ∷ 8 ∷ 8 ∷ 16 ∷ []) ∷ (4 ∷ 4 ∷ 4 ∷ 8 ∷ []) ∷ (4 ∷ 8 ∷ 8 ∷ 8 ∷ []) ∷ []

pub widths-row : (row : ℕ) → row < 4 → get_or all_widths row [] ≡ four (widths row)
widths-row zero h = refl
widths-row (suc zero) h = refl
widths-row (suc (suc zero)) h = refl
widths-row (suc (suc (suc zero))) h = refl
widths-row (suc (suc (suc (suc n)))) h = absurd (omega arith)

pub widths-beyond : (row : ℕ) → 4 ≤ row → 8 ∷ 8 ∷ 8 ∷ 8 ∷ [] ≡ four (widths row)
widths-beyond zero h = absurd (omega arith)
widths-beyond (suc zero) h = absurd (omega arith)
widths-beyond (suc (suc zero)) h = absurd (omega arith)
widths-beyond (suc (suc (suc zero))) h = absurd (omega arith)
widths-beyond (suc (suc (suc (suc n)))) h = refl

-- A row's line, from its widths `w` and its sizes `s`.
machine : List ℕ → Widths
machine w = record { long = get_or w 0 0; unsigned-long = get_or w 1 0; pointer = get_or w 2 0; long-double = get_or w 3 0 }

pub row_is : (row : ℕ) (w s : List ℕ) → w ≡ four (widths row)
    → s ≡ size_row (record { long = get_or w 0 0; unsigned-long = get_or w 1 0; pointer = get_or w 2 0; long-double = get_or w 3 0 }) → joined 32 s ++ bytes "\n" ≡ row_text (size_row (widths row))
unfolding row_text machine
row_is row w s p q = ap (λ (x : List ℕ). x ++ bytes "\n") (spaced-joined s) ∙ ap (λ (x : List ℕ). spaced x ++ bytes "\n") (q ∙ ap (λ (x : List ℕ). size_row (machine x)) p)
