-- Laws of names, and of their bytes at a place.
use Prim.Native.Nat.{ℕ, ◌<◌}
use mathlib.Core.Path.{◌≡◌, refl, sym}
use mathlib.Core.Bool.{true, false, ◌&&◌, and-true, false≢true}
use mathlib.Core.List.{List, [], ◌∷◌}
use native.Mathlib.Omega.{arith}
use lib.ListN.{length, get_or}
use borrow.Author.Tests.{eq-eqb, ne_eqb}
use Rattle.kinds.specs.Name.{is_name_byte, all_name_bytes, verify_name}
use Rattle.std.specs.List.{list_all}
use Rattle.std.proofs.lemmas.List.Recursion.{same_from_clauses}

-- `iter().all` over the bytes.
pub all-bytes : (s : List ℕ) → list_all is_name_byte s ≡ all_name_bytes s
unfolding all_name_bytes
all-bytes = same_from_clauses (list_all is_name_byte) all_name_bytes (λ b r. is_name_byte b && r) refl (λ _ _. refl) (λ _ _. refl)

pub name-empty : (s : List ℕ) → length s ≡ 0 → verify_name s ≡ false
unfolding verify_name
name-empty [] h = refl
name-empty (b ∷ s) h = absurd (omega arith)

pub name-some : (s : List ℕ) → verify_name s ≡ true → 0 < length s
unfolding verify_name
name-some [] h = absurd (false≢true h)
name-some (b ∷ s) h = omega arith

pub name-unknown : (s : List ℕ) → length s ≡ 1 → get_or s 0 0 ≡ 63 → verify_name s ≡ true
unfolding verify_name
name-unknown [] h e = absurd (omega arith)
name-unknown (b ∷ []) h e = rw (eq-eqb b 63 e)
name-unknown (b ∷ c ∷ s) h e = absurd (omega arith)

pub name-one : (s : List ℕ) → length s ≡ 1 → (get_or s 0 0 ≡ 63 → ⊥) → verify_name s ≡ all_name_bytes s
unfolding verify_name all_name_bytes
name-one [] h e = absurd (omega arith)
name-one (b ∷ []) h e = rw (ne_eqb b 63 e) (sym (and-true (is_name_byte b)))
name-one (b ∷ c ∷ s) h e = absurd (omega arith)

pub name-more : (s : List ℕ) → 1 < length s → verify_name s ≡ all_name_bytes s
unfolding verify_name all_name_bytes
name-more [] h = absurd (omega arith)
name-more (b ∷ []) h = absurd (omega arith)
name-more (b ∷ c ∷ s) h = refl
