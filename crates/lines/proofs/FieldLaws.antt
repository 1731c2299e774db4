-- Laws of a field's end.
use Prim.Native.Nat.{ℕ, ◌+◌, ◌≤◌}
use mathlib.Core.Path.{◌≡◌, refl, ap, sym, subst, ◌∙◌}
use mathlib.Core.List.{List}
use mathlib.Core.Bool.{Bool, true, false, cond, not}
use Rattle.std.proofs.Common.{Option, Some, None}
use Rattle.std.specs.Option.{unwrap_or}
use native.Mathlib.Omega.{arith}
use lib.ListN.{length, take}
use lib.Seq.{take_all}
use lib.Dec.{eqb, ltb}
use native.Mathlib.Nat.{add_comm}
use native.Mathlib.Numerals.{add-one}
use Rattle.std.specs.List.{position, position_or_len}
use Rattle.std.proofs.lemmas.List.Sums.{prefix_len-le-length}
use Rattle.std.proofs.lemmas.List.Recursion.{is_position_or_len}
use borrow.Author.Tests.{ltb-false}
use denote.Ref.{Bor}
use Rattle.parser.specs.Place.{remaining_at}
use Rattle.parser.proofs.PlaceLaws.{end-remains}
use Rattle.lines.specs.Answer.{until, front_of}

until_is : (b : ℕ) (s : List ℕ) → position_or_len (λ x. eqb x b) s ≡ until b s
unfolding until
until_is b s = sym (is_position_or_len (until b) (λ x. eqb x b) refl (λ x t. rw (add_comm 1 (until b t), add-one)) s)

until-le : (b : ℕ) (s : List ℕ) → until b s ≤ length s
until-le b s = subst (λ n. n ≤ length s) (until_is b s) (prefix_len-le-length (λ x. not (eqb x b)) s)

-- the place of the first `b`, as `position` gives it, or else the length
pub until-found : (b : ℕ) (s : List ℕ) (o : Option ℕ) → o ≡ position (λ x. eqb x b) s → (unwrap_or o (length s) ≡ until b s) × (unwrap_or o (length s) ≤ length s)
until-found b s o e = rw (e, until_is b s) (go (ltb (until b s) (length s)) refl)
  where
    go : (t : Bool) → ltb (until b s) (length s) ≡ t → (unwrap_or (cond t (Some (until b s)) None) (length s) ≡ until b s) × (unwrap_or (cond t (Some (until b s)) None) (length s) ≤ length s)
    go true q = (refl, until-le b s)
    go false q = let l = until-le b s in let h = ltb-false (until b s) (length s) q in (omega arith, omega arith)

-- The first bytes of a lent text stand where the text stands.
pub front-is : (s : Bor (List ℕ)) (n m : ℕ) → n ≡ m → (s.ref_ptr, take n s.now) ≡ front_of s m
unfolding front_of
front-is s n m e = ap (λ (k : ℕ). (s.ref_ptr, take k s.now)) e

pub front-all : (s : Bor (List ℕ)) (n : ℕ) → length s.now ≤ n → (s.ref_ptr, s.now) ≡ front_of s n
unfolding front_of
front-all s n h = ap (λ (t : List ℕ). (s.ref_ptr, t)) (sym (take_all n s.now h))

pub front_bytes : {p : ℕ × ℕ} {t : List ℕ} (s : Bor (List ℕ)) (n : ℕ) → (p, t) ≡ front_of s n → t ≡ take n s.now
unfolding front_of
front_bytes s n e = ap (λ (x : (ℕ × ℕ) × List ℕ). x.1) e

-- At the end of a text nothing remains, and nothing after it.
pub past : (s : Bor (List ℕ)) (n : ℕ) → length s.now ≤ n → n ≤ length s.now → remaining_at s n ≡ remaining_at s (n + 1)
past s n h l = ap (remaining_at s) (omega arith) ∙ end-remains s (n + 1) (omega arith)
