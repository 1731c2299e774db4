-- The numbers of the entries in the list, and the zeros behind them.
use Prim.Native.Nat.{ℕ, ◌+◌, ◌*◌, ◌-◌, ◌≤◌}
use mathlib.Core.Path.{◌≡◌, refl, sym, ap, ap₂, ◌∙◌}
use mathlib.Core.List.{List, [], ◌∷◌, ◌++◌, append_assoc}
use native.Mathlib.Omega.{arith}
use native.Mathlib.Nat.{zero-add}
use lib.ListN.{length, take, drop, replicate}
use lib.Seq.{sets, sets-eq, take-append-le, take_all, drop-drop}
use borrow.Rule.Slice.PartMut.{mid_of, post_of, put_mid, mid_len}
use Rattle.parse.specs.Answer.{padded, filled}
use Rattle.kinds.proofs.StoreLaws.{sets-append, drop-sets}
use Rattle.signature.specs.Answer.{numbers}
use Rattle.signature.specs.Reads.{holding}
use Rattle.signature.specs.Signature.{Entry, entry}

pub length-numbers : (es : List Entry) → length (numbers es) ≡ 3 * length es
unfolding numbers
length-numbers [] = refl
length-numbers (entry a b c ∷ es) = omega (arith, length-numbers es)

numbers-last : (es : List Entry) (a b c : ℕ) → numbers (es ++ (entry a b c ∷ [])) ≡ numbers es ++ (a ∷ b ∷ c ∷ [])
unfolding numbers
numbers-last [] a b c = refl
numbers-last (entry x y z ∷ es) a b c = ap (λ (t : List ℕ). x ∷ y ∷ z ∷ t) (numbers-last es a b c)

-- One entry more.
pub holds_more : (es : List Entry) (k a b c : ℕ) (before now : List ℕ) → length es ≡ k → now ≡ holding es before
    → sets now (3 * k) (a ∷ b ∷ c ∷ []) ≡ holding (es ++ (entry a b c ∷ [])) before
holds_more es k a b c before now n h =
    let place : 0 + length (numbers es) ≡ 3 * k = omega (arith, length-numbers es) in
    ap₂ (λ (l : List ℕ) (j : ℕ). sets l j (a ∷ b ∷ c ∷ [])) h (sym place)
    ∙ sym (sets-append before 0 (numbers es) (a ∷ b ∷ c ∷ []))
    ∙ ap (sets before 0) (sym (numbers-last es a b c))

-- The words of a list from `from` up to `part` cleared, where `xs` stands in front of them and beyond them the list is as it was.
module _ (part : ℕ) (xs list : List ℕ) (l : length xs ≤ part) (m : part ≤ length list) where
  stored : sets list 0 xs ≡ xs ++ drop (length xs) list
  stored = sets-eq xs list 0 (omega arith) ∙ ap (λ (k : ℕ). xs ++ drop k list) (zero-add (length xs))

  beyond : (from : ℕ) → from ≤ part → post_of from (part - from) (sets list 0 xs) ≡ drop part list
  beyond from h =
      let all : from + (part - from) ≡ part = omega arith in
      drop-drop (part - from) from (sets list 0 xs)
      ∙ ap (λ (k : ℕ). drop k (sets list 0 xs)) all
      ∙ drop-sets list 0 xs part (omega arith)

  zeros : (from n : ℕ) → from ≤ length xs → n ≡ length (mid_of from (part - from) (sets list 0 xs)) → length (sets list 0 xs) ≡ length list → n ≡ part - from
  zeros from n h e s = e ∙ mid_len from part (sets list 0 xs) (omega arith)

  pub cleared-behind : (zs : List ℕ) → zs ≡ replicate (length (mid_of (length xs) (part - length xs) (sets list 0 xs))) 0 → length (sets list 0 xs) ≡ length list
      → put_mid (length xs) (part - length xs) (sets list 0 xs) zs ≡ filled part xs list
  unfolding filled padded
  cleared-behind zs e s =
      let n = zeros (length xs) (length (mid_of (length xs) (part - length xs) (sets list 0 xs))) (omega arith) refl s in
      let front : take (length xs) (sets list 0 xs) ≡ xs = ap (take (length xs)) stored ∙ take-append-le (length xs) xs (drop (length xs) list) (omega arith) ∙ take_all (length xs) xs (omega arith) in
      ap₂ (λ (a b : List ℕ). a ++ (zs ++ b)) front (beyond (length xs) l)
      ∙ ap (λ (z : List ℕ). xs ++ (z ++ drop part list)) (e ∙ ap (λ (k : ℕ). replicate k 0) n)
      ∙ sym (append_assoc xs (replicate (part - length xs) 0) (drop part list))

  pub cleared-all : (zs : List ℕ) → zs ≡ replicate (length (mid_of 0 (part - 0) (sets list 0 xs))) 0 → length (sets list 0 xs) ≡ length list
      → put_mid 0 (part - 0) (sets list 0 xs) zs ≡ filled part [] list
  unfolding filled padded
  cleared-all zs e s =
      let n = zeros 0 (length (mid_of 0 (part - 0) (sets list 0 xs))) (omega arith) refl s in
      ap₂ (λ (a b : List ℕ). a ++ b) (e ∙ ap (λ (k : ℕ). replicate k 0) n) (beyond 0 (omega arith))
