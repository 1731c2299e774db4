-- Laws of the end: the limit, the copy of the numbers, and the answer for a whole tree.
use Prim.Native.Nat.{ℕ, suc, ◌+◌, ◌≤◌, ◌<◌}
use native.Mathlib.Omega.{arith}
use mathlib.Core.Path.{◌≡◌, refl, ap, ap₂, sym, ◌∙◌, subst}
use mathlib.Core.List.{List, [], ◌∷◌, ◌++◌}
use mathlib.Core.Bool.{Bool, true, false, not, ◌&&◌, ◌||◌}
use borrow.Author.Tests.{le-leb, eq-eqb, ne_eqb, not-true, not-false, ltb-true, ltb-false}
use lib.Bits.{bit_or, or_add_and, and_le_l, and_le_r}
use lib.Dec.{leb, ltb, eqb}
use lib.ListN.{length, get_or, drop}
use lib.Seq.{sets, sets-eq}
use Rattle.kinds.specs.Parse.{max_u64}
use Rattle.kinds.specs.declared.Refusal.TheVariants.{SizeTooLarge}
use Rattle.helper.specs.declared.Measured.{Measured}
use Rattle.helper.specs.declared.Measured.TheVariants.{Nothing, Bytes, TooLarge}
use Rattle.layout.specs.Answer.{all_within, list_after}
use Rattle.layout.specs.Placing.{within_limit, finish_by, finished}
use Rattle.std.specs.Prelude.{Some, Ok, Err}
use Rattle.layout.specs.declared.place.Placed.{Placed}

-- ---- The limit.

pub limit-largest : (limit : ℕ) (ns : List ℕ) → limit ≡ max_u64 → true ≡ within_limit limit ns
unfolding within_limit
limit-largest limit ns e = rw (eq-eqb limit max_u64 e)

pub limit-other : (limit : ℕ) (ns : List ℕ) → (limit ≡ max_u64 → ⊥) → {b : Bool} → all_within limit ns ≡ b → b ≡ within_limit limit ns
unfolding within_limit
limit-other limit ns e h = sym (rw (ne_eqb limit max_u64 e) h)

-- Numbers that are each within the limit are all within it.
pub all-below : (limit : ℕ) (ns : List ℕ) → ((k : ℕ) → get_or ns k 0 ≤ limit) → all_within limit ns ≡ true
unfolding all_within
all-below limit [] h = refl
all-below limit (n ∷ ns) h = rw (le-leb n limit (h 0)) (all-below limit ns (λ k. h (suc k)))

pub limit-joined : (limit : ℕ) (ns : List ℕ) {r : ℕ} → ((k : ℕ) → get_or ns k 0 ≤ r) → r ≤ limit → true ≡ within_limit limit ns
unfolding within_limit
limit-joined limit ns {r} h p = sym (rw (all-below limit ns (λ k. let q = h k in omega arith)) (or-true (eqb limit max_u64)))
  where
    or-true : (t : Bool) → (t || true) ≡ true
    or-true true = refl
    or-true false = refl

-- All bits together are no less than any.
or_above : (a b : ℕ) → (a ≤ bit_or a b) × (b ≤ bit_or a b)
or_above a b =
    let s = or_add_and a b in
    let l = and_le_l a b in
    let r = and_le_r a b in
    (omega arith, omega arith)

module _ (ns : List ℕ) (i all : ℕ) (h : (k : ℕ) → k < i → get_or ns k 0 ≤ all) where
  pub joined-more : (k : ℕ) → k < i + 1 → get_or ns k 0 ≤ bit_or all (get_or ns i 0)
  joined-more k p = go (ltb k i) refl
    where
      here : i ≤ k → k ≡ i
      here q = omega arith

      go : (t : Bool) → ltb k i ≡ t → get_or ns k 0 ≤ bit_or all (get_or ns i 0)
      go true e = let a = h k (ltb-true k i e) in let b = (or_above all (get_or ns i 0)).0 in omega arith
      go false e = subst (λ (j : ℕ). get_or ns j 0 ≤ bit_or all (get_or ns i 0)) (sym (here (ltb-false k i e))) (or_above all (get_or ns i 0)).1

-- ---- The copy.

pub copied-whole : (k ns l : List ℕ) → length ns ≤ length k → l ≡ sets k 0 ns → l ≡ ns ++ drop (length ns) k
copied-whole k ns l r e = let z : 0 + length ns ≡ length ns = omega arith in e ∙ sets-eq ns k 0 (omega arith) ∙ ap (λ (j : ℕ). ns ++ drop j k) z

-- ---- The answer for a whole tree and its numbers.

module _ (limit : ℕ) (x : Placed) (ns : List ℕ) where
  by_parts : (f : Bool) (b : Measured) → x.fits ≡ f → x.bytes ≡ b → finished limit x ns ≡ finish_by limit x.alignment ns f b
  unfolding finished
  by_parts f b e d = ap₂ (finish_by limit x.alignment ns) e d

  pub end-unfit : not x.fits ≡ true → finished limit x ns ≡ Err SizeTooLarge
  end-unfit e = by_parts false x.bytes (not-true _ e) refl

  pub end_none : x.bytes ≡ Nothing → finished limit x ns ≡ Err SizeTooLarge
  end_none e = by_parts x.fits Nothing refl e ∙ go x.fits
    where
      go : (f : Bool) → finish_by limit x.alignment ns f Nothing ≡ Err SizeTooLarge
      go true = refl
      go false = refl

  pub end-over : x.bytes ≡ TooLarge → finished limit x ns ≡ Err SizeTooLarge
  end-over e = by_parts x.fits TooLarge refl e ∙ go x.fits
    where
      go : (f : Bool) → finish_by limit x.alignment ns f TooLarge ≡ Err SizeTooLarge
      go true = refl
      go false = refl

  pub end-above : (n : ℕ) → x.bytes ≡ Bytes n → (leb n limit && within_limit limit ns) ≡ false → finished limit x ns ≡ Err SizeTooLarge
  end-above n e h = by_parts x.fits (Bytes n) refl e ∙ go x.fits
    where
      go : (f : Bool) → finish_by limit x.alignment ns f (Bytes n) ≡ Err SizeTooLarge
      go true = rw h
      go false = refl

  pub end_fits : (n : ℕ) → x.bytes ≡ Bytes n → not x.fits ≡ false → n ≤ limit → within_limit limit ns ≡ true → finished limit x ns ≡ Ok (Some (n, x.alignment))
  end_fits n e f h w = by_parts true (Bytes n) (not-false _ f) e ∙ rw (le-leb n limit h, w)

  -- The answer, and the list after it.
  pub refused-both : (list : List ℕ) → finished limit x ns ≡ Err SizeTooLarge
      → (Err SizeTooLarge ≡ finished limit x ns) × (list ≡ list_after (finished limit x ns) ns list)
  refused-both list e = (sym e, sym (ap (λ a. list_after a ns list) e))

  pub written_both : (list after : List ℕ) (n a : ℕ) → finished limit x ns ≡ Ok (Some (n, x.alignment)) → a ≡ x.alignment → after ≡ ns ++ drop (length ns) list
      → (Ok (Some (n, a)) ≡ finished limit x ns) × (after ≡ list_after (finished limit x ns) ns list)
  written_both list after n a e d f = (ap (λ (x : ℕ). Ok (Some (n, x))) d ∙ sym e, f ∙ sym (ap (λ z. list_after z ns list) e))
