-- The first number with a surplus zero decides what strict reading gives.
use Prim.Native.Nat.{ℕ, ◌-◌}
use mathlib.Core.Path.{◌≡◌, refl, sym, ap, subst, ◌∙◌}
use mathlib.Core.Bool.{Bool, true, false, ◌&&◌, not, false≢true}
use mathlib.Core.List.{List, [], ◌∷◌, ◌++◌}
use mathlib.Core.Logic.{◌⊎◌, inl, inr}
use Rattle.std.specs.Prelude.{Some, None}
use native.Mathlib.Omega.{arith}
use lib.ListN.{length, length-append}
use Rattle.kinds.specs.Parse.{refusal, from_str}
use Rattle.kinds.specs.Strict.{surplus_zero, numbers_met, first_surplus, unless_surplus, from_str_strict}
use Rattle.kinds.specs.declared.ErrorKind.TheVariants.{SurplusZero}
use Rattle.kinds.proofs.TableLaws.{both}
use Rattle.strict_agreement.specs.Surplus.{without_surplus, NoneMet, FirstMet, SurplusMet, RefusesSurplus}
use Rattle.strict_agreement.proofs.EndLaws.{EndOf, Ends, end-member, met-ends}
use Rattle.strict_agreement.proofs.NeverLaws.{never-surplus}

-- ---- The first number with a surplus zero.

record First (ts : List (List ℕ)) : Type 0 where
  number : List ℕ
  earlier : List (List ℕ)
  later : List (List ℕ)
  met : ts ≡ earlier ++ (number ∷ later)
  without : without_surplus earlier ≡ true
  surplus : surplus_zero number ≡ true
  first : first_surplus ts ≡ Some number

abbrev Nowhere : List (List ℕ) → Type 0
Nowhere ts = (first_surplus ts ≡ None) × (without_surplus ts ≡ true)

look : (ts : List (List ℕ)) → Nowhere ts ⊎ First ts
unfolding first_surplus without_surplus
look [] = inl (refl, refl)
look (t ∷ ts) = go (surplus_zero t) refl (look ts)
  where
    go : (x : Bool) → surplus_zero t ≡ x → Nowhere ts ⊎ First ts → Nowhere (t ∷ ts) ⊎ First (t ∷ ts)
    go true e r = inr (record { number = t; earlier = []; later = ts; met = refl; without = refl; surplus = e; first = rw e })
    go false e (inl n) = inl (rw e n.0, rw e n.1)
    go false e (inr f) = inr (record {
      number = f.number;
      earlier = t ∷ f.earlier;
      later = f.later;
      met = ap (λ x. t ∷ x) f.met;
      without = rw e f.without;
      surplus = f.surplus;
      first = rw e f.first;
    })

pub without-append : (xs ys : List (List ℕ)) → without_surplus (xs ++ ys) ≡ (without_surplus xs && without_surplus ys)
unfolding without_surplus
without-append [] ys = refl
without-append (x ∷ xs) ys = go (surplus_zero x) (without-append xs ys)
  where
    go : (y : Bool) → without_surplus (xs ++ ys) ≡ (without_surplus xs && without_surplus ys) → (not y && without_surplus (xs ++ ys)) ≡ ((not y && without_surplus xs) && without_surplus ys)
    go true e = refl
    go false e = e

-- ---- One or the other.

none-met : (s : List ℕ) → Nowhere (numbers_met s) → NoneMet s
unfolding from_str_strict unless_surplus
none-met s n = record { no-first = n.0; without = n.1; alike = ap (λ o. unless_surplus (length s) o (from_str s)) n.0 }

place-before : (s before t : List ℕ) → s ≡ before ++ t → length s - length t ≡ length before
place-before s before t e = omega (arith, ap length e, length-append before t)

first-met : (s : List ℕ) (f : First (numbers_met s)) → EndOf s f.number → FirstMet s
unfolding from_str_strict unless_surplus
first-met s f e = record {
  before = e.0;
  number = f.number;
  earlier = f.earlier;
  later = f.later;
  met = f.met;
  without = f.without;
  surplus = f.surplus;
  place = e.1;
  refuses = ap (λ o. unless_surplus (length s) o (from_str s)) f.first ∙ ap (refusal SurplusZero) (place-before s e.0 f.number e.1);
}

pub one-or-other : (s : List ℕ) → NoneMet s ⊎ FirstMet s
one-or-other s = go (look (numbers_met s))
  where
    go : Nowhere (numbers_met s) ⊎ First (numbers_met s) → NoneMet s ⊎ FirstMet s
    go (inl n) = inl (none-met s n)
    go (inr f) = inr (first-met s f (end-member s f.earlier f.number f.later (subst (Ends s) f.met (met-ends s))))

-- ---- Refusal 19 exactly if a surplus zero is met.

surplus-with : (xs : List (List ℕ)) (t : List ℕ) (ys : List (List ℕ)) → surplus_zero t ≡ true → without_surplus (xs ++ (t ∷ ys)) ≡ true → ⊥
unfolding without_surplus
surplus-with xs t ys e w =
    let a = both (without_surplus xs) (without_surplus (t ∷ ys)) (sym (without-append xs (t ∷ ys)) ∙ w) in
    let b = both (not (surplus_zero t)) (without_surplus ys) a.1 in
    false≢true (rw e at b.0)

pub refused-met : (s : List ℕ) → RefusesSurplus s → SurplusMet s
refused-met s r = go (one-or-other s)
  where
    go : NoneMet s ⊎ FirstMet s → SurplusMet s
    go (inl n) = absurd (never-surplus s r.0 (sym n.alike ∙ r.1))
    go (inr f) = record { number = f.number; earlier = f.earlier; later = f.later; met = f.met; surplus = f.surplus }

pub met-refused : (s : List ℕ) → SurplusMet s → RefusesSurplus s
met-refused s m = go (one-or-other s)
  where
    go : NoneMet s ⊎ FirstMet s → RefusesSurplus s
    go (inl n) = absurd (surplus-with m.earlier m.number m.later m.surplus (subst (λ x. without_surplus x ≡ true) m.met n.without))
    go (inr f) = (length f.before, f.refuses)

pub without-alike : (s : List ℕ) → without_surplus (numbers_met s) ≡ true → from_str_strict s ≡ from_str s
without-alike s w = go (one-or-other s)
  where
    go : NoneMet s ⊎ FirstMet s → from_str_strict s ≡ from_str s
    go (inl n) = n.alike
    go (inr f) = absurd (surplus-with f.earlier f.number f.later f.surplus (subst (λ x. without_surplus x ≡ true) f.met w))
