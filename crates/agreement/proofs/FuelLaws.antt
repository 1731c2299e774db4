-- Twice the unread bytes are enough fuel: with more the same is read.
use Prim.Native.Nat.{ℕ, zero, suc, ◌+◌, ◌≤◌, ◌<◌}
use native.Mathlib.Omega.{arith}
use mathlib.Core.Path.{◌≡◌, refl, sym, ap, subst, ◌∙◌}
use mathlib.Core.List.{List, [], ◌∷◌}
use lib.ListN.{length}
use Rattle.kinds.specs.Parse.{max_u64, value, parse_number, empty, encoding, start, named, parse_name, next_item, parse_inner, parse_items}
use Rattle.kinds.specs.Tree.{Label, Trees}
use Rattle.kinds.specs.declared.ContainerKind.{ContainerKind}
use Rattle.kinds.proofs.BeginLaws.{same-begin, same_next}
use Rattle.agreement.proofs.ReadLaws.{NumberOk, number_ok, NamedOk, name-ok, Well, well}

pub nothing-there : (f : ℕ) → parse_inner f [] ≡ empty
unfolding parse_inner
nothing-there zero = refl
nothing-there (suc f) = refl

-- What a number, a name or an item leaves is no longer than the text, as far as the text is asked for.
number-leaves : (s : List ℕ) (n : ℕ) (t : List ℕ) → parse_number max_u64 s ≡ value n t → length t ≤ length s
number-leaves s n t e = let h = subst (NumberOk max_u64 s) e (number_ok max_u64 s) in omega (arith, h.1)

name-leaves : (s : List ℕ) (k : ContainerKind) (m t : List ℕ) → parse_name k [] s ≡ named m t → length t ≤ length s
name-leaves s k m t e = let h = subst (NamedOk (length s)) e (name-ok k s [] (length s) (omega arith)) in omega (arith, h.1)

item-leaves : (g : ℕ) (s : List ℕ) → length s + length s ≤ g → (l : Label) (ds : Trees) (t : List ℕ) → parse_inner g s ≡ encoding l ds t → length t < length s
item-leaves g s h l ds t e = (subst (Well s) e (well g s h)).on

mutual
  unfolding parse_inner parse_items

  pub same-inner : (f g : ℕ) (s : List ℕ) → length s + length s ≤ f → length s + length s ≤ g → parse_inner f s ≡ parse_inner g s
  same-inner zero g [] h i = sym (nothing-there g)
  same-inner zero g (b ∷ s) h i = absurd (omega arith)
  same-inner (suc f) g [] h i = sym (nothing-there g)
  same-inner (suc f) zero (b ∷ s) h i = absurd (omega arith)
  same-inner (suc f) (suc g) (b ∷ s) h i =
      same-begin (λ t. length t ≤ length s) s (λ t. parse_inner f t) (λ t. parse_inner g t) (λ k t. parse_items f k t) (λ k t. parse_items g k t)
      (λ t l. same-inner f g t (omega arith) (omega arith)) (λ k t l. same-items f g k t (omega arith) (omega arith)) (omega arith) (number-leaves s) (name-leaves s) b (start b)

  same-items : (f g : ℕ) (k : ContainerKind) (s : List ℕ) → length s + length s < f → length s + length s < g → parse_items f k s ≡ parse_items g k s
  same-items zero g k s h i = absurd (omega arith)
  same-items (suc f) zero k s h i = absurd (omega arith)
  same-items (suc f) (suc g) k s h i =
      ap (λ q. next_item k q (λ t. parse_items f k t)) (same-inner f g s (omega arith) (omega arith))
      ∙ same_next (λ t. length t < length s) k (λ t. parse_items f k t) (λ t. parse_items g k t) (λ t l. same-items f g k t (omega arith) (omega arith)) (parse_inner g s)
      (item-leaves g s (omega arith))
