-- The first bitfield that is laid out has the lowest number of all that are.
use Prim.Native.Nat.{ℕ, suc, ◌+◌, ◌≤◌}
use native.Mathlib.Omega.{arith}
use mathlib.Core.Bool.{Bool, true, false, cond, not, ◌&&◌, false≢true}
use mathlib.Core.List.Memᴰ
use mathlib.Core.List.{List, [], ◌∷◌, ◌++◌, Memᴰ}
use mathlib.Core.Logic.{◌↔◌, ⊎_elim}
use Rattle.std.specs.Prelude.{Option, Some, None}
use mathlib.Core.Path.{◌≡◌, refl, sym, ap, ◌∙◌}
use Rattle.kinds.specs.Tree.{Trees, end, node, count, inside, shows}
use Rattle.kinds.specs.declared.NestingLevel.{NestingLevel}
use Rattle.layout.specs.Layout.{Part, laid_out, is_pointer, is_bit_field, first_bit_field}
use Rattle.layout_agreement.specs.Laid.{BitFieldAt}

-- ---- The parts stand in the order of their numbers.

-- From `i` on, below `j`, and rising.
abbrev Rising : ℕ → ℕ → List Part → Type 0
Rising i j [] = i ≤ j
Rising i j (p ∷ ps) = (i ≤ p.number) × Rising (suc p.number) j ps

rising-sooner : (h i j : ℕ) (ps : List Part) → h ≤ i → Rising i j ps → Rising h j ps
rising-sooner h i j [] l r = omega arith
rising-sooner h i j (p ∷ ps) l r = let q = r.0 in (omega arith, r.1)

rising-append : (i j k : ℕ) (ps qs : List Part) → Rising i j ps → Rising j k qs → Rising i k (ps ++ qs)
rising-append i j k [] qs r s = rising-sooner i j k qs r s
rising-append i j k (p ∷ ps) qs r s = (r.0, rising-append (suc p.number) j k ps qs r.1 s)

parts-rise : (v : NestingLevel) (i j : ℕ) (ts : Trees) → j ≡ i + count ts → Rising i j (laid_out v i ts)
unfolding laid_out count
parts-rise v i j end e = omega arith
parts-rise v i j (node l cs ts) e = (
  omega arith,
  rising-append (suc i) (i + 1 + count cs) j (cond (shows l v && not (is_pointer l)) (laid_out (inside l v) (i + 1) cs) []) (laid_out v (i + 1 + count cs) ts)
      (go (shows l v && not (is_pointer l)) (parts-rise (inside l v) (i + 1) (i + 1 + count cs) cs refl)) (parts-rise v (i + 1 + count cs) j ts (omega arith)),
)
  where
    go : (b : Bool) → Rising (i + 1) (i + 1 + count cs) (laid_out (inside l v) (i + 1) cs) → Rising (suc i) (i + 1 + count cs) (cond b (laid_out (inside l v) (i + 1) cs) [])
    go true r = rising-sooner (suc i) (i + 1) (i + 1 + count cs) (laid_out (inside l v) (i + 1) cs) (omega arith) r
    go false r = omega arith

-- ---- So the first is the least.

rising-after : (i j : ℕ) (ps : List Part) → Rising i j ps → (p : Part) → Memᴰ p ps → i ≤ p.number
rising-after i j [] r p m = absurd (Memᴰ.not-nil m)
rising-after i j (q ∷ ps) r p m =
    ⊎_elim (λ e. let z : p.number ≡ q.number = ap (λ (x : Part). x.number) e in let y = r.0 in omega arith)
    (λ n. let z = rising-after (suc q.number) j ps r.1 p n in let y = r.0 in omega arith) (Memᴰ.cases_cons m)

found : (ps : List Part) (k : ℕ) → first_bit_field ps ≡ Some k → BitFieldAt ps k
unfolding first_bit_field
found [] k e = let z : ◌≡◌ {A = ℕ} 0 1 = cc in absurd (omega arith)
found (q ∷ ps) k e = go (is_bit_field q.label) refl e (found ps k)
  where
    go : (b : Bool) → is_bit_field q.label ≡ b → cond b (Some q.number) (first_bit_field ps) ≡ Some k → (first_bit_field ps ≡ Some k → BitFieldAt ps k) → BitFieldAt (q ∷ ps) k
    go true d e rec = (q, Memᴰ.head refl, d, cc)
    go false d e rec = let m = rec e in (m.0, Memᴰ.tail m.1, m.2, m.3)

missed : (ps : List Part) → first_bit_field ps ≡ None → (j : ℕ) → BitFieldAt ps j → ⊥
unfolding first_bit_field
missed [] e j m = Memᴰ.not-nil m.1
missed (q ∷ ps) e j m = go (is_bit_field q.label) refl e (λ d. missed ps d j)
  where
    go : (b : Bool) → is_bit_field q.label ≡ b → cond b (Some q.number) (first_bit_field ps) ≡ None → (first_bit_field ps ≡ None → BitFieldAt ps j → ⊥) → ⊥
    go true d e rec = let z : ◌≡◌ {A = ℕ} 0 1 = cc in omega arith
    go false d e rec = ⊎_elim (λ s. false≢true (sym d ∙ ap (λ (x : Part). is_bit_field x.label) (sym s) ∙ m.2)) (λ t. rec e (m.0, t, m.2, m.3)) (Memᴰ.cases_cons m.1)

least : (i l : ℕ) (ps : List Part) → Rising i l ps → (k : ℕ) → first_bit_field ps ≡ Some k → (j : ℕ) → BitFieldAt ps j → k ≤ j
unfolding first_bit_field
least i l [] r k e j m = absurd (Memᴰ.not-nil m.1)
least i l (q ∷ ps) r k e j m = go (is_bit_field q.label) refl e (λ d. least (suc q.number) l ps r.1 k d j)
  where
    go : (b : Bool) → is_bit_field q.label ≡ b → cond b (Some q.number) (first_bit_field ps) ≡ Some k → (first_bit_field ps ≡ Some k → BitFieldAt ps j → k ≤ j) → k ≤ j
    go true d e rec = let z : q.number ≡ k = cc in let y = rising-after q.number l (q ∷ ps) (omega arith, r.1) m.0 m.1 in let x = m.3 in omega arith
    go false d e rec = ⊎_elim (λ s. absurd (false≢true (sym d ∙ ap (λ (x : Part). is_bit_field x.label) (sym s) ∙ m.2))) (λ t. rec e (m.0, t, m.2, m.3)) (Memᴰ.cases_cons m.1)

module _ (v : NestingLevel) (i : ℕ) (ts : Trees) where
  pub first-is-least : (k : ℕ) → (first_bit_field (laid_out v i ts) ≡ Some k) ↔ (BitFieldAt (laid_out v i ts) k × ((j : ℕ) → BitFieldAt (laid_out v i ts) j → k ≤ j))
  first-is-least k = (
    λ e. (found (laid_out v i ts) k e, least i (i + count ts) (laid_out v i ts) (parts-rise v i (i + count ts) ts refl) k e),
    λ h. go (first_bit_field (laid_out v i ts)) refl h.0 h.1,
  )
    where
      go : (x : Option ℕ) → first_bit_field (laid_out v i ts) ≡ x → BitFieldAt (laid_out v i ts) k → ((j : ℕ) → BitFieldAt (laid_out v i ts) j → k ≤ j)
          → first_bit_field (laid_out v i ts) ≡ Some k
      go None e m h = absurd (missed (laid_out v i ts) e k m)
      go (Some j) e m h =
          let a = h j (found (laid_out v i ts) j e) in
          let b = least i (i + count ts) (laid_out v i ts) (parts-rise v i (i + count ts) ts refl) j e k m in
          e ∙ ap Some (omega arith)

  pub none-is-first : (first_bit_field (laid_out v i ts) ≡ None) ↔ ((j : ℕ) → BitFieldAt (laid_out v i ts) j → ⊥)
  none-is-first = (λ e. missed (laid_out v i ts) e, λ h. go (first_bit_field (laid_out v i ts)) refl h)
    where
      go : (x : Option ℕ) → first_bit_field (laid_out v i ts) ≡ x → ((j : ℕ) → BitFieldAt (laid_out v i ts) j → ⊥) → first_bit_field (laid_out v i ts) ≡ None
      go None e h = e
      go (Some j) e h = absurd (h j (found (laid_out v i ts) j e))
