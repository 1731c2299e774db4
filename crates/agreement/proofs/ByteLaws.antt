-- Laws of tests on numbers and of the bytes of names.
use Prim.Native.Nat.{ℕ, zero, suc, ◌<◌}
use mathlib.Core.Path.{◌≡◌, refl, sym, ap, subst, ◌∙◌}
use mathlib.Core.List.{List, [], ◌∷◌}
use mathlib.Core.Bool.{Bool, true, false, ◌&&◌, ◌||◌, not, false≢true}
use native.Mathlib.Omega.{arith}
use lib.Dec.{eqb}
use borrow.Author.Tests.{eqb-true, eqb-false, ne_eqb}
use Rattle.kinds.specs.Byte.{byte, among}
use Rattle.kinds.specs.Name.{is_name_byte, all_name_bytes, verify_name}
use Rattle.kinds.proofs.TableLaws.{both}

infixr 20 ◌also◌
infixl 20 ◌next◌
-- The members of a family one after the other, from the first on; and from the last back.
abbrev pub ◌also◌ : {A B : Type 0} → A → B → A × B
a also b = (a, b)

abbrev pub ◌next◌ : {A B : Type 0} → A → B → A × B
a next b = (a, b)

-- A family over the numbers below `n`.
abbrev pub Below : (ℕ → Type 0) → ℕ → Type 0
Below P zero = Unit {0}
Below P (suc n) = Below P n × P n

pub below : (P : ℕ → Type 0) (n : ℕ) → Below P n → (i : ℕ) → i < n → P i
below P zero a i h = absurd (omega arith)
below P (suc n) a i h = go (eqb i n) refl (λ k. below P n a.0 i k)
  where
    go : (t : Bool) → eqb i n ≡ t → (i < n → P i) → P i
    go true e rec = subst P (sym (eqb-true i n e)) a.1
    go false e rec = rec (omega (arith, eqb-false i n e))

-- Two bytes that a test tells apart.
pub apart : (test : ℕ → Bool) (b c : ℕ) → test b ≡ true → test c ≡ false → eqb b c ≡ false
apart test b c h k = ne_eqb b c (λ q. false≢true (sym k ∙ ap test (sym q) ∙ h))

-- No byte of the list is `c`.
unfoldable pub lacks : ℕ → List ℕ → Bool
lacks c [] = true
lacks c (b ∷ s) = not (eqb b c) && lacks c s

lacks-all-name : (c : ℕ) → is_name_byte c ≡ false → (s : List ℕ) → all_name_bytes s ≡ true → lacks c s ≡ true
unfolding lacks all_name_bytes
lacks-all-name c k [] h = refl
lacks-all-name c k (b ∷ s) h = rw (apart is_name_byte b c (both (is_name_byte b) (all_name_bytes s) h).0 k) (lacks-all-name c k s (both (is_name_byte b) (all_name_bytes s) h).1)

lacks-one : (b : ℕ) → (eqb b (byte "?") || is_name_byte b) ≡ true → (c : ℕ) → is_name_byte c ≡ false → eqb (byte "?") c ≡ false → eqb b c ≡ false
lacks-one b h c k q = go (eqb b (byte "?")) refl h
  where
    go : (t : Bool) → eqb b (byte "?") ≡ t → (t || is_name_byte b) ≡ true → eqb b c ≡ false
    go true e j = rw (eqb-true b (byte "?") e) q
    go false e j = apart is_name_byte b c j k

pub name-lacks : (c : ℕ) → is_name_byte c ≡ false → eqb (byte "?") c ≡ false → (s : List ℕ) → verify_name s ≡ true → lacks c s ≡ true
unfolding verify_name lacks
name-lacks c k q [] h = absurd (false≢true h)
name-lacks c k q (b ∷ []) h = rw (lacks-one b h c k q)
name-lacks c k q (b ∷ d ∷ s) h = rw (apart is_name_byte b c (both (is_name_byte b) (all_name_bytes (d ∷ s)) h).0 k) (lacks-all-name c k (d ∷ s) (both (is_name_byte b) (all_name_bytes (d ∷ s)) h).1)

-- A test that every member of a list passes.
unfoldable pub every : (ℕ → Bool) → List ℕ → Bool
every test [] = true
every test (x ∷ s) = test x && every test s

pub passes : (test : ℕ → Bool) (s : List ℕ) → every test s ≡ true → (b : ℕ) → among b s ≡ true → test b ≡ true
unfolding every among
passes test [] a b h = absurd (false≢true h)
passes test (x ∷ s) a b h = go (eqb b x) refl h (λ k. passes test s (both (test x) (every test s) a).1 b k)
  where
    go : (t : Bool) → eqb b x ≡ t → (t || among b s) ≡ true → (among b s ≡ true → test b ≡ true) → test b ≡ true
    go true e k rec = rw (eqb-true b x e) (both (test x) (every test s) a).0
    go false e k rec = rec k
