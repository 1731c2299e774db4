-- The parts of a node's text at each kind, and their lengths.
use Prim.Native.Nat.{ℕ, ◌+◌, ◌-◌, ◌≤◌, ◌<◌}
use native.Mathlib.Omega.{arith}
use mathlib.Core.Path.{◌≡◌, refl, ap, ap₂, sym, ◌∙◌}
use mathlib.Core.Bool.{Bool, true, false, cond, ◌||◌, false≢true}
use mathlib.Core.List.{List, [], ◌∷◌, ◌++◌}
use borrow.Author.Tests.{le-leb, lt-leb, lt-ltb, le-ltb, eq-eqb, ne_eqb, eqb-true}
use lib.Dec.{eqb, ltb}
use lib.ListN.{length, take, drop, length-append, length-drop}
use lib.Seq.{length-take-le}
use Rattle.kinds.specs.Container.{start_byte, end_byte}
use Rattle.kinds.specs.Level.{container_include_fields}
use Rattle.kinds.specs.Kind.{container_of, is_indirection}
use Rattle.kinds.specs.Primitive.{codes, code}
use Rattle.kinds.specs.Print.{decimal, fields}
use Rattle.kinds.specs.Sheet.{is_container_kind}
use Rattle.kinds.specs.declared.ContainerKind.{ContainerKind}
use Rattle.std.specs.Prelude.{Some, None}
use Rattle.kinds.specs.declared.NestingLevel.{NestingLevel}
use Rattle.kinds.specs.declared.NestingLevel.TheVariants.{Top, Within, Bottom}
use Rattle.kinds.proofs.TableLaws.{every_below, pass_below}
use Rattle.static_str.specs.Parts.{opening, closing}

-- `=` stands where fields are included
pub fields-shown : (v u : NestingLevel) → container_include_fields v ≡ Some u → fields v [] ≡ 61 ∷ []
unfolding fields
fields-shown Top u e = refl
fields-shown Within u e = refl
fields-shown Bottom u e = let z : ◌≡◌ {A = ℕ} 0 1 = cc in absurd (omega arith)

pub fields-hidden : (v : NestingLevel) → container_include_fields v ≡ None → fields v [] ≡ []
unfolding fields
fields-hidden Top e = let z : ◌≡◌ {A = ℕ} 0 1 = cc in absurd (omega arith)
fields-hidden Within e = let z : ◌≡◌ {A = ℕ} 0 1 = cc in absurd (omega arith)
fields-hidden Bottom e = refl

-- the length of each code, by one computed test over the table
code_length : ℕ → ℕ
code_length k = cond (ltb k 13) 1 (cond (ltb k 16) 2 (cond (eqb k 20) 2 1))

right : ℕ → Bool
right k = eqb (length (code k)) (code_length k)

all_right : every_below right 24 ≡ true
unfolding every_below right code_length code codes
all_right = refl

code-length : (k : ℕ) → k < 24 → code_length k ≡ length (code k)
unfolding right
code-length k h = sym (eqb-true (length (code k)) (code_length k) (pass_below right 24 all_right k h))

module _ (k : ℕ) (h : k < 24) where
  pub code-simple : k < 13 → 1 ≡ length (code k)
  unfolding code_length
  code-simple p = rw (lt-ltb k 13 p) at (code-length k h)

  pub code-complex : 13 ≤ k → k < 16 → 2 ≡ length (code k)
  unfolding code_length
  code-complex p q = rw (le-ltb k 13 p, lt-ltb k 16 q) at (code-length k h)

  pub code-block : k ≡ 20 → 2 ≡ length (code k)
  unfolding code_length
  code-block p = rw (le-ltb k 13 (omega arith), le-ltb k 16 (omega arith), eq-eqb k 20 p) at (code-length k h)

  pub code_other : 16 ≤ k → (k ≡ 20 → ⊥) → 1 ≡ length (code k)
  unfolding code_length
  code_other p q = rw (le-ltb k 13 (omega arith), le-ltb k 16 p, ne_eqb k 20 q) at (code-length k h)

pub low-no-container : (k : ℕ) → k < 29 → is_container_kind k ≡ false
low-no-container k p = rw (ne_eqb k 29 (λ d. omega arith), ne_eqb k 30 (λ d. omega arith))

module _ (k b : ℕ) where
  pub closing-typed : k ≡ 25 → closing k b ≡ decimal b
  unfolding closing
  closing-typed p = rw p

  pub closing-array : k ≡ 28 → closing k b ≡ 93 ∷ []
  unfolding closing
  closing-array p = rw p

  pub closing-container : is_container_kind k ≡ true → closing k b ≡ end_byte (container_of k) ∷ []
  unfolding closing
  closing-container h = rw (ne_eqb k 25 (not_at 25 refl), ne_eqb k 28 (not_at 28 refl), h)
    where
      not_at : (j : ℕ) → is_container_kind j ≡ false → k ≡ j → ⊥
      not_at j f e = false≢true (sym f ∙ ap is_container_kind (sym e) ∙ h)

  pub closing-none : (k ≡ 25 → ⊥) → (k ≡ 28 → ⊥) → is_container_kind k ≡ false → closing k b ≡ []
  unfolding closing
  closing-none p q h = rw (ne_eqb k 25 p, ne_eqb k 28 q, h)

module _ (s : List ℕ) (k a b : ℕ) (v : NestingLevel) where
  pub opening-primitive : k < 24 → opening s k a b v ≡ code k
  unfolding opening
  opening-primitive p = rw (le-leb k 23 (omega arith))

  pub opening-container : 24 ≤ k → is_container_kind k ≡ true → opening s k a b v ≡ start_byte (container_of k) ∷ (take b (drop a s) ++ fields v [])
  unfolding opening
  opening-container p h = rw (lt-leb k 23 p, h)

  pub opening-bits : k ≡ 24 → opening s k a b v ≡ 98 ∷ decimal b
  unfolding opening
  opening-bits p = rw p

  pub opening-typed : k ≡ 25 → opening s k a b v ≡ 98 ∷ decimal a
  unfolding opening
  opening-typed p = rw p

  pub opening-pointer : k ≡ 26 → opening s k a b v ≡ 94 ∷ []
  unfolding opening
  opening-pointer p = rw p

  pub opening-atomic : k ≡ 27 → opening s k a b v ≡ 65 ∷ []
  unfolding opening
  opening-atomic p = rw p

  pub opening-array : k ≡ 28 → opening s k a b v ≡ 91 ∷ decimal a
  unfolding opening
  opening-array p = rw p

  pub opening-none : 24 ≤ k → is_container_kind k ≡ false → (k ≡ 24 → ⊥) → (k ≡ 25 → ⊥) → (k ≡ 26 → ⊥) → (k ≡ 27 → ⊥) → (k ≡ 28 → ⊥) → opening s k a b v ≡ []
  unfolding opening
  opening-none p h d e f g i = rw (lt-leb k 23 p, h, ne_eqb k 24 d, ne_eqb k 25 e, ne_eqb k 26 f, ne_eqb k 27 g, ne_eqb k 28 i)

  -- the length of the two together
  pub own-primitive : k < 24 → length (code k) ≡ length (opening s k a b v) + length (closing k b)
  own-primitive p = rw (opening-primitive p, closing-none k b (λ d. omega arith) (λ d. omega arith) (low-no-container k (omega arith))) (omega arith)

  pub own-container : 24 ≤ k → is_container_kind k ≡ true → a + b ≤ length s → 2 + b + length (fields v []) ≡ length (opening s k a b v) + length (closing k b)
  own-container p h q =
      let l = length-drop a s in
      let t = length-take-le b (drop a s) (omega arith) in
      let n = length-append (take b (drop a s)) (fields v []) in
      rw (opening-container p h, closing-container k b h) (omega arith)

  pub own_bits : k ≡ 24 → 1 + length (decimal b) ≡ length (opening s k a b v) + length (closing k b)
  own_bits p = rw (opening-bits p, closing-none k b (λ d. omega arith) (λ d. omega arith) (low-no-container k (omega arith))) (omega arith)

  pub own-typed : k ≡ 25 → 1 + length (decimal a) + length (decimal b) ≡ length (opening s k a b v) + length (closing k b)
  own-typed p = rw (opening-typed p, closing-typed k b p) (omega arith)

  own-pointer : k ≡ 26 → 1 ≡ length (opening s k a b v) + length (closing k b)
  own-pointer p = rw (opening-pointer p, closing-none k b (λ d. omega arith) (λ d. omega arith) (low-no-container k (omega arith)))

  own-atomic : k ≡ 27 → 1 ≡ length (opening s k a b v) + length (closing k b)
  own-atomic p = rw (opening-atomic p, closing-none k b (λ d. omega arith) (λ d. omega arith) (low-no-container k (omega arith)))

  pub own-indirection : is_indirection k ≡ true → 1 ≡ length (opening s k a b v) + length (closing k b)
  own-indirection h = go (eqb k 26) refl (eqb k 27) refl h
    where
      go : (t : Bool) → eqb k 26 ≡ t → (u : Bool) → eqb k 27 ≡ u → (t || u) ≡ true → 1 ≡ length (opening s k a b v) + length (closing k b)
      go true e u f r = own-pointer (eqb-true k 26 e)
      go false e true f r = own-atomic (eqb-true k 27 f)
      go false e false f r = absurd (false≢true r)

  pub own-array : k ≡ 28 → 2 + length (decimal a) ≡ length (opening s k a b v) + length (closing k b)
  own-array p = rw (opening-array p, closing-array k b p) (omega arith)

  pub own-none : 24 ≤ k → is_container_kind k ≡ false → (k ≡ 24 → ⊥) → (k ≡ 25 → ⊥) → (k ≡ 26 → ⊥) → (k ≡ 27 → ⊥) → (k ≡ 28 → ⊥) → 0
      ≡ length (opening s k a b v) + length (closing k b)
  own-none p h d e f g i = rw (opening-none p h d e f g i, closing-none k b e i h)

  -- the name as the code takes it out of the names
  pub opening-slice : (x : ContainerKind) → x ≡ container_of k → 24 ≤ k → is_container_kind k ≡ true → start_byte x ∷ (take (a + b - a) (drop a s) ++ fields v [])
      ≡ opening s k a b v
  opening-slice x e p h = ap₂ (λ (c : ContainerKind) (n : ℕ). start_byte c ∷ (take n (drop a s) ++ fields v [])) e (plain a b) ∙ sym (opening-container p h)
    where
      plain : (m n : ℕ) → m + n - m ≡ n
      plain m n = omega arith
