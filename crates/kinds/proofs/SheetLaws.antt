-- Laws of the test of a sheet, one node at a time.
use Prim.Native.Nat.{ℕ, zero, suc, ◌+◌, ◌-◌, ◌*◌, ◌≤◌, ◌<◌}
use native.Mathlib.Omega.{arith}
use native.Mathlib.Nat.{min-eq_left}
use native.Mathlib.Numerals.{sub-one}
use mathlib.Core.Path.{◌≡◌, refl, ap, ap₂, sym, ◌∙◌, subst}
use mathlib.Core.List.{List}
use mathlib.Core.Bool.{Bool, true, false, cond, ◌&&◌}
use borrow.Author.Tests.{le-leb, lt-leb, leb-true, leb-false, eq-eqb, ne_eqb, eqb-true, eqb-false}
use lib.ListN.{length, get_or}
use lib.Dec.{leb, eqb}
use Rattle.kinds.specs.Tree.{node, count}
use Rattle.kinds.specs.Sheet.{kind_at, first_at, second_at, count_at, label_at, is_container_kind, numbers, next_name, packed, header_words, words_used, header_for, header, below, read, trees, arity, nest, nests, max_nodes, max_names}
use Rattle.kinds.proofs.TableLaws.{both, both_left, both_right}

module _ (s w : List ℕ) where
  -- any fuel that suffices gives the same
  read-fuel : (f g n at : ℕ) → n ≤ f → n ≤ g → read s w f n at ≡ read s w g n at
  unfolding read
  read-fuel zero zero zero at p q = refl
  read-fuel zero (suc g) zero at p q = refl
  read-fuel (suc f) zero zero at p q = refl
  read-fuel (suc f) (suc g) zero at p q = refl
  read-fuel zero g (suc n) at p q = absurd (omega arith)
  read-fuel (suc f) zero (suc n) at p q = absurd (omega arith)
  read-fuel (suc f) (suc g) (suc n) at p q =
      ap₂ (node (label_at s w at)) (read-fuel f g (below w n at) (at + 4) (omega arith) (omega arith)) (read-fuel f g (n - below w n at) (at + 4 + 4 * below w n at) (omega arith) (omega arith))

  -- the first of the trees and those after it
  pub trees-step : (n at : ℕ) → 1 ≤ count_at w at → count_at w at ≤ n → trees s w n at ≡ node (label_at s w at) (trees s w (count_at w at - 1) (at + 4)) (trees s w (n - count_at w at) (at + 4 * count_at w at))
  unfolding trees read
  trees-step zero at p q = absurd (omega arith)
  trees-step (suc n) at p q =
      let e : below w n at ≡ count_at w at - 1 = min-eq_left (omega arith) in
      ap₂ (node (label_at s w at))
      (ap (λ (k : ℕ). read s w n k (at + 4)) e ∙ read-fuel n (count_at w at - 1) (count_at w at - 1) (at + 4) (omega arith) (omega arith))
      (ap₂ (λ (k j : ℕ). read s w n k j) (omega arith) (omega arith) ∙ read-fuel n (suc n - count_at w at) (suc n - count_at w at) (at + 4 * count_at w at) (omega arith) (omega arith))

  -- as many nodes as are asked for
  read_count : (f n at : ℕ) → n ≤ f → count (read s w f n at) ≡ n
  unfolding read count
  read_count zero zero at p = refl
  read_count zero (suc n) at p = absurd (omega arith)
  read_count (suc f) zero at p = refl
  read_count (suc f) (suc n) at p =
      let x = read_count f (below w n at) (at + 4) (omega arith) in
      let y = read_count f (n - below w n at) (at + 4 + 4 * below w n at) (omega arith) in
      omega arith

  pub trees-count : (n at : ℕ) → count (trees s w n at) ≡ n
  unfolding trees
  trees-count n at = read_count n n at (omega arith)

module _ (w : List ℕ) where
  nest-fuel : (f g n at : ℕ) → n ≤ f → n ≤ g → nest w f n at ≡ nest w g n at
  unfolding nest
  nest-fuel zero zero zero at p q = refl
  nest-fuel zero (suc g) zero at p q = refl
  nest-fuel (suc f) zero zero at p q = refl
  nest-fuel (suc f) (suc g) zero at p q = refl
  nest-fuel zero g (suc n) at p q = absurd (omega arith)
  nest-fuel (suc f) zero (suc n) at p q = absurd (omega arith)
  nest-fuel (suc f) (suc g) (suc n) at p q =
      ap₂ (λ (a b : Bool). leb 1 (count_at w at) && (leb (count_at w at) (suc n) && (arity (kind_at w at) (count_at w at) (count_at w (at + 4)) && (a && b))))
      (nest-fuel f g (below w n at) (at + 4) (omega arith) (omega arith)) (nest-fuel f g (n - below w n at) (at + 4 + 4 * below w n at) (omega arith) (omega arith))

  pub nests-step : (n at : ℕ) → 1 ≤ count_at w at → count_at w at ≤ n → nests w n at ≡ (arity (kind_at w at) (count_at w at) (count_at w (at + 4)) && (nests w (count_at w at - 1) (at + 4) && nests w (n - count_at w at) (at + 4 * count_at w at)))
  unfolding nests nest
  nests-step zero at p q = absurd (omega arith)
  nests-step (suc n) at p q =
      let e : below w n at ≡ count_at w at - 1 = min-eq_left (omega arith) in
      rw (le-leb 1 (count_at w at) p, le-leb (count_at w at) (suc n) q)
      (ap₂ (λ (a b : Bool). arity (kind_at w at) (count_at w at) (count_at w (at + 4)) && (a && b))
      (ap (λ (k : ℕ). nest w n k (at + 4)) e ∙ nest-fuel n (count_at w at - 1) (count_at w at - 1) (at + 4) (omega arith) (omega arith))
      (ap₂ (λ (k j : ℕ). nest w n k j) (omega arith) (omega arith) ∙ nest-fuel n (suc n - count_at w at) (suc n - count_at w at) (at + 4 * count_at w at) (omega arith) (omega arith)))

  pub nests-zero : (n at : ℕ) → 0 < n → count_at w at < 1 → nests w n at ≡ false
  unfolding nests nest
  nests-zero zero at p q = absurd (omega arith)
  nests-zero (suc n) at p q = rw (lt-leb 1 (count_at w at) q)

  pub nests-over : (n at : ℕ) → 0 < n → 1 ≤ count_at w at → n < count_at w at → nests w n at ≡ false
  unfolding nests nest
  nests-over zero at p r q = absurd (omega arith)
  nests-over (suc n) at p r q = rw (le-leb 1 (count_at w at) r, lt-leb (count_at w at) (suc n) q)

-- how many children each kind takes
pub arity-many : (k c d : ℕ) → is_container_kind k ≡ true → arity k c d ≡ true
unfolding arity
arity-many k c d h = rw h

pub arity-one : (k c d : ℕ) → 25 ≤ k → k ≤ 28 → arity k c d ≡ (leb 2 c && eqb c (d + 1))
unfolding arity
arity-one k c d p q = rw (ne_eqb k 29 (λ e. omega arith), ne_eqb k 30 (λ e. omega arith), le-leb 25 k p, le-leb k 28 q)

pub arity-low : (k c d : ℕ) → k < 25 → arity k c d ≡ eqb c 1
unfolding arity
arity-low k c d p = rw (ne_eqb k 29 (λ e. omega arith), ne_eqb k 30 (λ e. omega arith), lt-leb 25 k p)

pub arity-high : (k c d : ℕ) → 28 < k → is_container_kind k ≡ false → arity k c d ≡ eqb c 1
unfolding arity
arity-high k c d p h = rw (h, le-leb 25 k (omega arith), lt-leb k 28 p)

pub eqb_same : (a b c d : ℕ) → (a ≡ b → c ≡ d) → (c ≡ d → a ≡ b) → eqb a b ≡ eqb c d
eqb_same a b c d f g = go (eqb a b) refl
  where
    go : (t : Bool) → eqb a b ≡ t → eqb a b ≡ eqb c d
    go true e = e ∙ sym (eq-eqb c d (f (eqb-true a b e)))
    go false e = e ∙ sym (ne_eqb c d (λ h. eqb-false a b e (g h)))

pub leb-same : (a b c d : ℕ) → (a ≤ b → c ≤ d) → (c ≤ d → a ≤ b) → leb a b ≡ leb c d
leb-same a b c d f g = go (leb a b) refl
  where
    go : (t : Bool) → leb a b ≡ t → leb a b ≡ leb c d
    go true e = e ∙ sym (le-leb c d (f (leb-true a b e)))
    go false e = e ∙ sym (lt-leb c d (not-lt (λ h. not-le (leb-false a b e) (g h))))
      where
        not-le : {m n : ℕ} → n < m → m ≤ n → ⊥
        not-le p q = omega arith

        not-lt : (c ≤ d → ⊥) → d < c
        not-lt h = omega arith

pub arity-below : (k c d : ℕ) → 25 ≤ k → k ≤ 28 → c < 2 → arity k c d ≡ false
arity-below k c d p q r = arity-one k c d p q ∙ rw (lt-leb 2 c r)

pub arity-next : (k c d : ℕ) → 25 ≤ k → k ≤ 28 → 2 ≤ c → arity k c d ≡ eqb d (c - 1)
arity-next k c d p q r = arity-one k c d p q ∙ rw (le-leb 2 c r) (eqb_same c (d + 1) d (c - 1) (λ e. omega arith) (λ e. omega arith))

-- the numbers that each kind takes
module _ (k a b s e : ℕ) where
  pub numbers-first : is_container_kind k ≡ false → (k ≡ 25 → ⊥) → (k ≡ 28 → ⊥) → (a ≡ 0 → ⊥) → numbers k a b s e ≡ false
  unfolding numbers
  numbers-first h p q r = rw (h, ne_eqb k 25 p, ne_eqb k 28 q, ne_eqb a 0 r) (go (eqb k 24) (leb k 31))
    where
      go : (x y : Bool) → cond x false (y && false) ≡ false
      go true y = refl
      go false true = refl
      go false false = refl

  pub numbers-bits : k ≡ 24 → a ≡ 0 → numbers k a b s e ≡ leb b 255
  unfolding numbers
  numbers-bits p q = rw (p, q)

  pub numbers-rest : is_container_kind k ≡ false → (k ≡ 25 → ⊥) → (k ≡ 28 → ⊥) → (k ≡ 24 → ⊥) → a ≡ 0 → numbers k a b s e ≡ (leb k 31 && eqb b 0)
  unfolding numbers
  numbers-rest h p q r z = rw (h, ne_eqb k 25 p, ne_eqb k 28 q, ne_eqb k 24 r, z)

module _ (w : List ℕ) (n at : ℕ) (p : 1 ≤ count_at w at) (q : count_at w at ≤ n) where
  pub nests-arity : arity (kind_at w at) (count_at w at) (count_at w (at + 4)) ≡ false → nests w n at ≡ false
  nests-arity h = nests-step w n at p q ∙ rw h

pub nests-none : (w : List ℕ) (n at : ℕ) → n ≤ 0 → nests w n at ≡ true
unfolding nests nest
nests-none w zero at p = refl
nests-none w (suc n) at p = absurd (omega arith)

-- what is known of a container whose numbers are right
pub container-first : (k a b s e : ℕ) → is_container_kind k ≡ true → numbers k a b s e ≡ true → a ≡ s
unfolding numbers
container-first k a b s e h p = eqb-true a s (both_left (eqb a s) (leb (s + b) e) (rw h at p))

pub container-fits : (k a b s e : ℕ) → is_container_kind k ≡ true → numbers k a b s e ≡ true → s + b ≤ e
unfolding numbers
container-fits k a b s e h p = leb-true (s + b) e (both_right (eqb a s) (leb (s + b) e) (rw h at p))

pub next_name-le : (k a b s e : ℕ) → s ≤ e → numbers k a b s e ≡ true → next_name k b s ≤ e
unfolding next_name
next_name-le k a b s e q p = go (is_container_kind k) refl
  where
    go : (t : Bool) → is_container_kind k ≡ t → cond (is_container_kind k) (s + b) s ≤ e
    go true h = rw h (container-fits k a b s e h p)
    go false h = rw h q

-- a turn of the pass over the nodes
module _ (w : List ℕ) (n at s e : ℕ) (p : 0 < n) where
  pub packed_step : packed w n at s e ≡ (numbers (kind_at w at) (first_at w at) (second_at w at) s e && packed w (n - 1) (at + 4) (next_name (kind_at w at) (second_at w at) s) e)
  unfolding packed
  packed_step = go n refl p
    where
      go : (m : ℕ) → n ≡ m → 0 < m → packed w m at s e ≡ (numbers (kind_at w at) (first_at w at) (second_at w at) s e && packed w (m - 1) (at + 4) (next_name (kind_at w at) (second_at w at) s) e)
      go zero h q = absurd (omega arith)
      go (suc m) h q = rw (sub-one (suc m))

  pub packed-on : numbers (kind_at w at) (first_at w at) (second_at w at) s e ≡ true → packed w n at s e ≡ packed w (n - 1) (at + 4) (next_name (kind_at w at) (second_at w at) s) e
  packed-on h = packed_step ∙ rw h

pub packed_none : (w : List ℕ) (n at s e : ℕ) → n ≤ 0 → packed w n at s e ≡ eqb s e
unfolding packed
packed_none w zero at s e p = refl
packed_none w (suc n) at s e p = absurd (omega arith)

-- the header takes the words before the first node
pub header-length : (k l : ℕ) → length (header_for k l) ≡ header_words
unfolding header_for
header-length k l = refl

-- what a header says
pub record Header (w : List ℕ) (m : ℕ) : Type 0 where
  pub some-nodes : 1 ≤ get_or w 0 0
  pub few-nodes : get_or w 0 0 ≤ max_nodes
  pub few_bytes : get_or w 2 0 ≤ max_names
  pub offset : get_or w 1 0 ≡ header_words
  pub used : get_or w 3 0 ≡ words_used (get_or w 0 0)
  pub room : words_used (get_or w 0 0) ≤ length w
  pub bytes : get_or w 2 0 ≤ m

pub header-says : (w : List ℕ) (m : ℕ) → header w m ≡ true → Header w m
unfolding header
header-says w m h =
    let a = both (leb header_words (length w)) _ h in
    let b = both (leb 1 (get_or w 0 0)) _ a.1 in
    let c = both (leb (get_or w 0 0) max_nodes) _ b.1 in
    let d = both (eqb (get_or w 1 0) header_words) _ c.1 in
    let e = both (leb (get_or w 2 0) max_names) _ d.1 in
    let f = both (eqb (get_or w 3 0) (words_used (get_or w 0 0))) _ e.1 in
    let g = both (leb (get_or w 3 0) (length w)) _ f.1 in
    record {
      some-nodes = leb-true 1 (get_or w 0 0) b.0;
      few-nodes = leb-true (get_or w 0 0) max_nodes c.0;
      few_bytes = leb-true (get_or w 2 0) max_names e.0;
      offset = eqb-true (get_or w 1 0) header_words d.0;
      used = eqb-true (get_or w 3 0) (words_used (get_or w 0 0)) f.0;
      room = subst (λ (n : ℕ). n ≤ length w) (eqb-true (get_or w 3 0) (words_used (get_or w 0 0)) f.0) (leb-true (get_or w 3 0) (length w) g.0);
      bytes = leb-true (get_or w 2 0) m g.1;
    }

-- the first node of those that are packed, and the others
pub packed-first : (w : List ℕ) (n at s e : ℕ) → 0 < n → packed w n at s e ≡ true → numbers (kind_at w at) (first_at w at) (second_at w at) s e ≡ true
packed-first w n at s e p h = both_left (numbers (kind_at w at) (first_at w at) (second_at w at) s e) _ (sym (packed_step w n at s e p) ∙ h)

pub packed-rest : (w : List ℕ) (n at s e : ℕ) → 0 < n → packed w n at s e ≡ true → packed w (n - 1) (at + 4) (next_name (kind_at w at) (second_at w at) s) e ≡ true
packed-rest w n at s e p h = both_right (numbers (kind_at w at) (first_at w at) (second_at w at) s e) _ (sym (packed_step w n at s e p) ∙ h)
