-- Laws of the one pass over the nodes of a sheet, a node at a time.
use Prim.Native.Nat.{ℕ, zero, suc, ◌+◌, ◌-◌, ◌*◌, ◌≤◌, ◌<◌}
use native.Mathlib.Nat.{suc-add}
use native.Mathlib.Omega.{arith}
use native.Mathlib.Numerals.{sub-one}
use mathlib.Core.Path.{◌≡◌, refl, ap, ap₂, sym, ◌∙◌}
use mathlib.Core.List.{List}
use mathlib.Core.Bool.{Bool, true, false, cond, ◌&&◌, and-true, and-false}
use borrow.Author.Tests.{le-leb, lt-leb, leb-true, leb-false, eq-eqb, ne_eqb, eqb-true}
use lib.Dec.{leb, eqb}
use lib.ListN.{take, drop}
use Rattle.kinds.specs.Name.{verify_name}
use Rattle.kinds.specs.Parse.{max_u64, max_u8}
use Rattle.kinds.specs.Sheet.{kind_at, first_at, second_at, count_at, label_at, label, is_container_kind, numbers, next_name, packed, arity, nests}
use Rattle.kinds.specs.Sound.{good_name}
use Rattle.kinds.proofs.SheetLaws.{arity-many, arity-one, arity-low, arity-high, arity-below, arity-next, nests-step, nests-zero, nests-over, nests-arity, nests-none, next_name-le, container-first}
use Rattle.kinds.proofs.TableLaws.{both_left, both_right}
use Rattle.kinds.proofs.NodeLaws.{by_kind, label-none}
use Rattle.sheet.specs.Walked.{in_order, walked, fits, node_fits}
use Rattle.std.specs.Prelude.{Option, Some, None}

-- ---- A node's own tests.

-- a kind without children
pub fits-leaf : (n k c d : ℕ) → 0 < n → arity k c d ≡ eqb c 1 → eqb c 1 ≡ fits n k c d
unfolding fits
fits-leaf n k c d p h = go (eqb c 1) refl
  where
    go : (t : Bool) → eqb c 1 ≡ t → eqb c 1 ≡ (leb 1 c && (leb c n && arity k c d))
    go true e = let f = eqb-true c 1 e in rw (h, le-leb 1 c (omega arith), le-leb c n (omega arith))
    go false e = rw (h, e, and-false (leb c n), and-false (leb 1 c))

module _ (n k c d : ℕ) (p : 25 ≤ k) (q : k ≤ 28) where
  pub fits-few : c < 2 → fits n k c d ≡ false
  unfolding fits
  fits-few r = rw (arity-below k c d p q r, and-false (leb c n), and-false (leb 1 c))

  pub fits-over : 2 ≤ c → n < c → fits n k c d ≡ false
  unfolding fits
  fits-over r s = rw (le-leb 1 c (omega arith), lt-leb c n s)

  pub fits-child : 2 ≤ c → c ≤ n → eqb d (c - 1) ≡ fits n k c d
  unfolding fits
  fits-child r s = rw (le-leb 1 c (omega arith), le-leb c n s) (sym (arity-next k c d p q r))

-- the numbers of the kinds whose first number is free
module _ (k a b p e : ℕ) where
  pub numbers-typed : k ≡ 25 → a ≤ max_u64 → numbers k a b p e ≡ leb b max_u8
  unfolding numbers
  numbers-typed h m = rw (h, le-leb a max_u64 m)

  pub numbers-array : k ≡ 28 → a ≤ max_u64 → numbers k a b p e ≡ eqb b 0
  unfolding numbers
  numbers-array h m = rw (h, le-leb a max_u64 m)

-- a kind that takes no numbers
numbers-none : (k a b p e : ℕ) → k ≤ 31 → is_container_kind k ≡ false → (k ≡ 24 → ⊥) → (k ≡ 25 → ⊥) → (k ≡ 28 → ⊥) → numbers k a b p e ≡ (eqb a 0 && eqb b 0)
unfolding numbers
numbers-none k a b p e le h q r t = rw (h, ne_eqb k 25 r, ne_eqb k 24 q, ne_eqb k 28 t, le-leb k 31 le)

numbers-code : (k a b p e : ℕ) → k < 24 → numbers k a b p e ≡ (eqb a 0 && eqb b 0)
numbers-code k a b p e h =
    numbers-none k a b p e (omega arith) (rw (ne_eqb k 29 (λ d. omega arith), ne_eqb k 30 (λ d. omega arith))) (λ d. omega arith) (λ d. omega arith) (λ d. omega arith)

-- a code that is packed as the only node
pub code-numbers : (w : List ℕ) (p e : ℕ) → kind_at w 0 < 24 → packed w 1 0 p e ≡ true → (first_at w 0 ≡ 0) × (second_at w 0 ≡ 0)
unfolding packed
code-numbers w p e k h =
    let n = sym (numbers-code (kind_at w 0) (first_at w 0) (second_at w 0) p e k) ∙ both_left (numbers (kind_at w 0) (first_at w 0) (second_at w 0) p e) _ h in
    (eqb-true _ _ (both_left (eqb (first_at w 0) 0) _ n), eqb-true _ _ (both_right (eqb (first_at w 0) 0) _ n))

-- what is tested of a code
pub node-code : (w : List ℕ) (n at p e : ℕ) → 0 < n → kind_at w at < 24 → node_fits w n at p e ≡ ((eqb (first_at w at) 0 && eqb (second_at w at) 0) && eqb (count_at w at) 1)
unfolding node_fits
node-code w n at p e h k =
    ap₂ ◌&&◌
    (numbers-code (kind_at w at) (first_at w at) (second_at w at) p e k)
    (sym (fits-leaf n (kind_at w at) (count_at w at) (count_at w (at + 4)) h (arity-low (kind_at w at) (count_at w at) (count_at w (at + 4)) (omega arith))))

-- what is tested of a pointer or an atomic
pub node-indirection : (w : List ℕ) (n at p e : ℕ) → 26 ≤ kind_at w at → kind_at w at ≤ 27 → node_fits w n at p e ≡ ((eqb (first_at w at) 0 && eqb (second_at w at) 0) && fits n (kind_at w at) (count_at w at) (count_at w (at + 4)))
unfolding node_fits
node-indirection w n at p e lo hi =
    ap (λ (t : Bool). t && fits n (kind_at w at) (count_at w at) (count_at w (at + 4)))
    (numbers-none (kind_at w at) (first_at w at) (second_at w at) p e (omega arith) (rw (ne_eqb (kind_at w at) 29 (λ d. omega arith), ne_eqb (kind_at w at) 30 (λ d. omega arith))) (λ d. omega arith) (λ d. omega arith) (λ d. omega arith))

-- the name of one node
pub good-label : (s : List ℕ) (k a b : ℕ) → good_name (label s k a b) ≡ cond (is_container_kind k) (verify_name (take b (drop a s))) true
unfolding good_name label
good-label s k a b = go (leb k 23) refl (leb k 31) refl
  where
    go : (t : Bool) → leb k 23 ≡ t → (u : Bool) → leb k 31 ≡ u → good_name (label s k a b) ≡ cond (is_container_kind k) (verify_name (take b (drop a s))) true
    go true q u r = low (leb-true k 23 q)
      where
        low : k ≤ 23 → good_name (label s k a b) ≡ cond (is_container_kind k) (verify_name (take b (drop a s))) true
        low p = rw (le-leb k 23 p, ne_eqb k 29 (λ e. omega arith), ne_eqb k 30 (λ e. omega arith))
    go false q true r = by_kind (λ (j : ℕ). good_name (label s j a b) ≡ cond (is_container_kind j) (verify_name (take b (drop a s))) true) refl refl refl refl refl refl refl refl k (leb-false k 23 q) (leb-true k 31 r)
    go false q false r = high (leb-false k 31 r)
      where
        high : 31 < k → good_name (label s k a b) ≡ cond (is_container_kind k) (verify_name (take b (drop a s))) true
        high p = rw (label-none s k a b (omega arith), ne_eqb k 29 (λ e. omega arith), ne_eqb k 30 (λ e. omega arith))

-- what is tested of a container
pub node-container : (w : List ℕ) (n at p e : ℕ) → is_container_kind (kind_at w at) ≡ true → node_fits w n at p e ≡ ((eqb (first_at w at) p && leb (p + second_at w at) e) && (leb 1 (count_at w at) && leb (count_at w at) n))
unfolding node_fits fits numbers
node-container w n at p e h = rw (h, arity-many (kind_at w at) (count_at w at) (count_at w (at + 4)) h, and-true (leb (count_at w at) n))

-- What is known of a container that can stand first.
pub record Container (w : List ℕ) (n at p e : ℕ) : Type 0 where
  pub name-fits : p + second_at w at ≤ e
  pub some-node : 1 ≤ count_at w at
  pub within : count_at w at ≤ n

pub container-says : (w : List ℕ) (n at p e : ℕ) → is_container_kind (kind_at w at) ≡ true → node_fits w n at p e ≡ true → Container w n at p e
container-says w n at p e k m =
    let h = sym (node-container w n at p e k) ∙ m in
    let a = both_left (eqb (first_at w at) p && leb (p + second_at w at) e) _ h in
    let b = both_right (eqb (first_at w at) p && leb (p + second_at w at) e) _ h in
    record {
      name-fits = leb-true (p + second_at w at) e (both_right (eqb (first_at w at) p) _ a);
      some-node = leb-true 1 (count_at w at) (both_left (leb 1 (count_at w at)) _ b);
      within = leb-true (count_at w at) n (both_right (leb 1 (count_at w at)) _ b);
    }

-- ---- A turn of the pass.

-- The nodes after those that were walked.
unfoldable pub then : Option (ℕ × Bool) → (ℕ → Bool → Option (ℕ × Bool)) → Option (ℕ × Bool)
then None k = None
then (Some (p, good)) k = k p good

-- nothing comes after them
then-end : (x : Option (ℕ × Bool)) (k : ℕ → Bool → Option (ℕ × Bool)) → ((q : ℕ) (f : Bool) → k q f ≡ Some (q, f)) → then x k ≡ x
unfolding then
then-end None k h = refl
then-end (Some (q, f)) k h = h q f

pub some-pair : {p q : ℕ} {g f : Bool} → ◌≡◌ {A = Option (ℕ × Bool)} (Some (p, g)) (Some (q, f)) → (p ≡ q) × (g ≡ f)
some-pair {p} {q} {g} {f} h = let d : ◌≡◌ {A = ℕ × Bool} (p, g) (q, f) = cc in (ap (λ (x : ℕ × Bool). x.0) d, ap (λ (x : ℕ × Bool). x.1) d)

broken-if : (t : Bool) → cond {A = Option (ℕ × Bool)} t None None ≡ None
broken-if true = refl
broken-if false = refl

-- counts and numbers are tested together or one after the other
then_if : (a b : Bool) (x : Option (ℕ × Bool)) (k : ℕ → Bool → Option (ℕ × Bool)) → cond (a && b) (then x k) None ≡ then (cond a x None) (λ (q : ℕ) (f : Bool). cond b (k q f) None)
unfolding then
then_if true b None k = broken-if b
then_if true b (Some (q, f)) k = refl
then_if false b x k = refl

-- What is known of a subtree that fits.
record Fit (w : List ℕ) (n at : ℕ) : Type 0 where
  some-node : 1 ≤ count_at w at
  within : count_at w at ≤ n
  children : arity (kind_at w at) (count_at w at) (count_at w (at + 4)) ≡ true

module _ (w : List ℕ) (n at : ℕ) where
  fit-says : fits n (kind_at w at) (count_at w at) (count_at w (at + 4)) ≡ true → Fit w n at
  unfolding fits
  fit-says h =
      let a = both_right (leb 1 (count_at w at)) _ h in
      record {
        some-node = leb-true 1 (count_at w at) (both_left (leb 1 (count_at w at)) _ h);
        within = leb-true (count_at w at) n (both_left (leb (count_at w at) n) _ a);
        children = both_right (leb (count_at w at) n) _ a;
      }

  nests-unfit : 0 < n → fits n (kind_at w at) (count_at w at) (count_at w (at + 4)) ≡ false → nests w n at ≡ false
  unfolding fits
  nests-unfit p h = go (leb 1 (count_at w at)) refl (leb (count_at w at) n) refl
    where
      go : (t : Bool) → leb 1 (count_at w at) ≡ t → (u : Bool) → leb (count_at w at) n ≡ u → nests w n at ≡ false
      go true a true b = nests-arity w n at (leb-true 1 (count_at w at) a) (leb-true (count_at w at) n b) (rw (a, b) at h)
      go true a false b = nests-over w n at p (leb-true 1 (count_at w at) a) (leb-false (count_at w at) n b)
      go false a u b = nests-zero w n at p (leb-false 1 (count_at w at) a)

  -- below a node without a name at most one tree stands
  nests-plain : Fit w n at → is_container_kind (kind_at w at) ≡ false → nests w n at ≡ nests w (n - 1) (at + 4)
  nests-plain f k = go (leb 25 (kind_at w at)) refl (leb (kind_at w at) 28) refl
    where
      leaf : count_at w at ≡ 1 → nests w n at ≡ nests w (n - 1) (at + 4)
      leaf c =
          nests-step w n at f.some-node f.within
          ∙ rw (f.children, nests-none w (count_at w at - 1) (at + 4) (omega arith)) (ap₂ (nests w) (omega arith) (omega arith))

      one : count_at w at ≡ count_at w (at + 4) + 1 → 2 ≤ count_at w at → nests w n at ≡ nests w (n - 1) (at + 4)
      one c t =
          let l = f.within in
          let a : nests w (count_at w at - 1) (at + 4) ≡ nests w (count_at w (at + 4)) (at + 4) = ap (λ (j : ℕ). nests w j (at + 4)) (omega arith) in
          let b : nests w (n - count_at w at) (at + 4 * count_at w at) ≡ nests w (n - 1 - count_at w (at + 4)) (at + 4 + 4 * count_at w (at + 4)) = ap₂ (nests w) (omega arith) (omega arith) in
          nests-step w n at f.some-node l
          ∙ rw (
            f.children,
            a,
            b,
            nests-step w (count_at w (at + 4)) (at + 4) (omega arith) (omega arith),
            nests-none w (count_at w (at + 4) - count_at w (at + 4)) (at + 4 + 4 * count_at w (at + 4))
                (omega arith),
            nests-step w (n - 1) (at + 4) (omega arith) (omega arith),
          )
          (regroup (arity (kind_at w (at + 4)) (count_at w (at + 4)) (count_at w (at + 4 + 4))) (nests w (count_at w (at + 4) - 1) (at + 4 + 4)) (nests w (n - 1 - count_at w (at + 4)) (at + 4 + 4 * count_at w (at + 4))))
        where
          regroup : (x y z : Bool) → ((x && (y && true)) && z) ≡ (x && (y && z))
          regroup true true z = refl
          regroup true false z = refl
          regroup false y z = refl

      go : (t : Bool) → leb 25 (kind_at w at) ≡ t → (u : Bool) → leb (kind_at w at) 28 ≡ u → nests w n at ≡ nests w (n - 1) (at + 4)
      go false a u b = leaf (eqb-true (count_at w at) 1 (sym (arity-low (kind_at w at) (count_at w at) (count_at w (at + 4)) (leb-false 25 (kind_at w at) a)) ∙ f.children))
      go true a false b = leaf (eqb-true (count_at w at) 1 (sym (arity-high (kind_at w at) (count_at w at) (count_at w (at + 4)) (leb-false (kind_at w at) 28 b) k) ∙ f.children))
      go true a true b =
          let h = sym (arity-one (kind_at w at) (count_at w at) (count_at w (at + 4)) (leb-true 25 (kind_at w at) a) (leb-true (kind_at w at) 28 b)) ∙ f.children in
          one (eqb-true (count_at w at) (count_at w (at + 4) + 1) (both_right (leb 2 (count_at w at)) _ h)) (leb-true 2 (count_at w at) (both_left (leb 2 (count_at w at)) _ h))

plain-next : (k b p : ℕ) → is_container_kind k ≡ false → next_name k b p ≡ p
unfolding next_name
plain-next k b p h = rw h

container-next : (k b p : ℕ) → is_container_kind k ≡ true → next_name k b p ≡ p + b
unfolding next_name
container-next k b p h = rw h

module _ (s w : List ℕ) (e : ℕ) where
  order-step : (n at p : ℕ) (g : Bool) → 0 < n → in_order s w n at p e g
      ≡ cond (numbers (kind_at w at) (first_at w at) (second_at w at) p e) (in_order s w (n - 1) (at + 4) (next_name (kind_at w at) (second_at w at) p) e (g && good_name (label_at s w at))) None
  unfolding in_order
  order-step zero at p g h = absurd (omega arith)
  order-step (suc n) at p g h = rw (sub-one (suc n))

  order-append : (j k at p : ℕ) (g : Bool) → in_order s w (j + k) at p e g ≡ then (in_order s w j at p e g) (λ (q : ℕ) (f : Bool). in_order s w k (at + 4 * j) q e f)
  unfolding in_order then
  order-append zero k at p g = let a : zero + k ≡ k = omega arith in let b : at ≡ at + 4 * zero = omega arith in ap₂ (λ (n i : ℕ). in_order s w n i p e g) a b
  order-append (suc j) k at p g = ap (λ (n : ℕ). in_order s w n at p e g) (suc-add j k)
      ∙ go (numbers (kind_at w at) (first_at w at) (second_at w at) p e) _ _ (order-append j k (at + 4) (next_name (kind_at w at) (second_at w at) p) (g && good_name (label_at s w at)))
    where
      go : (t : Bool) (x y : Option (ℕ × Bool)) → x ≡ then y (λ (q : ℕ) (f : Bool). in_order s w k (at + 4 + 4 * j) q e f) → cond t x None ≡ then (cond t y None) (λ (q : ℕ) (f : Bool). in_order s w k (at + 4 * suc j) q e f)
      go true x y h = h ∙ ap (λ (i : ℕ). then y (λ (q : ℕ) (f : Bool). in_order s w k i q e f)) (omega arith)
      go false x y h = refl

  -- the next name is within the names
  order_le : (n at p : ℕ) (g : Bool) (q : ℕ) (f : Bool) → p ≤ e → in_order s w n at p e g ≡ Some (q, f) → q ≤ e
  unfolding in_order
  order_le zero at p g q f h r = let d = some-pair r in omega (arith, d.0)
  order_le (suc n) at p g q f h r = go (numbers (kind_at w at) (first_at w at) (second_at w at) p e) refl (order_le n (at + 4) (next_name (kind_at w at) (second_at w at) p) (g && good_name (label_at s w at)) q f)
    where
      go : (t : Bool) → numbers (kind_at w at) (first_at w at) (second_at w at) p e ≡ t
          → (next_name (kind_at w at) (second_at w at) p ≤ e → in_order s w n (at + 4) (next_name (kind_at w at) (second_at w at) p) e (g && good_name (label_at s w at)) ≡ Some (q, f) → q ≤ e) → q ≤ e
      go true m more = more (next_name-le (kind_at w at) (first_at w at) (second_at w at) p e h m) (rw m at r)
      go false m more = let d : None ≡ Some (q, f) = rw m at r in let z : ◌≡◌ {A = ℕ} 0 1 = cc in absurd (omega arith)

  pub walked-le : (n at p : ℕ) (g : Bool) (q : ℕ) (f : Bool) → p ≤ e → Some (q, f) ≡ walked s w n at p e g → q ≤ e
  unfolding walked
  walked-le n at p g q f h r = go (nests w n at) refl
    where
      go : (t : Bool) → nests w n at ≡ t → q ≤ e
      go true m = order_le n at p g q f h (sym (rw m at r))
      go false m = let d : Some (q, f) ≡ None = rw m at r in let z : ◌≡◌ {A = ℕ} 0 1 = cc in absurd (omega arith)

  pub walked_none : (n at p : ℕ) (g : Bool) → n ≤ 0 → walked s w n at p e g ≡ Some (p, g)
  unfolding walked in_order
  walked_none zero at p g h = rw (nests-none w zero at h)
  walked_none (suc n) at p g h = absurd (omega arith)

  module _ (n at p : ℕ) (g : Bool) (h : 0 < n) where
    -- a node that cannot stand first
    pub walked-bad : node_fits w n at p e ≡ false → walked s w n at p e g ≡ None
    unfolding walked node_fits
    walked-bad m = go (numbers (kind_at w at) (first_at w at) (second_at w at) p e) refl
      where
        go : (t : Bool) → numbers (kind_at w at) (first_at w at) (second_at w at) p e ≡ t → cond (nests w n at) (in_order s w n at p e g) None ≡ None
        go true q = rw (nests-unfit w n at h (rw q at m))
        go false q = rw (order-step n at p g h, q) (broken-if (nests w n at))

    module _ (m : node_fits w n at p e ≡ true) where
      has-numbers : numbers (kind_at w at) (first_at w at) (second_at w at) p e ≡ true
      unfolding node_fits
      has-numbers = both_left (numbers (kind_at w at) (first_at w at) (second_at w at) p e) _ m

      has-fit : Fit w n at
      unfolding node_fits
      has-fit = fit-says w n at (both_right (numbers (kind_at w at) (first_at w at) (second_at w at) p e) _ m)

      -- a node without a name: its only child, if it has one, stands as the next of the nodes
      pub walked-plain : is_container_kind (kind_at w at) ≡ false → walked s w n at p e g ≡ walked s w (n - 1) (at + 4) p e g
      unfolding walked
      walked-plain k =
          let a : next_name (kind_at w at) (second_at w at) p ≡ p = plain-next (kind_at w at) (second_at w at) p k in
          let b : good_name (label_at s w at) ≡ true = good-label s (kind_at w at) (first_at w at) (second_at w at) ∙ rw k in
          rw (order-step n at p g h, has-numbers, a, b, and-true g, nests-plain w n at has-fit k)

      -- a container: the nodes below it, then those after its subtree
      module _ (k : is_container_kind (kind_at w at) ≡ true) where
        walked-container : walked s w n at p e g ≡ then (walked s w (count_at w at - 1) (at + 4) (p + second_at w at) e (g && verify_name (take (second_at w at) (drop p s))))
            (λ (q : ℕ) (f : Bool). walked s w (n - count_at w at) (at + 4 * count_at w at) q e f)
        unfolding walked
        walked-container =
            let f = has-fit in
            let l = f.some-node in
            let r = f.within in
            let a : next_name (kind_at w at) (second_at w at) p ≡ p + second_at w at = container-next (kind_at w at) (second_at w at) p k in
            let o : first_at w at ≡ p = container-first (kind_at w at) (first_at w at) (second_at w at) p e k has-numbers in
            let b : good_name (label_at s w at) ≡ verify_name (take (second_at w at) (drop p s)) = good-label s (kind_at w at) (first_at w at) (second_at w at) ∙ rw (k, o) in
            let d : n - 1 ≡ count_at w at - 1 + (n - count_at w at) = omega arith in
            let i : at + 4 * count_at w at ≡ at + 4 + 4 * (count_at w at - 1) = omega arith in
            rw (order-step n at p g h, has-numbers, a, b, d, order-append (count_at w at - 1) (n - count_at w at) (at + 4) (p + second_at w at) (g && verify_name (take (second_at w at) (drop p s))), nests-step w n at l r, f.children, i)
            (then_if (nests w (count_at w at - 1) (at + 4)) (nests w (n - count_at w at) (at + 4 + 4 * (count_at w at - 1)))
            (in_order s w (count_at w at - 1) (at + 4) (p + second_at w at) e (g && verify_name (take (second_at w at) (drop p s)))) (λ (q : ℕ) (t : Bool). in_order s w (n - count_at w at) (at + 4 + 4 * (count_at w at - 1)) q e t))

        -- the last of the nodes: what follows its fields is what follows it
        pub walked-last : count_at w at ≡ n → (g' : Bool) → g' ≡ (g && verify_name (take (second_at w at) (drop p s))) → walked s w n at p e g ≡ walked s w (n - 1) (at + 4) (p + second_at w at) e g'
        walked-last c g' same =
            walked-container
            ∙ then-end _ _ (λ q f. walked_none (n - count_at w at) (at + 4 * count_at w at) q f (omega arith))
            ∙ ap₂ (λ (j : ℕ) (t : Bool). walked s w j (at + 4) (p + second_at w at) e t) (omega arith) (sym same)

        module _ (g' : Bool) (same : g' ≡ (g && verify_name (take (second_at w at) (drop p s)))) (x : Option (ℕ × Bool)) (inner : x ≡ walked s w (count_at w at - 1) (at + 4) (p + second_at w at) e g') where
          pub walked-broken : x ≡ None → walked s w n at p e g ≡ None
          unfolding then
          walked-broken b = walked-container ∙ rw (← same, ← inner, b)

          pub walked_next : (q : ℕ) (f : Bool) → x ≡ Some (q, f) → walked s w n at p e g ≡ walked s w (n - count_at w at) (at + 4 * count_at w at) q e f
          unfolding then
          walked_next q f b = walked-container ∙ rw (← same, ← inner, b)

-- a lone code
pub walked-code : (s w : List ℕ) (at p e : ℕ) (g : Bool) → kind_at w at < 24 → count_at w at ≡ 1 → walked s w 1 at p e g ≡ cond (eqb (first_at w at) 0 && eqb (second_at w at) 0) (Some (p, g)) None
walked-code s w at p e g k c = go (eqb (first_at w at) 0 && eqb (second_at w at) 0) refl
  where
    tests : (t : Bool) → (eqb (first_at w at) 0 && eqb (second_at w at) 0) ≡ t → node_fits w 1 at p e ≡ t
    tests t h = node-code w 1 at p e (omega arith) k ∙ rw (h, eq-eqb (count_at w at) 1 c) (and-true t)

    go : (t : Bool) → (eqb (first_at w at) 0 && eqb (second_at w at) 0) ≡ t → walked s w 1 at p e g ≡ cond t (Some (p, g)) None
    go true h = walked-plain s w e 1 at p g (omega arith) (tests true h) (rw (ne_eqb (kind_at w at) 29 (λ d. omega arith), ne_eqb (kind_at w at) 30 (λ d. omega arith))) ∙ walked_none s w e (1 - 1) (at + 4) p g (omega arith)
    go false h = walked-bad s w e 1 at p g (omega arith) (tests false h)
