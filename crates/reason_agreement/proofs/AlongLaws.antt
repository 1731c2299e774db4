-- The first difference is the comparison's along its path, and along no earlier path is there one.
use Prim.Native.Nat.{ℕ, zero, suc, ◌+◌, ◌<◌}
use native.Mathlib.Omega.{arith}
use mathlib.Core.Path.{◌≡◌, refl, sym, ap, ◌∙◌}
use mathlib.Core.Bool.{Bool, true, false, cond, ◌&&◌, ◌||◌, false≢true, true≢false}
use mathlib.Core.List.{List, [], ◌∷◌}
use mathlib.Core.Logic.{◌⊎◌, inl, inr}
use Rattle.std.specs.Prelude.{Option, Some, None}
use lib.Dec.{eqb, ltb}
use borrow.Author.Tests.{ltb-true, eqb-true}
use Rattle.kinds.specs.Compare.{level_for}
use Rattle.kinds.specs.Tree.{Label, Trees, end, node, inside}
use Rattle.kinds.specs.declared.NestingLevel.{NestingLevel}
use Rattle.kinds.proofs.TableLaws.{both}
use Rattle.reason.specs.Reason.{Difference, Reason, or_else, own_difference, items_compared, count_difference, here, under, node_difference, items_difference, first_difference}
use Rattle.reason_agreement.specs.Along.{item_at, follow, before, difference_along}

-- ---- What a tree hands on to its children and to the trees beside it holds along a path.

module _ (P : Trees → Type 0) (children : (l : Label) (cs ts : Trees) → P (node l cs ts) → P cs) (others : (l : Label) (cs ts : Trees) → P (node l cs ts) → P ts) where
  pub item-keeps : (i : ℕ) (t : Trees) → P t → P (item_at i t)
  unfolding item_at
  item-keeps i end h = h
  item-keeps zero (node l cs ts) h = h
  item-keeps (suc i) (node l cs ts) h = item-keeps i ts (others l cs ts h)

  pub follow-keeps : (p : List ℕ) (t : Trees) → P t → P (follow p t)
  unfolding follow
  follow-keeps [] t h = h
  follow-keeps (i ∷ p) end h = h
  follow-keeps (i ∷ p) (node l cs ts) h = follow-keeps p (item_at i cs) (item-keeps i cs (children l cs ts h))

-- ---- The parts of the definition.

abbrev pub reason : List ℕ → Difference → Reason
reason p d = record { path = p; differs = d }

-- One of two is found, or none.
pub else-some : {A : Type 0} (x y : Option A) {z : A} → or_else x y ≡ Some z → (x ≡ Some z) ⊎ ((x ≡ None) × (y ≡ Some z))
unfolding or_else
else-some None y h = inr (refl, h)
else-some (Some x) y h = inl h

pub else-none : {A : Type 0} (x y : Option A) → or_else x y ≡ None → (x ≡ None) × (y ≡ None)
unfolding or_else
else-none None y h = (refl, h)
else-none (Some x) y h = let z : true ≡ false = cc in absurd (true≢false z)

here-some : (x : Option Difference) {r : Reason} → here x ≡ Some r → (r.path ≡ []) × (x ≡ Some r.differs)
unfolding here
here-some None h = let z : true ≡ false = cc in absurd (true≢false z)
here-some (Some d) {r} h = let e : reason [] d ≡ r = cc in (sym (ap (λ (x : Reason). x.path) e), ap (λ (x : Reason). Some x.differs) e)

here-none : (x : Option Difference) → here x ≡ None → x ≡ None
unfolding here
here-none None h = refl
here-none (Some d) h = let z : true ≡ false = cc in absurd (true≢false z)

under_none : (i : ℕ) (x : Option Reason) → under i x ≡ None → x ≡ None
unfolding under
under_none i None h = refl
under_none i (Some d) h = let z : true ≡ false = cc in absurd (true≢false z)

record Under (i : ℕ) (x : Option Reason) (r : Reason) : Type 0 where
  rest : List ℕ
  path : r.path ≡ i ∷ rest
  found : x ≡ Some (reason rest r.differs)

under_some : (i : ℕ) (x : Option Reason) {r : Reason} → under i x ≡ Some r → Under i x r
unfolding under
under_some i None h = let z : true ≡ false = cc in absurd (true≢false z)
under_some i (Some q) {r} h =
    let e : reason (i ∷ q.path) q.differs ≡ r = cc in
    record { rest = q.path; path = sym (ap (λ (x : Reason). x.path) e); found = ap (λ (x : Reason). Some (reason q.path x.differs)) e }

-- ---- At a node.

-- What differs of two nodes themselves.
abbrev pub nodes_own : Label → Label → NestingLevel → Trees → Trees → Option Difference
nodes_own l m v cs ds = or_else (own_difference l m) (cond (items_compared l v cs ds) (count_difference cs ds) None)

pub record AtNode (own : Option Difference) (r : Reason) : Type 0 where
  pub path : r.path ≡ []
  pub found : own ≡ Some r.differs

pub record Below (own : Option Difference) (compared : Bool) (in_items : Option Reason) (r : Reason) : Type 0 where
  pub none-own : own ≡ None
  pub items-compared : compared ≡ true
  pub found : in_items ≡ Some r

node-some : (l m : Label) (v : NestingLevel) (cs ds : Trees) (x : Option Reason) {r : Reason} → node_difference l m v cs ds x ≡ Some r
    → AtNode (nodes_own l m v cs ds) r ⊎ Below (nodes_own l m v cs ds) (items_compared l v cs ds) x r
unfolding node_difference or_else
node-some l m v cs ds x {r} h = own (else-some (here (own_difference l m)) _ h)
  where
    counted : own_difference l m ≡ None → (here (count_difference cs ds) ≡ Some r) ⊎ ((here (count_difference cs ds) ≡ None) × (x ≡ Some r)) → items_compared l v cs ds ≡ true
        → AtNode (nodes_own l m v cs ds) r ⊎ Below (nodes_own l m v cs ds) (items_compared l v cs ds) x r
    counted e (inl q) f = let s = here-some (count_difference cs ds) q in inl (record { path = s.0; found = rw (e, f) s.1 })
    counted e (inr q) f = inr (record { none-own = rw (e, f) (here-none (count_difference cs ds) q.0); items-compared = f; found = q.1 })

    later : own_difference l m ≡ None → (y : Bool) → items_compared l v cs ds ≡ y → cond y (or_else (here (count_difference cs ds)) x) None ≡ Some r
        → AtNode (nodes_own l m v cs ds) r ⊎ Below (nodes_own l m v cs ds) (items_compared l v cs ds) x r
    later e true f q = counted e (else-some (here (count_difference cs ds)) x q) f
    later e false f q = let z : true ≡ false = cc in absurd (true≢false z)

    own : (here (own_difference l m) ≡ Some r) ⊎ ((here (own_difference l m) ≡ None) × (cond (items_compared l v cs ds) (or_else (here (count_difference cs ds)) x) None ≡ Some r))
        → AtNode (nodes_own l m v cs ds) r ⊎ Below (nodes_own l m v cs ds) (items_compared l v cs ds) x r
    own (inl q) = let s = here-some (own_difference l m) q in inl (record { path = s.0; found = rw s.1 })
    own (inr q) = later (here-none (own_difference l m) q.0) (items_compared l v cs ds) refl q.1

node-none : (l m : Label) (v : NestingLevel) (cs ds : Trees) (x : Option Reason) → node_difference l m v cs ds x ≡ None
    → (nodes_own l m v cs ds ≡ None) × (items_compared l v cs ds ≡ true → x ≡ None)
unfolding node_difference or_else
node-none l m v cs ds x h =
    let a = else-none (here (own_difference l m)) _ h in
    go (here-none (own_difference l m) a.0) (items_compared l v cs ds) refl a.1
  where
    go : own_difference l m ≡ None → (y : Bool) → items_compared l v cs ds ≡ y → cond y (or_else (here (count_difference cs ds)) x) None ≡ None
        → (nodes_own l m v cs ds ≡ None) × (items_compared l v cs ds ≡ true → x ≡ None)
    go e true f q = let s = else-none (here (count_difference cs ds)) x q in (rw (e, f) (here-none (count_difference cs ds) s.0), λ g. s.1)
    go e false f q = (rw (e, f), λ g. absurd (true≢false (sym g ∙ f)))

-- ---- In the items.

first-end : (all : Bool) (v : NestingLevel) (t : Trees) → first_difference all v t end ≡ None
unfolding first_difference
first-end all v end = refl
first-end all v (node l cs ts) = refl

items-none : (all : Bool) (v : NestingLevel) (i : ℕ) (t u : Trees) → items_difference all v i t u ≡ None → (j : ℕ) → first_difference all v (item_at j t) (item_at j u) ≡ None
unfolding items_difference first_difference item_at
items-none all v i end u h j = refl
items-none all v i (node l cs ts) end h j = first-end all v (item_at j (node l cs ts))
items-none all v i (node l cs ts) (node m ds us) h zero = under_none i _ (else-none _ (items_difference all v (suc i) ts us) h).0
items-none all v i (node l cs ts) (node m ds us) h (suc j) = items-none all v (suc i) ts us (else-none _ (items_difference all v (suc i) ts us) h).1 j

-- The item that differs first, and what it gives by itself.
record ItemFound (all : Bool) (v : NestingLevel) (i : ℕ) (t u : Trees) (r : Reason) : Type 0 where
  number : ℕ
  rest : List ℕ
  path : r.path ≡ (i + number) ∷ rest
  found : first_difference all v (item_at number t) (item_at number u) ≡ Some (reason rest r.differs)
  earlier : (k : ℕ) → k < number → first_difference all v (item_at k t) (item_at k u) ≡ None

items-some : (all : Bool) (v : NestingLevel) (i : ℕ) (t u : Trees) {r : Reason} → items_difference all v i t u ≡ Some r → ItemFound all v i t u r
unfolding items_difference first_difference item_at
items-some all v i end u h = let z : true ≡ false = cc in absurd (true≢false z)
items-some all v i (node l cs ts) end h = let z : true ≡ false = cc in absurd (true≢false z)
items-some all v i (node l cs ts) (node m ds us) {r} h = go (else-some (under i this) (items_difference all v (suc i) ts us) h) (λ q. items-some all v (suc i) ts us q)
  where
    this : Option Reason
    this = node_difference l m (level_for all v) cs ds (items_difference all (inside l (level_for all v)) 0 cs ds)

    before-next : under i this ≡ None → (n : ℕ) → ((k : ℕ) → k < n → first_difference all v (item_at k ts) (item_at k us) ≡ None)
        → (k : ℕ) → k < suc n → first_difference all v (item_at k (node l cs ts)) (item_at k (node m ds us)) ≡ None
    before-next e n f zero p = under_none i this e
    before-next e n f (suc k) p = f k (omega arith)

    go : (under i this ≡ Some r) ⊎ ((under i this ≡ None) × (items_difference all v (suc i) ts us ≡ Some r))
        → (items_difference all v (suc i) ts us ≡ Some r → ItemFound all v (suc i) ts us r) → ItemFound all v i (node l cs ts) (node m ds us) r
    go (inl q) rec =
        let s = under_some i this q in
        record { number = 0; rest = s.rest; path = s.path ∙ ap (λ x. x ∷ s.rest) (omega arith); found = s.found; earlier = λ k p. absurd (omega arith) }
    go (inr q) rec =
        let s = rec q.1 in
        record {
          number = suc s.number;
          rest = s.rest;
          path = s.path ∙ ap (λ x. x ∷ s.rest) (omega arith);
          found = s.found;
          earlier = before-next q.0 s.number s.earlier;
        }

-- ---- Along paths.

pub none-along : (all : Bool) (v : NestingLevel) (q : List ℕ) (t u : Trees) → first_difference all v t u ≡ None → difference_along all v q t u ≡ None
unfolding difference_along first_difference
none-along all v [] end u h = refl
none-along all v [] (node l cs ts) end h = refl
none-along all v [] (node l cs ts) (node m ds us) h = (node-none l m (level_for all v) cs ds _ h).0
none-along all v (j ∷ q) end u h = refl
none-along all v (j ∷ q) (node l cs ts) end h = refl
none-along all v (j ∷ q) (node l cs ts) (node m ds us) h =
    go (items_compared l w cs ds) refl (λ e. none-along all (inside l w) q (item_at j cs) (item_at j ds) (items-none all (inside l w) 0 cs ds ((node-none l m w cs ds _ h).1 e) j))
  where
    w : NestingLevel
    w = level_for all v

    go : (y : Bool) → items_compared l w cs ds ≡ y → (items_compared l w cs ds ≡ true → difference_along all (inside l w) q (item_at j cs) (item_at j ds) ≡ None)
        → cond y (difference_along all (inside l w) q (item_at j cs) (item_at j ds)) None ≡ None
    go true e f = f e
    go false e f = refl

-- What a reason at the root and one below it say.
pub at-root : (all : Bool) (v : NestingLevel) (d : Difference) (l : Label) (cs ts : Trees) (m : Label) (ds us : Trees)
    → first_difference all v (node l cs ts) (node m ds us) ≡ Some (reason [] d) → nodes_own l m (level_for all v) cs ds ≡ Some d
unfolding first_difference
at-root all v d l cs ts m ds us h = go (node-some l m w cs ds x h)
  where
    w : NestingLevel
    w = level_for all v

    x : Option Reason
    x = items_difference all (inside l w) 0 cs ds

    go : AtNode (nodes_own l m w cs ds) (reason [] d) ⊎ Below (nodes_own l m w cs ds) (items_compared l w cs ds) x (reason [] d) → nodes_own l m w cs ds ≡ Some d
    go (inl a) = a.found
    go (inr b) = let s = items-some all (inside l w) 0 cs ds b.found in let p = s.path in let z : true ≡ false = cc in absurd (true≢false z)

pub record BelowRoot (all : Bool) (v : NestingLevel) (i : ℕ) (p : List ℕ) (d : Difference) (l : Label) (cs : Trees) (m : Label) (ds : Trees) : Type 0 where
  pub none-own : nodes_own l m (level_for all v) cs ds ≡ None
  pub items-compared : items_compared l (level_for all v) cs ds ≡ true
  pub found : first_difference all (inside l (level_for all v)) (item_at i cs) (item_at i ds) ≡ Some (reason p d)
  pub earlier : (k : ℕ) → k < i → first_difference all (inside l (level_for all v)) (item_at k cs) (item_at k ds) ≡ None

pub below_root : (all : Bool) (v : NestingLevel) (i : ℕ) (p : List ℕ) (d : Difference) (l : Label) (cs ts : Trees) (m : Label) (ds us : Trees)
    → first_difference all v (node l cs ts) (node m ds us) ≡ Some (reason (i ∷ p) d) → BelowRoot all v i p d l cs m ds
unfolding first_difference
below_root all v i p d l cs ts m ds us h = go (node-some l m w cs ds x h)
  where
    w : NestingLevel
    w = level_for all v

    x : Option Reason
    x = items_difference all (inside l w) 0 cs ds

    go : AtNode (nodes_own l m w cs ds) (reason (i ∷ p) d) ⊎ Below (nodes_own l m w cs ds) (items_compared l w cs ds) x (reason (i ∷ p) d) → BelowRoot all v i p d l cs m ds
    go (inl a) = let q = a.path in let z : true ≡ false = cc in absurd (true≢false z)
    go (inr b) =
        let s = items-some all (inside l w) 0 cs ds b.found in
        let q = s.path in
        let f : s.rest ≡ p = cc in
        let e : 0 + s.number ≡ i = cc in
        let n : s.number ≡ i = omega arith in
        record {
          none-own = b.none-own;
          items-compared = b.items-compared;
          found = rw (n, f) at s.found;
          earlier = λ k k<i. s.earlier k (omega arith);
        }

module _ (all : Bool) where
  pub found-along : (v : NestingLevel) (p : List ℕ) (d : Difference) (t u : Trees) → first_difference all v t u ≡ Some (reason p d) → difference_along all v p t u ≡ Some d
  unfolding first_difference difference_along
  found-along v [] d end u h = let z : true ≡ false = cc in absurd (true≢false z)
  found-along v [] d (node l cs ts) end h = let z : true ≡ false = cc in absurd (true≢false z)
  found-along v [] d (node l cs ts) (node m ds us) h = at-root all v d l cs ts m ds us h
  found-along v (i ∷ p) d end u h = let z : true ≡ false = cc in absurd (true≢false z)
  found-along v (i ∷ p) d (node l cs ts) end h = let z : true ≡ false = cc in absurd (true≢false z)
  found-along v (i ∷ p) d (node l cs ts) (node m ds us) h =
      let b = below_root all v i p d l cs ts m ds us h in
      rw b.items-compared (found-along (inside l (level_for all v)) p d (item_at i cs) (item_at i ds) b.found)

  pub found_first : (v : NestingLevel) (p : List ℕ) (d : Difference) (t u : Trees) → first_difference all v t u ≡ Some (reason p d)
      → (q : List ℕ) → before q p ≡ true → difference_along all v q t u ≡ None
  unfolding first_difference difference_along before
  found_first v [] d t u h [] b = absurd (false≢true b)
  found_first v [] d t u h (j ∷ q) b = absurd (false≢true b)
  found_first v (i ∷ p) d end u h q b = let z : true ≡ false = cc in absurd (true≢false z)
  found_first v (i ∷ p) d (node l cs ts) end h q b = let z : true ≡ false = cc in absurd (true≢false z)
  found_first v (i ∷ p) d (node l cs ts) (node m ds us) h [] b = (below_root all v i p d l cs ts m ds us h).none-own
  found_first v (i ∷ p) d (node l cs ts) (node m ds us) h (j ∷ q) b =
      go (ltb j i) refl b (below_root all v i p d l cs ts m ds us h) (λ x y f k. found_first (inside l w) p d x y f q k)
    where
      w : NestingLevel
      w = level_for all v

      go : (y : Bool) → ltb j i ≡ y → (y || (eqb j i && before q p)) ≡ true → BelowRoot all v i p d l cs m ds
          → ((x y : Trees) → first_difference all (inside l w) x y ≡ Some (reason p d) → before q p ≡ true → difference_along all (inside l w) q x y ≡ None)
          → cond (items_compared l w cs ds) (difference_along all (inside l w) q (item_at j cs) (item_at j ds)) None ≡ None
      go true e f r ih = rw r.items-compared (none-along all (inside l w) q (item_at j cs) (item_at j ds) (r.earlier j (ltb-true j i e)))
      go false e f r ih =
          let s = both (eqb j i) (before q p) f in
          rw (r.items-compared, eqb-true j i s.0) (ih (item_at i cs) (item_at i ds) r.found s.1)
