-- What a difference says of its two nodes is so.
use Prim.Native.Nat.{ℕ}
use mathlib.Core.Path.{◌≡◌, refl, sym, ap, subst, ◌∙◌}
use mathlib.Core.Bool.{Bool, true, false, cond, not, ◌&&◌, false≢true, true≢false}
use mathlib.Core.List.{List, [], ◌∷◌}
use mathlib.Core.Logic.{◌⊎◌, inl, inr}
use Rattle.std.specs.Prelude.{Some, None}
use lib.Dec.{eqb}
use borrow.Author.Tests.{eqb-true, eqb-false, not-true}
use Rattle.kinds.specs.Byte.{among, same_bytes}
use Rattle.kinds.specs.Compare.{bits, level_for}
use Rattle.kinds.specs.Primitive.{is_object, equivalent}
use Rattle.kinds.specs.Sound.{valid_label, valid_count, valid}
use Rattle.kinds.specs.Tree as T
use Rattle.kinds.specs.Tree.{Label, Trees, end, node, primitive, bit_field, typed_bit_field, pointer, atomic, array, struct, union, is_end, is_container, inside, shows}
use Rattle.kinds.specs.declared.NestingLevel.{NestingLevel}
use Rattle.kinds.proofs.TableLaws.{both, same_bytes_lem, same-bytes-refl}
use Rattle.reason.specs.Reason.{Difference, kind, size, offset, length, name, count, or_else, unless, offset_of, length_of, own_difference, items, items_compared, count_difference, first_difference}
use Rattle.reason_agreement.specs.Along.{item_at, follow, NodesDiffer, Differ}
use Rattle.reason_agreement.proofs.AlongLaws.{item-keeps, follow-keeps, reason, else-some, else-none, nodes_own, at-root, below_root}
use Rattle.reason_agreement.proofs.KindLaws.{kind-alone, equivalent-turned, with-offset, with-length, with-bits, with-name, labels-alike, ValidParts, valid-parts, same-items}

unless-some : (b : Bool) (d : Difference) {e : Difference} → unless b d ≡ Some e → (b ≡ false) × (d ≡ e)
unfolding unless
unless-some true d h = let z : true ≡ false = cc in absurd (true≢false z)
unless-some false d {e} h = let z : d ≡ e = cc in (refl, z)

unless-none : (b : Bool) (d : Difference) → unless b d ≡ None → b ≡ true
unfolding unless
unless-none true d h = refl
unless-none false d h = let z : true ≡ false = cc in absurd (true≢false z)

-- ---- Two nodes without a difference of their own.

pub record OwnSame (l m : Label) : Type 0 where
  pub kinds : equivalent (T.kind l) (T.kind m) ≡ true
  pub sizes : bits l ≡ bits m
  pub offsets : offset_of l ≡ offset_of m
  pub lengths : length_of l ≡ length_of m
  pub names : T.name l ≡ T.name m

pub own_same : (l m : Label) → own_difference l m ≡ None → OwnSame l m
unfolding own_difference
own_same l m h =
    let a = else-none (unless (equivalent (T.kind l) (T.kind m)) (kind (T.kind l) (T.kind m))) _ h in
    let b = else-none (unless (eqb (bits l) (bits m)) (size (bits l) (bits m))) _ a.1 in
    let c = else-none (unless (eqb (offset_of l) (offset_of m)) (offset (offset_of l) (offset_of m))) _ b.1 in
    let d = else-none (unless (eqb (length_of l) (length_of m)) (length (length_of l) (length_of m))) _ c.1 in
    record {
      kinds = unless-none _ _ a.0;
      sizes = eqb-true (bits l) (bits m) (unless-none _ _ b.0);
      offsets = eqb-true (offset_of l) (offset_of m) (unless-none _ _ c.0);
      lengths = eqb-true (length_of l) (length_of m) (unless-none _ _ d.0);
      names = same_bytes_lem (T.name l) (T.name m) (unless-none _ _ d.1);
    }

-- ---- What each difference of two nodes asks of their kinds.

module _ (l m : Label) (h : equivalent (T.kind l) (T.kind m) ≡ true) where
  turned-kinds : equivalent (T.kind m) (T.kind l) ≡ true
  turned-kinds = equivalent-turned (T.kind l) (T.kind m) ∙ h

  -- one side's kind, where it is no object's, is the other's too
  to-second : (k : ℕ) → is_object k ≡ false → T.kind l ≡ k → T.kind m ≡ k
  to-second k o = kind-alone k o (T.kind l) (T.kind m) h

  to-first : (k : ℕ) → is_object k ≡ false → T.kind m ≡ k → T.kind l ≡ k
  to-first k o = kind-alone k o (T.kind m) (T.kind l) turned-kinds

  both_bits : (bits l ≡ bits m → ⊥) → (among (T.kind l) (24 ∷ 25 ∷ []) ≡ true) × (T.kind l ≡ T.kind m)
  unfolding is_object among
  both_bits d = go (with-bits l) (with-bits m)
    where
      same : (k : ℕ) → among k (24 ∷ 25 ∷ []) ≡ true → T.kind l ≡ k → T.kind m ≡ k → (among (T.kind l) (24 ∷ 25 ∷ []) ≡ true) × (T.kind l ≡ T.kind m)
      same k a e f = (rw e a, e ∙ sym f)

      go : (T.kind l ≡ 24) ⊎ ((T.kind l ≡ 25) ⊎ (bits l ≡ 0)) → (T.kind m ≡ 24) ⊎ ((T.kind m ≡ 25) ⊎ (bits m ≡ 0))
          → (among (T.kind l) (24 ∷ 25 ∷ []) ≡ true) × (T.kind l ≡ T.kind m)
      go (inl e) q = same 24 refl e (to-second 24 refl e)
      go (inr (inl e)) q = same 25 refl e (to-second 25 refl e)
      go (inr (inr e)) (inl f) = same 24 refl (to-first 24 refl f) f
      go (inr (inr e)) (inr (inl f)) = same 25 refl (to-first 25 refl f) f
      go (inr (inr e)) (inr (inr f)) = absurd (d (e ∙ sym f))

  both_typed : (offset_of l ≡ offset_of m → ⊥) → (T.kind l ≡ 25) × (T.kind m ≡ 25)
  unfolding is_object among
  both_typed d = go (with-offset l) (with-offset m)
    where
      go : (T.kind l ≡ 25) ⊎ (offset_of l ≡ 0) → (T.kind m ≡ 25) ⊎ (offset_of m ≡ 0) → (T.kind l ≡ 25) × (T.kind m ≡ 25)
      go (inl e) q = (e, to-second 25 refl e)
      go (inr e) (inl f) = (to-first 25 refl f, f)
      go (inr e) (inr f) = absurd (d (e ∙ sym f))

  both-arrays : (length_of l ≡ length_of m → ⊥) → (T.kind l ≡ 28) × (T.kind m ≡ 28)
  unfolding is_object among
  both-arrays d = go (with-length l) (with-length m)
    where
      go : (T.kind l ≡ 28) ⊎ (length_of l ≡ 0) → (T.kind m ≡ 28) ⊎ (length_of m ≡ 0) → (T.kind l ≡ 28) × (T.kind m ≡ 28)
      go (inl e) q = (e, to-second 28 refl e)
      go (inr e) (inl f) = (to-first 28 refl f, f)
      go (inr e) (inr f) = absurd (d (e ∙ sym f))

no-object : (l : Label) → is_container l ≡ true → is_object (T.kind l) ≡ false
unfolding is_container is_object among T.kind
no-object (primitive p) h = absurd (false≢true h)
no-object (bit_field n) h = absurd (false≢true h)
no-object (typed_bit_field o n) h = absurd (false≢true h)
no-object pointer h = absurd (false≢true h)
no-object atomic h = absurd (false≢true h)
no-object (array n) h = absurd (false≢true h)
no-object (struct s) h = refl
no-object (union s) h = refl
no-object T.none h = absurd (false≢true h)

-- Two containers of one kind.
record Containers (l m : Label) : Type 0 where
  first : is_container l ≡ true
  second : is_container m ≡ true
  kinds : T.kind l ≡ T.kind m

module _ (l m : Label) (a : valid_label l ≡ true) (b : valid_label m ≡ true) (h : equivalent (T.kind l) (T.kind m) ≡ true) where
  first-container : is_container l ≡ true → Containers l m
  first-container c = record {
    first = c;
    second = sym (labels-alike l m a b h).container ∙ c;
    kinds = sym (kind-alone (T.kind l) (no-object l c) (T.kind l) (T.kind m) h refl);
  }

  both-named : (T.name l ≡ T.name m → ⊥) → Containers l m
  both-named d = go (with-name l) (with-name m)
    where
      go : (is_container l ≡ true) ⊎ (T.name l ≡ []) → (is_container m ≡ true) ⊎ (T.name m ≡ []) → Containers l m
      go (inl c) q = first-container c
      go (inr e) (inl c) = first-container ((labels-alike l m a b h).container ∙ c)
      go (inr e) (inr f) = absurd (d (e ∙ sym f))

bytes-differ : (s t : List ℕ) → same_bytes s t ≡ false → s ≡ t → ⊥
bytes-differ s t h e = true≢false (sym (same-bytes-refl t) ∙ ap (λ x. same_bytes x t) (sym e) ∙ h)

-- ---- Their own difference, and that of their counts.

module _ (l m : Label) (cs ds : Trees) (a : valid_label l ≡ true) (b : valid_label m ≡ true) where
  to : {d e : Difference} → d ≡ e → NodesDiffer d l cs m ds → NodesDiffer e l cs m ds
  to p = subst (λ x. NodesDiffer x l cs m ds) p

  own-right : {d : Difference} → own_difference l m ≡ Some d → NodesDiffer d l cs m ds
  unfolding own_difference
  own-right {d} h = kinds (else-some (unless (equivalent (T.kind l) (T.kind m)) (kind (T.kind l) (T.kind m))) _ h)
    where
      names : equivalent (T.kind l) (T.kind m) ≡ true → unless (same_bytes (T.name l) (T.name m)) (name (T.name l) (T.name m)) ≡ Some d → NodesDiffer d l cs m ds
      names k q =
          let s = unless-some _ _ q in
          let n = bytes-differ (T.name l) (T.name m) s.0 in
          let c = both-named l m a b k n in
          to s.1 (c.first, c.second, c.kinds, refl, refl, n)

      lengths : equivalent (T.kind l) (T.kind m) ≡ true
          → (unless (eqb (length_of l) (length_of m)) (length (length_of l) (length_of m)) ≡ Some d)
          ⊎ ((unless (eqb (length_of l) (length_of m)) (length (length_of l) (length_of m)) ≡ None) × (unless (same_bytes (T.name l) (T.name m)) (name (T.name l) (T.name m)) ≡ Some d))
          → NodesDiffer d l cs m ds
      lengths k (inl q) =
          let s = unless-some _ _ q in
          let n = eqb-false (length_of l) (length_of m) s.0 in
          let c = both-arrays l m k n in
          to s.1 (c.0, c.1, refl, refl, n)
      lengths k (inr q) = names k q.1

      offsets : equivalent (T.kind l) (T.kind m) ≡ true → bits l ≡ bits m
          → (unless (eqb (offset_of l) (offset_of m)) (offset (offset_of l) (offset_of m)) ≡ Some d)
          ⊎ ((unless (eqb (offset_of l) (offset_of m)) (offset (offset_of l) (offset_of m)) ≡ None)
          × (or_else (unless (eqb (length_of l) (length_of m)) (length (length_of l) (length_of m))) (unless (same_bytes (T.name l) (T.name m)) (name (T.name l) (T.name m))) ≡ Some d))
          → NodesDiffer d l cs m ds
      offsets k e (inl q) =
          let s = unless-some _ _ q in
          let n = eqb-false (offset_of l) (offset_of m) s.0 in
          let c = both_typed l m k n in
          to s.1 (c.0, c.1, e, refl, refl, n)
      offsets k e (inr q) = lengths k (else-some _ _ q.1)

      sizes : equivalent (T.kind l) (T.kind m) ≡ true
          → (unless (eqb (bits l) (bits m)) (size (bits l) (bits m)) ≡ Some d)
          ⊎ ((unless (eqb (bits l) (bits m)) (size (bits l) (bits m)) ≡ None)
          × (or_else (unless (eqb (offset_of l) (offset_of m)) (offset (offset_of l) (offset_of m)))
          (or_else (unless (eqb (length_of l) (length_of m)) (length (length_of l) (length_of m))) (unless (same_bytes (T.name l) (T.name m)) (name (T.name l) (T.name m)))) ≡ Some d))
          → NodesDiffer d l cs m ds
      sizes k (inl q) =
          let s = unless-some _ _ q in
          let n = eqb-false (bits l) (bits m) s.0 in
          let c = both_bits l m k n in
          to s.1 (c.0, c.1, refl, refl, n)
      sizes k (inr q) = offsets k (eqb-true (bits l) (bits m) (unless-none _ _ q.0)) (else-some _ _ q.1)

      kinds : (unless (equivalent (T.kind l) (T.kind m)) (kind (T.kind l) (T.kind m)) ≡ Some d)
          ⊎ ((unless (equivalent (T.kind l) (T.kind m)) (kind (T.kind l) (T.kind m)) ≡ None)
          × (or_else (unless (eqb (bits l) (bits m)) (size (bits l) (bits m)))
          (or_else (unless (eqb (offset_of l) (offset_of m)) (offset (offset_of l) (offset_of m)))
          (or_else (unless (eqb (length_of l) (length_of m)) (length (length_of l) (length_of m))) (unless (same_bytes (T.name l) (T.name m)) (name (T.name l) (T.name m))))) ≡ Some d))
          → NodesDiffer d l cs m ds
      kinds (inl q) = let s = unless-some _ _ q in to s.1 (refl, refl, s.0)
      kinds (inr q) = sizes (unless-none _ _ q.0) (else-some _ _ q.1)

  count-right : (v : NestingLevel) → valid_count l cs ≡ true → valid_count m ds ≡ true → OwnSame l m → {d : Difference}
      → cond (items_compared l v cs ds) (count_difference cs ds) None ≡ Some d → NodesDiffer d l cs m ds
  unfolding items_compared count_difference
  count-right v p q o {d} h = compared (items_compared l v cs ds) refl h
    where
      known : (y : Bool) → is_container l ≡ y → cond y (shows l v && (not (is_end cs) && not (is_end ds))) true ≡ true → (items cs ≡ items ds → ⊥)
          → count (items cs) (items ds) ≡ d → NodesDiffer d l cs m ds
      known true c k n e =
          let both_some = both (not (is_end cs)) (not (is_end ds)) (both (shows l v) _ k).1 in
          let r = first-container l m a b o.kinds c in
          to e (r.first, r.second, r.kinds, o.names, not-true (is_end cs) both_some.0, not-true (is_end ds) both_some.1, refl, refl, n)
      known false c k n e = absurd (n (same-items l m cs ds a b p q o.kinds c))

      compared : (y : Bool) → items_compared l v cs ds ≡ y → cond y (count_difference cs ds) None ≡ Some d → NodesDiffer d l cs m ds
      compared true e k = let s = unless-some _ _ k in known (is_container l) refl e (eqb-false (items cs) (items ds) s.0) s.1
      compared false e k = let z : true ≡ false = cc in absurd (true≢false z)

-- ---- Along the path.

valid-item : (i : ℕ) (t : Trees) → valid t ≡ true → valid (item_at i t) ≡ true
valid-item = item-keeps (λ t. valid t ≡ true) (λ l cs ts h. (valid-parts l cs ts h).children) (λ l cs ts h. (valid-parts l cs ts h).others)

pub follow-valid : (p : List ℕ) (t : Trees) → valid t ≡ true → valid (follow p t) ≡ true
follow-valid = follow-keeps (λ t. valid t ≡ true) (λ l cs ts h. (valid-parts l cs ts h).children) (λ l cs ts h. (valid-parts l cs ts h).others)

root-right : (v : NestingLevel) (l m : Label) (cs ts ds us : Trees) {d : Difference} → valid (node l cs ts) ≡ true → valid (node m ds us) ≡ true
    → nodes_own l m v cs ds ≡ Some d → NodesDiffer d l cs m ds
root-right v l m cs ts ds us {d} a b h = go (valid-parts l cs ts a) (valid-parts m ds us b) (else-some (own_difference l m) _ h)
  where
    go : ValidParts l cs ts → ValidParts m ds us → (own_difference l m ≡ Some d) ⊎ ((own_difference l m ≡ None) × (cond (items_compared l v cs ds) (count_difference cs ds) None ≡ Some d))
        → NodesDiffer d l cs m ds
    go p q (inl e) = own-right l m cs ds p.label q.label e
    go p q (inr e) = count-right l m cs ds p.label q.label v p.number q.number (own_same l m e.0) e.1

pub found_right : (all : Bool) (v : NestingLevel) (p : List ℕ) (d : Difference) (t u : Trees) → valid t ≡ true → valid u ≡ true
    → first_difference all v t u ≡ Some (reason p d) → Differ d (follow p t) (follow p u)
unfolding first_difference follow
found_right all v [] d end u a b h = let z : true ≡ false = cc in absurd (true≢false z)
found_right all v [] d (node l cs ts) end a b h = let z : true ≡ false = cc in absurd (true≢false z)
found_right all v [] d (node l cs ts) (node m ds us) a b h = root-right (level_for all v) l m cs ts ds us a b (at-root all v d l cs ts m ds us h)
found_right all v (i ∷ p) d end u a b h = let z : true ≡ false = cc in absurd (true≢false z)
found_right all v (i ∷ p) d (node l cs ts) end a b h = let z : true ≡ false = cc in absurd (true≢false z)
found_right all v (i ∷ p) d (node l cs ts) (node m ds us) a b h =
    found_right all (inside l (level_for all v)) p d (item_at i cs) (item_at i ds) (valid-item i cs (valid-parts l cs ts a).children) (valid-item i ds (valid-parts m ds us b).children)
    (below_root all v i p d l cs ts m ds us h).found
