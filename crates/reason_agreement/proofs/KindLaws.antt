-- What the kinds of two nodes say of them: those that are equivalent and are no objects are the same.
use Prim.Native.Nat.{ℕ, suc, ◌+◌, ◌<◌}
use native.Mathlib.Omega.{arith}
use mathlib.Core.Path.{◌≡◌, refl, sym, ap, ◌∙◌}
use mathlib.Core.Bool.{Bool, true, false, cond, ◌&&◌, ◌||◌, false≢true, true≢false}
use mathlib.Core.List.{[], ◌∷◌}
use mathlib.Core.Logic.{◌⊎◌, inl, inr}
use lib.Dec.{eqb}
use borrow.Author.Tests.{eqb-true, ltb-true, eq-eqb, ne_eqb, eqb-false, lt-leb}
use Rattle.kinds.specs.Compare.{length_or_offset, bits}
use Rattle.kinds.specs.Kind.{inside_kind}
use Rattle.kinds.specs.Level.{shows_fields}
use Rattle.kinds.specs.Primitive.{is_object, equivalent}
use Rattle.kinds.specs.Sheet.{is_container_kind, has_one_child}
use Rattle.kinds.specs.Sound.{valid_label, valid_count, valid}
use Rattle.kinds.specs.Tree.{Label, Trees, end, node, primitive, bit_field, typed_bit_field, pointer, atomic, array, struct, union, none, is_end, is_one, kind, name, is_container, inside, shows}
use Rattle.kinds.specs.declared.NestingLevel.{NestingLevel}
use Rattle.kinds.proofs.KindLaws.{inside-low}
use Rattle.kinds.proofs.TableLaws.{both, each}
use Rattle.reason.specs.Reason.{offset_of, length_of, items}

-- ---- Equivalent kinds.

-- What does not tell Object, Block and Class apart does not tell equivalent kinds apart.
kinds-alike : {A : Type 0} (f : ℕ → A) (x : A) → f 19 ≡ x → f 20 ≡ x → f 21 ≡ x → (k j : ℕ) → equivalent k j ≡ true → f k ≡ f j
unfolding equivalent is_object
kinds-alike {A} f x a b c k j h = go (eqb k j) refl h
  where
    object : (i : ℕ) → is_object i ≡ true → f i ≡ x
    object i o = each (λ y. f y ≡ x) (19 ∷ 20 ∷ 21 ∷ []) (a, (b, (c, tt))) i o

    go : (y : Bool) → eqb k j ≡ y → (y || (is_object k && is_object j)) ≡ true → f k ≡ f j
    go true e q = ap f (eqb-true k j e)
    go false e q = let o = both (is_object k) (is_object j) q in object k o.0 ∙ sym (object j o.1)

-- A kind that is no object's is equivalent to itself alone.
pub kind-alone : (i : ℕ) → is_object i ≡ false → (k j : ℕ) → equivalent k j ≡ true → k ≡ i → j ≡ i
unfolding equivalent
kind-alone i o k j h e = go (eqb k j) refl h
  where
    go : (y : Bool) → eqb k j ≡ y → (y || (is_object k && is_object j)) ≡ true → j ≡ i
    go true f q = sym (eqb-true k j f) ∙ e
    go false f q = absurd (false≢true (sym o ∙ ap is_object (sym e) ∙ (both (is_object k) (is_object j) q).0))

pub flip : (x y : Bool) → (x && y) ≡ (y && x)
flip true true = refl
flip true false = refl
flip false true = refl
flip false false = refl

pub equivalent-turned : (k j : ℕ) → equivalent j k ≡ equivalent k j
unfolding equivalent
equivalent-turned k j = go (eqb k j) refl (is_object k) (is_object j)
  where
    go : (y : Bool) → eqb k j ≡ y → (p q : Bool) → (eqb j k || (q && p)) ≡ (eqb k j || (p && q))
    go true e p q = rw (e, eq-eqb j k (sym (eqb-true k j e)))
    go false e p q = rw (e, ne_eqb j k (λ f. eqb-false k j e (sym f))) (flip q p)

-- ---- Labels by their kinds.

-- Of a length and an offset a node has one at most.
pub both-numbers : (l : Label) → length_or_offset l ≡ offset_of l + length_of l
unfolding length_or_offset offset_of length_of
both-numbers (primitive p) = refl
both-numbers (bit_field n) = refl
both-numbers (typed_bit_field o n) = omega arith
both-numbers pointer = refl
both-numbers atomic = refl
both-numbers (array n) = omega arith
both-numbers (struct s) = refl
both-numbers (union s) = refl
both-numbers none = refl

pub with-offset : (l : Label) → (kind l ≡ 25) ⊎ (offset_of l ≡ 0)
unfolding kind offset_of
with-offset (primitive p) = inr refl
with-offset (bit_field n) = inr refl
with-offset (typed_bit_field o n) = inl refl
with-offset pointer = inr refl
with-offset atomic = inr refl
with-offset (array n) = inr refl
with-offset (struct s) = inr refl
with-offset (union s) = inr refl
with-offset none = inr refl

pub with-length : (l : Label) → (kind l ≡ 28) ⊎ (length_of l ≡ 0)
unfolding kind length_of
with-length (primitive p) = inr refl
with-length (bit_field n) = inr refl
with-length (typed_bit_field o n) = inr refl
with-length pointer = inr refl
with-length atomic = inr refl
with-length (array n) = inl refl
with-length (struct s) = inr refl
with-length (union s) = inr refl
with-length none = inr refl

pub with-bits : (l : Label) → (kind l ≡ 24) ⊎ ((kind l ≡ 25) ⊎ (bits l ≡ 0))
unfolding kind bits
with-bits (primitive p) = inr (inr refl)
with-bits (bit_field n) = inl refl
with-bits (typed_bit_field o n) = inr (inl refl)
with-bits pointer = inr (inr refl)
with-bits atomic = inr (inr refl)
with-bits (array n) = inr (inr refl)
with-bits (struct s) = inr (inr refl)
with-bits (union s) = inr (inr refl)
with-bits none = inr (inr refl)

pub with-name : (l : Label) → (is_container l ≡ true) ⊎ (name l ≡ [])
unfolding is_container name
with-name (primitive p) = inr refl
with-name (bit_field n) = inr refl
with-name (typed_bit_field o n) = inr refl
with-name pointer = inr refl
with-name atomic = inr refl
with-name (array n) = inr refl
with-name (struct s) = inl refl
with-name (union s) = inl refl
with-name none = inr refl

-- ---- What the kind of a valid node says.

-- How many items a node of kind `k` that is no container has.
arity_of : ℕ → ℕ
arity_of k = cond (has_one_child k) 1 0

-- Whether children are shown, by kind.
shows_kind : ℕ → NestingLevel → Bool
shows_kind k v = cond (is_container_kind k) (shows_fields v) true

record KindSays (l : Label) : Type 0 where
  pub container : is_container l ≡ is_container_kind (kind l)
  pub level : (v : NestingLevel) → inside l v ≡ inside_kind (kind l) v
  pub shown : (v : NestingLevel) → shows l v ≡ shows_kind (kind l) v

no-container : (p : ℕ) → p < 24 → is_container_kind p ≡ false
no-container p h = rw (ne_eqb p 29 (λ e. omega arith), ne_eqb p 30 (λ e. omega arith))

kind-says : (l : Label) → valid_label l ≡ true → KindSays l
unfolding valid_label is_container kind inside_kind shows_kind
kind-says (primitive p) h =
    let b = ltb-true p 24 h in
    let n = no-container p b in
    record { container = sym n; level = λ v. sym (inside-low p v (omega arith)); shown = λ v. rw n }
kind-says (bit_field n) h = record { container = refl; level = λ v. refl; shown = λ v. refl }
kind-says (typed_bit_field o n) h = record { container = refl; level = λ v. refl; shown = λ v. refl }
kind-says pointer h = record { container = refl; level = λ v. refl; shown = λ v. refl }
kind-says atomic h = record { container = refl; level = λ v. refl; shown = λ v. refl }
kind-says (array n) h = record { container = refl; level = λ v. refl; shown = λ v. refl }
kind-says (struct s) h = record { container = refl; level = λ v. refl; shown = λ v. refl }
kind-says (union s) h = record { container = refl; level = λ v. refl; shown = λ v. refl }
kind-says none h = record { container = refl; level = λ v. refl; shown = λ v. refl }

-- Two valid nodes of equivalent kinds have the same levels.
pub record Alike (l m : Label) : Type 0 where
  pub container : is_container l ≡ is_container m
  pub level : (v : NestingLevel) → inside l v ≡ inside m v
  pub shown : (v : NestingLevel) → shows l v ≡ shows m v

pub labels-alike : (l m : Label) → valid_label l ≡ true → valid_label m ≡ true → equivalent (kind l) (kind m) ≡ true → Alike l m
unfolding inside_kind shows_kind
labels-alike l m a b h =
    let p = kind-says l a in
    let q = kind-says m b in
    record {
      container = p.container ∙ kinds-alike is_container_kind false refl refl refl (kind l) (kind m) h ∙ sym q.container;
      level = λ v. p.level v ∙ kinds-alike (λ k. inside_kind k v) v refl refl refl (kind l) (kind m) h ∙ sym (q.level v);
      shown = λ v. p.shown v ∙ kinds-alike (λ k. shows_kind k v) true refl refl refl (kind l) (kind m) h ∙ sym (q.shown v);
    }

-- ---- Items of valid nodes.

end-items : (cs : Trees) → is_end cs ≡ true → items cs ≡ 0
unfolding is_end items
end-items end h = refl
end-items (node l cs ts) h = absurd (false≢true h)

pub one-items : (cs : Trees) → is_one cs ≡ true → items cs ≡ 1
unfolding is_one items
one-items end h = absurd (false≢true h)
one-items (node l cs ts) h = ap suc (end-items ts h)

arity-items : (l : Label) (cs : Trees) → valid_label l ≡ true → valid_count l cs ≡ true → is_container l ≡ false → items cs ≡ arity_of (kind l)
unfolding valid_label valid_count is_container kind arity_of
arity-items (primitive p) cs a h n = end-items cs h ∙ rw (lt-leb 25 p (omega (arith, ltb-true p 24 a)))
arity-items (bit_field k) cs a h n = end-items cs h
arity-items (typed_bit_field o k) cs a h n = one-items cs h
arity-items pointer cs a h n = one-items cs h
arity-items atomic cs a h n = one-items cs h
arity-items (array k) cs a h n = one-items cs h
arity-items (struct s) cs a h n = absurd (true≢false n)
arity-items (union s) cs a h n = absurd (true≢false n)
arity-items none cs a h n = end-items cs h

pub record ValidParts (l : Label) (cs ts : Trees) : Type 0 where
  pub label : valid_label l ≡ true
  pub number : valid_count l cs ≡ true
  pub children : valid cs ≡ true
  pub others : valid ts ≡ true

pub valid-parts : (l : Label) (cs ts : Trees) → valid (node l cs ts) ≡ true → ValidParts l cs ts
unfolding valid
valid-parts l cs ts h =
    let a = both (valid_label l && valid_count l cs) (valid cs && valid ts) h in
    let b = both (valid_label l) (valid_count l cs) a.0 in
    let c = both (valid cs) (valid ts) a.1 in
    record { label = b.0; number = b.1; children = c.0; others = c.1 }

-- As many items on both sides, where they are no containers.
pub same-items : (l m : Label) (cs ds : Trees) → valid_label l ≡ true → valid_label m ≡ true → valid_count l cs ≡ true → valid_count m ds ≡ true
    → equivalent (kind l) (kind m) ≡ true → is_container l ≡ false → items cs ≡ items ds
unfolding arity_of
same-items l m cs ds a b p q h n =
    arity-items l cs a p n ∙ kinds-alike arity_of 0 refl refl refl (kind l) (kind m) h ∙ sym (arity-items m ds b q (sym (labels-alike l m a b h).container ∙ n))
