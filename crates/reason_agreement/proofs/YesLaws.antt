-- There is no reason exactly for a yes.
use Prim.Native.Nat.{ℕ, suc, ◌+◌}
use native.Mathlib.Omega.{arith}
use mathlib.Core.Path.{◌≡◌, refl, sym, ap, ap₂, ◌∙◌}
use mathlib.Core.Bool.{Bool, true, false, cond, not, ◌&&◌, ◌||◌, false≢true}
use mathlib.Core.Logic.{◌⊎◌, inl, inr}
use Rattle.std.specs.Prelude.{Option, Some, None}
use lib.Dec.{eqb, eqb-zero-suc, eqb-suc-zero, eqb-suc-suc}
use borrow.Author.Tests.{eq-eqb}
use Rattle.kinds.specs.Byte.{among, same_bytes}
use Rattle.kinds.specs.Compare.{length_or_offset, bits, compare_labels, compare_children, level_for, compare_encodings}
use Rattle.kinds.specs.Primitive.{is_object, equivalent}
use Rattle.kinds.specs.Tree as T
use Rattle.kinds.specs.Tree.{Label, Trees, end, node, is_end, is_one, is_container, inside, shows}
use Rattle.kinds.specs.declared.NestingLevel.{NestingLevel}
use Rattle.reason.specs.Reason.{Difference, Reason, or_else, unless, offset_of, length_of, own_difference, items, items_compared, count_difference, here, under, node_difference, items_difference, first_difference}
use Rattle.reason_agreement.specs.Along.{is_none}
use Rattle.reason_agreement.proofs.KindLaws.{kind-alone, equivalent-turned, both-numbers, with-offset, with-length}

-- ---- The parts of the definition.

none-else : {A : Type 0} (x y : Option A) → is_none (or_else x y) ≡ (is_none x && is_none y)
unfolding is_none or_else
none-else None y = refl
none-else (Some x) y = refl

none_here : (x : Option Difference) → is_none (here x) ≡ is_none x
unfolding is_none here
none_here None = refl
none_here (Some d) = refl

none-under : (i : ℕ) (x : Option Reason) → is_none (under i x) ≡ is_none x
unfolding is_none under
none-under i None = refl
none-under i (Some r) = refl

none-unless : (b : Bool) (d : Difference) → is_none (unless b d) ≡ b
unfolding is_none unless
none-unless true d = refl
none-unless false d = refl

-- ---- Two nodes.

no-offset : (l : Label) → T.kind l ≡ 28 → offset_of l ≡ 0
no-offset l e = go (with-offset l)
  where
    go : (T.kind l ≡ 25) ⊎ (offset_of l ≡ 0) → offset_of l ≡ 0
    go (inl f) = absurd (omega arith)
    go (inr f) = f

-- Of two nodes of equivalent kinds both have no offset or both have no length.
one_number : (l m : Label) → equivalent (T.kind l) (T.kind m) ≡ true → ((offset_of l ≡ 0) × (offset_of m ≡ 0)) ⊎ ((length_of l ≡ 0) × (length_of m ≡ 0))
unfolding is_object among
one_number l m h = go (with-length l) (with-length m)
  where
    arrays : T.kind l ≡ 28 → T.kind m ≡ 28 → ((offset_of l ≡ 0) × (offset_of m ≡ 0)) ⊎ ((length_of l ≡ 0) × (length_of m ≡ 0))
    arrays a b = inl (no-offset l a, no-offset m b)

    go : (T.kind l ≡ 28) ⊎ (length_of l ≡ 0) → (T.kind m ≡ 28) ⊎ (length_of m ≡ 0) → ((offset_of l ≡ 0) × (offset_of m ≡ 0)) ⊎ ((length_of l ≡ 0) × (length_of m ≡ 0))
    go (inr a) (inr b) = inr (a, b)
    go (inl a) q = arrays a (kind-alone 28 refl (T.kind l) (T.kind m) h a)
    go (inr a) (inl b) = arrays (kind-alone 28 refl (T.kind m) (T.kind l) (equivalent-turned (T.kind l) (T.kind m) ∙ h) b) b

and-true : (x : Bool) → (x && true) ≡ x
and-true true = refl
and-true false = refl

apart : (o p n q : ℕ) → ((o ≡ 0) × (p ≡ 0)) ⊎ ((n ≡ 0) × (q ≡ 0)) → eqb (o + n) (p + q) ≡ (eqb o p && eqb n q)
apart o p n q (inl z) = let a = z.0 in let b = z.1 in let x : o + n ≡ n = omega arith in let y : p + q ≡ q = omega arith in rw (x, y, eq-eqb o p (omega arith))
apart o p n q (inr z) =
    let a = z.0 in
    let b = z.1 in
    let x : o + n ≡ o = omega arith in
    let y : p + q ≡ p = omega arith in
    rw (x, y, eq-eqb n q (omega arith)) (sym (and-true (eqb o p)))

same_numbers : (l m : Label) → equivalent (T.kind l) (T.kind m) ≡ true → eqb (length_or_offset l) (length_or_offset m) ≡ (eqb (offset_of l) (offset_of m) && eqb (length_of l) (length_of m))
same_numbers l m h = rw (both-numbers l, both-numbers m) (apart (offset_of l) (offset_of m) (length_of l) (length_of m) (one_number l m h))

-- Two nodes match exactly if they have no difference of their own.
pub none-own : (l m : Label) → is_none (own_difference l m) ≡ compare_labels l m
unfolding own_difference compare_labels
none-own l m = simp (none-else, none-unless) (go (equivalent (T.kind l) (T.kind m)) refl (eqb (bits l) (bits m)) (same_bytes (T.name l) (T.name m)))
  where
    sort : (x y z w : Bool) → (x && (y && (z && w))) ≡ ((y && z) && (x && w))
    sort true true z w = refl
    sort true false z w = refl
    sort false true true w = refl
    sort false true false w = refl
    sort false false z w = refl

    go : (x : Bool) → equivalent (T.kind l) (T.kind m) ≡ x → (b s : Bool)
        → (equivalent (T.kind l) (T.kind m) && (b && (eqb (offset_of l) (offset_of m) && (eqb (length_of l) (length_of m) && s)))) ≡
        (equivalent (T.kind l) (T.kind m) && (eqb (length_or_offset l) (length_or_offset m) && (b && s)))
    go true e b s = rw (e, same_numbers l m e) (sort b (eqb (offset_of l) (offset_of m)) (eqb (length_of l) (length_of m)) s)
    go false e b s = rw e

-- ---- Trees.

-- What the items add.
items-test : (c sh e f same : Bool) → compare_children c sh (e || f) same ≡ cond (cond c (sh && (not e && not f)) true) same true
unfolding compare_children
items-test true true true f same = refl
items-test true true false true same = refl
items-test true true false false same = refl
items-test true false e f same = refl
items-test false sh e f same = refl

none-node : (l m : Label) (v : NestingLevel) (cs ds : Trees) (x : Option Reason)
    → is_none (node_difference l m v cs ds x) ≡ (compare_labels l m && cond (items_compared l v cs ds) (eqb (items cs) (items ds) && is_none x) true)
unfolding node_difference count_difference is_none
none-node l m v cs ds x =
    none-else (here (own_difference l m)) _ ∙ ap₂ (λ p q. p && q) (none_here (own_difference l m) ∙ none-own l m) (go (items_compared l v cs ds))
  where
    go : (y : Bool) → is_none (cond y (or_else (here (count_difference cs ds)) x) None) ≡ cond y (eqb (items cs) (items ds) && is_none x) true
    go true = simp (none-else, none_here, none-unless)
    go false = refl

-- Of trees side by side: they match exactly if there are as many and no item differs.
items-yes : (all : Bool) (v : NestingLevel) (i : ℕ) (t u : Trees) → compare_encodings all v t u ≡ (eqb (items t) (items u) && is_none (items_difference all v i t u))
unfolding compare_encodings items_difference items items_compared is_none
items-yes all v i end end = refl
items-yes all v i end (node m ds us) = rw (eqb-zero-suc (items us))
items-yes all v i (node l cs ts) end = rw (eqb-suc-zero (items ts))
items-yes all v i (node l cs ts) (node m ds us) =
    go (items-yes all (inside l (level_for all v)) 0 cs ds) (items-yes all v (suc i) ts us)
  where
    w : NestingLevel
    w = level_for all v

    sort : (x y z r : Bool) → (x && (y && (z && r))) ≡ (z && ((x && y) && r))
    sort true true z r = refl
    sort true false true r = refl
    sort true false false r = refl
    sort false y true r = refl
    sort false y false r = refl

    go : compare_encodings all (inside l w) cs ds ≡ (eqb (items cs) (items ds) && is_none (items_difference all (inside l w) 0 cs ds))
        → compare_encodings all v ts us ≡ (eqb (items ts) (items us) && is_none (items_difference all v (suc i) ts us))
        → compare_encodings all v (node l cs ts) (node m ds us) ≡ (eqb (suc (items ts)) (suc (items us)) && is_none (items_difference all v i (node l cs ts) (node m ds us)))
    go p q =
        let x = items_difference all (inside l w) 0 cs ds in
        let r = items_difference all v (suc i) ts us in
        ap₂ (λ a b. compare_labels l m && (a && b))
        (items-test (is_container l) (shows l w) (is_end cs) (is_end ds) (compare_encodings all (inside l w) cs ds) ∙ ap (λ a. cond (items_compared l w cs ds) a true) p)
        q
        ∙ sort (compare_labels l m) (cond (items_compared l w cs ds) (eqb (items cs) (items ds) && is_none x) true) (eqb (items ts) (items us)) (is_none r)
        ∙ sym
        (ap₂ (λ a b. a && b) (eqb-suc-suc (items ts) (items us))
        (none-else (under i (node_difference l m w cs ds x)) r
        ∙ ap (λ a. a && is_none r) (none-under i (node_difference l m w cs ds x) ∙ none-node l m w cs ds x)))

pub yes-exactly : (all : Bool) (v : NestingLevel) (t u : Trees) → is_one t ≡ true → is_one u ≡ true → compare_encodings all v t u ≡ is_none (first_difference all v t u)
unfolding is_one is_end items items_difference first_difference is_none
yes-exactly all v end u a b = absurd (false≢true a)
yes-exactly all v (node l cs ts) end a b = absurd (false≢true b)
yes-exactly all v (node l cs (node m ds us)) (node o es xs) a b = absurd (false≢true a)
yes-exactly all v (node l cs end) (node o es (node m ds us)) a b = absurd (false≢true b)
yes-exactly all v (node l cs end) (node m ds end) a b =
    let x = node_difference l m (level_for all v) cs ds (items_difference all (inside l (level_for all v)) 0 cs ds) in
    items-yes all v 0 (node l cs end) (node m ds end) ∙ none-else (under 0 x) None ∙ ap (λ y. y && is_none {A = Reason} None) (none-under 0 x) ∙ and-true (is_none x)
