-- What is printed, measured and compared of trees, first or second, is that of their shown part.
use Prim.Native.Nat.{ℕ, ◌-◌}
use mathlib.Core.Path.{◌≡◌, refl, sym, ap, ap₂, subst, fun_ext, ◌∙◌}
use mathlib.Core.List.{List, [], ◌∷◌, ◌++◌}
use mathlib.Core.Bool.{Bool, true, false, ◌&&◌, ◌||◌, cond, true≢false}
use Rattle.std.specs.Prelude.{Option}
use lib.Dec.{ltb, eqb}
use lib.ListN.{get_or}
use borrow.Author.Tests.{eqb-true}
use Rattle.kinds.specs.Compare.{compare_labels, compare_children, compare_encodings, equivalent_to}
use Rattle.kinds.specs.Expect.{Expected, ◌then◌, expect_container, expect_node, expect_encoding, is_empty, equivalent_to_str}
use Rattle.kinds.specs.Parse.{strip_leading_qualifiers}
use Rattle.kinds.specs.Primitive.{Widths, is_object, equivalent}
use Rattle.kinds.specs.Print.{fields, print_node, print}
use Rattle.kinds.specs.Size.{node_size, sizes, only, size}
use Rattle.kinds.specs.Sound.{valid_label, valid_count, valid}
use Rattle.kinds.specs.Tree.{Label, Trees, end, node, primitive, bit_field, typed_bit_field, pointer, atomic, array, struct, union, none, is_end, kind, is_container, inside, shows, keep, shown}
use Rattle.kinds.specs.declared.NestingLevel.{NestingLevel}
use Rattle.kinds.specs.declared.NestingLevel.TheVariants.{Top, Within, Bottom}
use Rattle.kinds.proofs.TableLaws.{both, each}
use Rattle.kinds.proofs.TreeLaws.{end-shown}
use Rattle.agreement.specs.ShownAlike.{ShownAlike}

-- Only a container at the bottom hides its fields.
hidden : (P : Label → NestingLevel → Type 0) → ((s : List ℕ) → P (struct s) Bottom) → ((s : List ℕ) → P (union s) Bottom) → (l : Label) (v : NestingLevel) → shows l v ≡ false → P l v
hidden P a b (primitive p) v h = absurd (true≢false h)
hidden P a b (bit_field n) v h = absurd (true≢false h)
hidden P a b (typed_bit_field o n) v h = absurd (true≢false h)
hidden P a b pointer v h = absurd (true≢false h)
hidden P a b atomic v h = absurd (true≢false h)
hidden P a b (array n) v h = absurd (true≢false h)
hidden P a b (struct s) Top h = absurd (true≢false h)
hidden P a b (struct s) Within h = absurd (true≢false h)
hidden P a b (struct s) Bottom h = a s
hidden P a b (union s) Top h = absurd (true≢false h)
hidden P a b (union s) Within h = absurd (true≢false h)
hidden P a b (union s) Bottom h = b s
hidden P a b none v h = absurd (true≢false h)

-- What a node makes of its children, where it takes nothing from hidden ones.
kept : {R S : Type 0} (make : R → S) (of : Trees → R) (b : Bool) (cs ds : Trees) → (b ≡ false → (x y : R) → make x ≡ make y) → of ds ≡ of cs → make (of (keep b ds)) ≡ make (of cs)
unfolding keep
kept make of true cs ds h e = ap make e
kept make of false cs ds h e = h refl (of end) (of cs)

-- Prints.
print-hidden : (l : Label) (v : NestingLevel) → shows l v ≡ false → (x y : List ℕ) → print_node l v x ≡ print_node l v y
unfolding print_node fields
print-hidden l v h = hidden (λ l v. (x y : List ℕ) → print_node l v x ≡ print_node l v y) (λ s x y. refl) (λ s x y. refl) l v h

pub print-shown : (v : NestingLevel) (ts : Trees) → print v (shown v ts) ≡ print v ts
unfolding print shown
print-shown v end = refl
print-shown v (node l cs ts) = ap₂ (λ x y. x ++ y) (kept (λ x. print_node l v x) (λ u. print (inside l v) u) (shows l v) cs (shown (inside l v) cs) (print-hidden l v)
    (print-shown (inside l v) cs)) (print-shown v ts)

-- Sizes, on any machine.
size-hidden : (w : Widths) (l : Label) (v : NestingLevel) → shows l v ≡ false → (x y : List (Option ℕ)) → node_size w l v x ≡ node_size w l v y
unfolding node_size
size-hidden w l v h = hidden (λ l v. (x y : List (Option ℕ)) → node_size w l v x ≡ node_size w l v y) (λ s x y. refl) (λ s x y. refl) l v h

sizes-shown : (w : Widths) (v : NestingLevel) (ts : Trees) → sizes w v (shown v ts) ≡ sizes w v ts
unfolding sizes shown
sizes-shown w v end = refl
sizes-shown w v (node l cs ts) = ap₂ (λ x y. x ∷ y) (kept (λ x. node_size w l v x) (λ u. sizes w (inside l v) u) (shows l v) cs (shown (inside l v) cs) (size-hidden w l v)
    (sizes-shown w (inside l v) cs)) (sizes-shown w v ts)

-- Tree against text: of the children, whether there are any and what they match.
abbrev Matcher : Type 0
Matcher = Bool × (List ℕ → Expected)

abbrev matcher : NestingLevel → Trees → Matcher
matcher v ts = (is_end ts, λ s. expect_encoding v ts s)

expect-hidden : (l : Label) (v : NestingLevel) (s : List ℕ) → shows l v ≡ false → (x y : Matcher) → expect_node l v x.0 x.1 s ≡ expect_node l v y.0 y.1 s
unfolding expect_node expect_container
expect-hidden l v s h = hidden (λ l v. (x y : Matcher) → expect_node l v x.0 x.1 s ≡ expect_node l v y.0 y.1 s) (λ m x y. refl) (λ m x y. refl) l v h

expect-shown : (v : NestingLevel) (ts : Trees) (s : List ℕ) → expect_encoding v (shown v ts) s ≡ expect_encoding v ts s
unfolding expect_encoding shown
expect-shown v end s = refl
expect-shown v (node l cs ts) s =
    ap₂ (λ x y. x then y)
    (kept (λ (x : Matcher). expect_node l v x.0 x.1 s) (matcher (inside l v)) (shows l v) cs (shown (inside l v) cs) (expect-hidden l v s)
    (ap₂ (λ x y. (x, y)) (end-shown (inside l v) cs) (fun_ext (λ t. expect-shown (inside l v) cs t))))
    (fun_ext (λ t. expect-shown v ts t))

-- Tree against tree, the first: of the children, whether there are any and whether they match.
abbrev Compared : Type 0
Compared = Bool × Bool

compared : Label → NestingLevel → Bool → Compared → Bool
compared l v e x = compare_children (is_container l) (shows l v) (x.0 || e) x.1

compare-hidden : (l : Label) (v : NestingLevel) (e : Bool) → shows l v ≡ false → (x y : Compared) → compared l v e x ≡ compared l v e y
unfolding compared compare_children is_container
compare-hidden l v e h = hidden (λ l v. (x y : Compared) → compared l v e x ≡ compared l v e y) (λ s x y. refl) (λ s x y. refl) l v h

compare-shown : (v : NestingLevel) (ts us : Trees) → compare_encodings false v (shown v ts) us ≡ compare_encodings false v ts us
unfolding compare_encodings shown compared
compare-shown v end us = refl
compare-shown v (node l cs ts) end = refl
compare-shown v (node l cs ts) (node m ds us) =
    ap₂ (λ x y. compare_labels l m && (x && y))
    (kept (compared l v (is_end ds)) (λ u. (is_end u, compare_encodings false (inside l v) u ds)) (shows l v) cs (shown (inside l v) cs) (compare-hidden l v (is_end ds))
    (ap₂ (λ x y. (x, y)) (end-shown (inside l v) cs) (compare-shown (inside l v) cs ds)))
    (compare-shown v ts us)

-- The levels of a valid node depend on its kind alone: `levels k` is a node with those of kind `k`.
levels : ℕ → Label
levels k = cond (ltb k 24) none (get_or (none ∷ none ∷ pointer ∷ atomic ∷ none ∷ struct [] ∷ union [] ∷ none ∷ []) (k - 24) none)

levels-label : (l : Label) → valid_label l ≡ true → (v : NestingLevel) → (inside l v ≡ inside (levels (kind l)) v) × (shows l v ≡ shows (levels (kind l)) v)
unfolding valid_label kind levels
levels-label (primitive p) h v = rw h (refl, refl)
levels-label (bit_field n) h v = (refl, refl)
levels-label (typed_bit_field o n) h v = (refl, refl)
levels-label pointer h v = (refl, refl)
levels-label atomic h v = (refl, refl)
levels-label (array n) h v = (refl, refl)
levels-label (struct s) h v = (refl, refl)
levels-label (union s) h v = (refl, refl)
levels-label none h v = (refl, refl)

levels-object : (k : ℕ) → is_object k ≡ true → levels k ≡ none
unfolding is_object levels
levels-object k h = each (λ x. levels x ≡ none) (19 ∷ 20 ∷ 21 ∷ []) (refl, (refl, (refl, tt))) k h

levels-equivalent : (k j : ℕ) → equivalent k j ≡ true → levels k ≡ levels j
unfolding equivalent
levels-equivalent k j h = go (eqb k j) refl h
  where
    go : (b : Bool) → eqb k j ≡ b → (b || (is_object k && is_object j)) ≡ true → levels k ≡ levels j
    go true e h = ap levels (eqb-true k j e)
    go false e h = levels-object k (both (is_object k) (is_object j) h).0 ∙ sym (levels-object j (both (is_object k) (is_object j) h).1)

-- Two valid nodes that match have the same levels.
levels-alike : (l m : Label) → valid_label l ≡ true → valid_label m ≡ true → compare_labels l m ≡ true → (v : NestingLevel) → (inside l v ≡ inside m v) × (shows l v ≡ shows m v)
unfolding compare_labels
levels-alike l m a b h v =
    let e = levels-equivalent (kind l) (kind m) (both (equivalent (kind l) (kind m)) _ h).0 in
    let p = levels-label l a v in
    let q = levels-label m b v in
    (p.0 ∙ ap (λ x. inside x v) e ∙ sym q.0, p.1 ∙ ap (λ x. shows x v) e ∙ sym q.1)

valid-parts : (l : Label) (cs ts : Trees) → valid (node l cs ts) ≡ true → (valid_label l ≡ true) × (valid cs ≡ true) × (valid ts ≡ true)
unfolding valid
valid-parts l cs ts h =
    let a = both (valid_label l && valid_count l cs) (valid cs && valid ts) h in
    ((both (valid_label l) (valid_count l cs) a.0).0, (both (valid cs) (valid ts) a.1).0, (both (valid cs) (valid ts) a.1).1)

-- Tree against tree, the second.
compared-second : Label → NestingLevel → Bool → Compared → Bool
compared-second l v e x = compare_children (is_container l) (shows l v) (e || x.0) x.1

second-hidden : (l : Label) (v : NestingLevel) (e : Bool) → shows l v ≡ false → (x y : Compared) → compared-second l v e x ≡ compared-second l v e y
unfolding compared-second compare_children is_container
second-hidden l v e h = hidden (λ l v. (x y : Compared) → compared-second l v e x ≡ compared-second l v e y) (λ s x y. refl) (λ s x y. refl) l v h

compare-shown-second : (v : NestingLevel) (us ts : Trees) → valid us ≡ true → valid ts ≡ true → compare_encodings false v us (shown v ts) ≡ compare_encodings false v us ts
unfolding compare_encodings shown compared-second
compare-shown-second v end end a b = refl
compare-shown-second v end (node l cs ts) a b = refl
compare-shown-second v (node m ds us) end a b = refl
compare-shown-second v (node m ds us) (node l cs ts) a b = go (compare_labels m l) refl (compare-shown-second (inside m v) ds cs a'.1 b'.1) (compare-shown-second v us ts a'.2 b'.2)
  where
    a' : (valid_label m ≡ true) × (valid ds ≡ true) × (valid us ≡ true)
    a' = valid-parts m ds us a

    b' : (valid_label l ≡ true) × (valid cs ≡ true) × (valid ts ≡ true)
    b' = valid-parts l cs ts b

    now : Trees → Compared
    now u = (is_end u, compare_encodings false (inside m v) ds u)

    go : (y : Bool) → compare_labels m l ≡ y → compare_encodings false (inside m v) ds (shown (inside m v) cs) ≡ compare_encodings false (inside m v) ds cs
        → compare_encodings false v us (shown v ts) ≡ compare_encodings false v us ts
        → (compare_labels m l && (compared-second m v (is_end ds) (now (keep (shows l v) (shown (inside l v) cs))) && compare_encodings false v us (shown v ts))) ≡
        (compare_labels m l && (compared-second m v (is_end ds) (now cs) && compare_encodings false v us ts))
    go true e inner after =
        let q = levels-alike m l a'.0 b'.0 e v in
        ap₂ (λ x y. compare_labels m l && (x && y))
        (kept (compared-second m v (is_end ds)) now (shows l v) cs (shown (inside l v) cs) (λ h. second-hidden m v (is_end ds) (q.1 ∙ h))
        (ap₂ (λ x y. (x, y)) (end-shown (inside l v) cs) (subst (λ w. compare_encodings false (inside m v) ds (shown w cs) ≡ compare_encodings false (inside m v) ds cs) q.0 inner)))
        after
    go false e inner after = rw e refl

-- What two trees with equal shown parts give, where it is that of the shown part.
of-shown : {R : Type 0} (f : Trees → R) → ((t : Trees) → f (shown Top t) ≡ f t) → (A B : Trees) → shown Top A ≡ shown Top B → f A ≡ f B
of-shown f h A B e = sym (h A) ∙ ap f e ∙ h B

pub shown-agrees : (A B : Trees) → shown Top A ≡ shown Top B → ShownAlike A B
unfolding size equivalent_to equivalent_to_str
shown-agrees A B e =
    record {
      prints = of-shown (print Top) (print-shown Top) A B e;
      sizes = λ w. of-shown (size w) (λ t. ap only (sizes-shown w Top t)) A B e;
      first = λ C. of-shown (λ t. equivalent_to t C) (λ t. compare-shown Top t C) A B e;
      second = λ a b C c. sym (compare-shown-second Top C A c a) ∙ ap (compare_encodings false Top C) e ∙ compare-shown-second Top C B c b;
      texts = λ s. of-shown (λ t. equivalent_to_str t s) (λ t. ap is_empty (expect-shown Top t (strip_leading_qualifiers s))) A B e;
    }
