-- The sides exchanged: the same reason with its two values exchanged.
use Prim.Native.Nat.{ℕ, suc}
use mathlib.Core.Path.{◌≡◌, refl, sym, ap, ap₂, ◌∙◌}
use mathlib.Core.Bool.{Bool, true, false, cond, not, ◌&&◌}
use mathlib.Core.List.{List, [], ◌∷◌}
use Rattle.std.specs.Prelude.{Option, Some, None}
use lib.Dec.{eqb}
use borrow.Author.Tests.{eqb-true, eqb-false, eq-eqb, ne_eqb}
use Rattle.kinds.specs.Byte.{same_bytes}
use Rattle.kinds.specs.Compare.{bits, level_for}
use Rattle.kinds.specs.Sound.{valid_label, valid}
use Rattle.kinds.specs.Tree as T
use Rattle.kinds.specs.Tree.{Label, Trees, end, node, is_end, is_container, inside, shows}
use Rattle.kinds.specs.declared.NestingLevel.{NestingLevel}
use Rattle.reason.specs.Reason.{Difference, kind, size, offset, length, name, count, Reason, or_else, unless, offset_of, length_of, own_difference, items, items_compared, count_difference}
use Rattle.reason.specs.Reason.{here, under, node_difference, items_difference, first_difference}
use Rattle.reason_agreement.specs.Along.{turned, swapped}
use Rattle.reason_agreement.proofs.KindLaws.{flip, equivalent-turned, Alike, labels-alike, ValidParts, valid-parts}
use Rattle.reason_agreement.proofs.RightLaws.{own_same}

-- ---- The parts of the definition.

unfoldable turned_if : Option Difference → Option Difference
turned_if None = None
turned_if (Some d) = Some (turned d)

swap-here : (x : Option Difference) → here (turned_if x) ≡ swapped (here x)
unfolding turned_if here swapped
swap-here None = refl
swap-here (Some d) = refl

swap-under : (i : ℕ) (x : Option Reason) → under i (swapped x) ≡ swapped (under i x)
unfolding under swapped
swap-under i None = refl
swap-under i (Some r) = refl

swap-else : (x y : Option Reason) → or_else (swapped x) (swapped y) ≡ swapped (or_else x y)
unfolding or_else swapped
swap-else None y = refl
swap-else (Some r) y = refl

turn-else : (x y : Option Difference) {x' y' : Option Difference} → x' ≡ turned_if x → y' ≡ turned_if y → or_else x' y' ≡ turned_if (or_else x y)
unfolding or_else turned_if
turn-else x y e f = ap₂ (λ a b. or_else a b) e f ∙ go x
  where
    go : (z : Option Difference) → or_else (turned_if z) (turned_if y) ≡ turned_if (or_else z y)
    go None = refl
    go (Some d) = refl

turn-unless : {b c : Bool} (d : Difference) → c ≡ b → unless c (turned d) ≡ turned_if (unless b d)
unfolding unless turned_if
turn-unless {b} {c} d e = ap (λ x. unless x (turned d)) e ∙ go b
  where
    go : (x : Bool) → unless x (turned d) ≡ turned_if (unless x d)
    go true = refl
    go false = refl

eqb-turned : (m n : ℕ) → eqb n m ≡ eqb m n
eqb-turned m n = go (eqb m n) refl
  where
    go : (y : Bool) → eqb m n ≡ y → eqb n m ≡ eqb m n
    go true e = eq-eqb n m (sym (eqb-true m n e)) ∙ sym e
    go false e = ne_eqb n m (λ f. eqb-false m n e (sym f)) ∙ sym e

bytes-turned : (s t : List ℕ) → same_bytes t s ≡ same_bytes s t
unfolding same_bytes
bytes-turned [] [] = refl
bytes-turned [] (y ∷ t) = refl
bytes-turned (x ∷ s) [] = refl
bytes-turned (x ∷ s) (y ∷ t) = ap₂ (λ a b. a && b) (eqb-turned x y) (bytes-turned s t)

-- ---- Two nodes.

own-turned : (l m : Label) → own_difference m l ≡ turned_if (own_difference l m)
unfolding own_difference turned
own-turned l m =
    turn-else _ _ (turn-unless (kind (T.kind l) (T.kind m)) (equivalent-turned (T.kind l) (T.kind m)))
    (turn-else _ _ (turn-unless (size (bits l) (bits m)) (eqb-turned (bits l) (bits m)))
    (turn-else _ _ (turn-unless (offset (offset_of l) (offset_of m)) (eqb-turned (offset_of l) (offset_of m)))
    (turn-else _ _ (turn-unless (length (length_of l) (length_of m)) (eqb-turned (length_of l) (length_of m)))
    (turn-unless (name (T.name l) (T.name m)) (bytes-turned (T.name l) (T.name m))))))

count-turned : (cs ds : Trees) → count_difference ds cs ≡ turned_if (count_difference cs ds)
unfolding count_difference turned
count-turned cs ds = turn-unless (count (items cs) (items ds)) (eqb-turned (items cs) (items ds))

compared-turned : (l m : Label) → Alike l m → (v : NestingLevel) (cs ds : Trees) → items_compared m v ds cs ≡ items_compared l v cs ds
unfolding items_compared
compared-turned l m a v cs ds = rw (a.container, a.shown v) (ap (λ x. cond (is_container m) (shows m v && x) true) (flip (not (is_end ds)) (not (is_end cs))))

node-turned : (l m : Label) (v : NestingLevel) (cs ds : Trees) (x x' : Option Reason) → valid_label l ≡ true → valid_label m ≡ true → (Alike l m → x' ≡ swapped x)
    → node_difference m l v ds cs x' ≡ swapped (node_difference l m v cs ds x)
unfolding node_difference turned_if here or_else swapped
node-turned l m v cs ds x x' a b f = go (own_difference l m) refl
  where
    inner : Alike l m → (y : Bool) → cond y (or_else (here (count_difference ds cs)) x') None ≡ swapped (cond y (or_else (here (count_difference cs ds)) x) None)
    inner h true = ap₂ (λ p q. or_else p q) (ap here (count-turned cs ds) ∙ swap-here (count_difference cs ds)) (f h) ∙ swap-else (here (count_difference cs ds)) x
    inner h false = refl

    go : (o : Option Difference) → own_difference l m ≡ o → node_difference m l v ds cs x' ≡ swapped (node_difference l m v cs ds x)
    go (Some d) e = rw (own-turned l m, e)
    go None e =
        let h = labels-alike l m a b (own_same l m e).kinds in
        rw (own-turned l m, e, compared-turned l m h v cs ds) (inner h (items_compared l v cs ds))

-- ---- Trees.

no_items : (all : Bool) (v : NestingLevel) (i : ℕ) (u : Trees) → items_difference all v i u end ≡ None
unfolding items_difference
no_items all v i end = refl
no_items all v i (node m ds us) = refl

items-turned : (all : Bool) (v : NestingLevel) (i : ℕ) (t u : Trees) → valid t ≡ true → valid u ≡ true → items_difference all v i u t ≡ swapped (items_difference all v i t u)
unfolding items_difference swapped
items-turned all v i end u a b = no_items all v i u
items-turned all v i (node l cs ts) end a b = refl
items-turned all v i (node l cs ts) (node m ds us) a b =
    go (valid-parts l cs ts a) (valid-parts m ds us b) (λ p q. items-turned all (inside l w) 0 cs ds p q) (λ p q. items-turned all v (suc i) ts us p q)
  where
    w : NestingLevel
    w = level_for all v

    x : Option Reason
    x = items_difference all (inside l w) 0 cs ds

    go : ValidParts l cs ts → ValidParts m ds us → (valid cs ≡ true → valid ds ≡ true → items_difference all (inside l w) 0 ds cs ≡ swapped x)
        → (valid ts ≡ true → valid us ≡ true → items_difference all v (suc i) us ts ≡ swapped (items_difference all v (suc i) ts us))
        → items_difference all v i (node m ds us) (node l cs ts) ≡ swapped (items_difference all v i (node l cs ts) (node m ds us))
    go p q inner after =
        ap₂ (λ c d. or_else (under i c) d)
        (node-turned l m w cs ds x (items_difference all (inside m w) 0 ds cs) p.label q.label
        (λ h. ap (λ k. items_difference all k 0 ds cs) (sym (h.level w)) ∙ inner p.children q.children))
        (after p.others q.others)
        ∙ ap (λ c. or_else c (swapped (items_difference all v (suc i) ts us))) (swap-under i (node_difference l m w cs ds x))
        ∙ swap-else (under i (node_difference l m w cs ds x)) (items_difference all v (suc i) ts us)

pub found-turned : (all : Bool) (v : NestingLevel) (t u : Trees) → valid t ≡ true → valid u ≡ true → first_difference all v u t ≡ swapped (first_difference all v t u)
unfolding first_difference swapped
found-turned all v end end a b = refl
found-turned all v end (node m ds us) a b = refl
found-turned all v (node l cs ts) end a b = refl
found-turned all v (node l cs ts) (node m ds us) a b =
    let p = valid-parts l cs ts a in
    let q = valid-parts m ds us b in
    let w = level_for all v in
    node-turned l m w cs ds (items_difference all (inside l w) 0 cs ds) (items_difference all (inside m w) 0 ds cs) p.label q.label
    (λ h. ap (λ k. items_difference all k 0 ds cs) (sym (h.level w)) ∙ items-turned all (inside l w) 0 cs ds p.children q.children)
