-- By levels the reason is that of the shown parts.
use Prim.Native.Nat.{ℕ, suc}
use mathlib.Core.Path.{◌≡◌, refl, sym, ap, ap₂, ◌∙◌}
use mathlib.Core.Bool.{Bool, true, false, cond, true≢false}
use Rattle.std.specs.Prelude.{Option, Some, None}
use Rattle.kinds.specs.Sound.{valid_label, valid}
use Rattle.kinds.specs.Tree as T
use Rattle.kinds.specs.Tree.{Label, Trees, end, node, primitive, bit_field, typed_bit_field, pointer, atomic, array, struct, union, is_end, is_container, inside, shows, keep, shown}
use Rattle.kinds.specs.declared.NestingLevel.{NestingLevel}
use Rattle.kinds.proofs.TreeLaws.{end-shown}
use Rattle.reason.specs.Reason.{Difference, Reason, or_else, own_difference, items, items_compared, count_difference, here, under, node_difference, items_difference, first_difference}
use Rattle.reason_agreement.proofs.KindLaws.{labels-alike, valid-parts}
use Rattle.reason_agreement.proofs.RightLaws.{own_same}

items_shown : (v : NestingLevel) (t : Trees) → items (shown v t) ≡ items t
unfolding items shown
items_shown v end = refl
items_shown v (node l cs ts) = ap suc (items_shown v ts)

-- Only a container hides its fields.
hides : (l : Label) (v : NestingLevel) → shows l v ≡ false → is_container l ≡ true
unfolding is_container
hides (primitive p) v h = absurd (true≢false h)
hides (bit_field n) v h = absurd (true≢false h)
hides (typed_bit_field o n) v h = absurd (true≢false h)
hides pointer v h = absurd (true≢false h)
hides atomic v h = absurd (true≢false h)
hides (array n) v h = absurd (true≢false h)
hides (struct s) v h = refl
hides (union s) v h = refl
hides T.none v h = absurd (true≢false h)

-- What is made of the items of two nodes that have the levels of `l`.
in_items : Label → NestingLevel → Trees → Trees → Option Reason
in_items l v cs ds = cond (items_compared l v cs ds) (or_else (here (count_difference cs ds)) (items_difference false (inside l v) 0 cs ds)) None

kept-items : (l : Label) (v : NestingLevel) (cs ds : Trees) → items_difference false (inside l v) 0 (shown (inside l v) cs) (shown (inside l v) ds) ≡ items_difference false (inside l v) 0 cs ds
    → in_items l v (keep (shows l v) (shown (inside l v) cs)) (keep (shows l v) (shown (inside l v) ds)) ≡ in_items l v cs ds
unfolding in_items items_compared count_difference keep
kept-items l v cs ds e = go (shows l v) refl
  where
    go : (y : Bool) → shows l v ≡ y → in_items l v (keep (shows l v) (shown (inside l v) cs)) (keep (shows l v) (shown (inside l v) ds)) ≡ in_items l v cs ds
    go true h = rw (h, end-shown (inside l v) cs, end-shown (inside l v) ds, items_shown (inside l v) cs, items_shown (inside l v) ds, e)
    go false h = rw (h, hides l v h)

node-shown : (l m : Label) (v : NestingLevel) (cs ds : Trees) → valid_label l ≡ true → valid_label m ≡ true
    → items_difference false (inside l v) 0 (shown (inside l v) cs) (shown (inside l v) ds) ≡ items_difference false (inside l v) 0 cs ds
    → or_else (here (own_difference l m)) (in_items l v (keep (shows l v) (shown (inside l v) cs)) (keep (shows m v) (shown (inside m v) ds))) ≡ or_else (here (own_difference l m)) (in_items l v cs ds)
unfolding here or_else
node-shown l m v cs ds a b e = go (own_difference l m) refl
  where
    go : (o : Option Difference) → own_difference l m ≡ o
        → or_else (here o) (in_items l v (keep (shows l v) (shown (inside l v) cs)) (keep (shows m v) (shown (inside m v) ds))) ≡ or_else (here o) (in_items l v cs ds)
    go (Some d) p = refl
    go None p =
        let h = labels-alike l m a b (own_same l m p).kinds in
        ap₂ (λ x y. in_items l v (keep (shows l v) (shown (inside l v) cs)) (keep x (shown y ds))) (sym (h.shown v)) (sym (h.level v)) ∙ kept-items l v cs ds e

items_kept : (v : NestingLevel) (i : ℕ) (t u : Trees) → valid t ≡ true → valid u ≡ true → items_difference false v i (shown v t) (shown v u) ≡ items_difference false v i t u
unfolding items_difference shown node_difference in_items
items_kept v i end u a b = refl
items_kept v i (node l cs ts) end a b = refl
items_kept v i (node l cs ts) (node m ds us) a b =
    let p = valid-parts l cs ts a in
    let q = valid-parts m ds us b in
    ap₂ (λ x y. or_else (under i x) y) (node-shown l m v cs ds p.label q.label (items_kept (inside l v) 0 cs ds p.children q.children))
    (items_kept v (suc i) ts us p.others q.others)

pub found-shown : (v : NestingLevel) (t u : Trees) → valid t ≡ true → valid u ≡ true → first_difference false v (shown v t) (shown v u) ≡ first_difference false v t u
unfolding first_difference shown node_difference in_items
found-shown v end u a b = refl
found-shown v (node l cs ts) end a b = refl
found-shown v (node l cs ts) (node m ds us) a b =
    let p = valid-parts l cs ts a in
    let q = valid-parts m ds us b in
    node-shown l m v cs ds p.label q.label (items_kept (inside l v) 0 cs ds p.children q.children)
