-- Laws of the walk for the first difference.
use Prim.Native.Nat.{ℕ, zero, suc, ◌+◌, ◌-◌, ◌*◌, ◌≤◌, ◌<◌}
use native.Mathlib.Omega.{arith}
use mathlib.Core.Path.{◌≡◌, refl, ap, ap₂, sym, ◌∙◌}
use mathlib.Core.List.{List, []}
use Rattle.std.specs.Prelude.{Option, Some, None}
use mathlib.Core.Bool.{Bool, true, false, cond, false≢true}
use borrow.Author.Tests.{leb-true, leb-false}
use lib.Dec.{leb, eqb}
use Rattle.kinds.specs.Compare.{level_for}
use Rattle.kinds.specs.Primitive.{equivalent}
use Rattle.kinds.specs.Sheet as S
use Rattle.kinds.specs.Sheet.{kind_at, first_at, second_at, count_at, label_at, is_container_kind, read, trees}
use Rattle.kinds.specs.Tree as T
use Rattle.kinds.specs.Tree.{Label, Trees, end, node, kind, inside}
use Rattle.kinds.specs.Walk.{TreesAt}
use Rattle.kinds.specs.declared.NestingLevel.{NestingLevel}
use Rattle.kinds.proofs.KindLaws.{inside-kind}
use Rattle.kinds.proofs.SheetLaws.{trees-step, trees-count}
use Rattle.kinds.proofs.NodeLaws.{leaf-count, none-count, child-count, node-child, first_some, first-within, first-node, kind-label, container-label, no-trees}
use Rattle.helper.specs.Measure.{level_after}
use Rattle.helper.proofs.CompareLaws.{partner, low-partner, plain-partner, held_then, held-alone}
use Rattle.reason.specs.Reason.{Difference, count, or_else, unless, own_difference, items, items_compared, count_difference}
use Rattle.reason.specs.Spot.{Spot, spotted, node_spot, items_spot, below, items_at}

-- ---- Trees of words.

module _ (s w : List ℕ) where
  read-items : (t : List ℕ) (f n at : ℕ) → items (read s w f n at) ≡ items (read t w f n at)
  unfolding read items
  read-items t zero n at = refl
  read-items t (suc f) zero at = refl
  read-items t (suc f) (suc n) at = ap suc (read-items t f (n - S.below w n at) (at + 4 + 4 * S.below w n at))

  -- names do not matter to the count of items
  pub items-names : (t : List ℕ) (n at : ℕ) → items (trees s w n at) ≡ items (trees t w n at)
  unfolding trees
  items-names t n at = read-items t n n at

-- ---- The walk over items.

Some≢None : {A : Type 0} {x : A} → ◌≡◌ {A = Option A} (Some x) None → ⊥
Some≢None {A} {x} e = false≢true (ap is_none e)
  where
    is_none : Option A → Bool
    is_none None = true
    is_none (Some y) = false

spotted-none : (at : ℕ) (d : Option Difference) → spotted at d ≡ None → d ≡ None
unfolding spotted
spotted-none at None e = refl
spotted-none at (Some d) e = absurd (Some≢None e)

-- nodes that do not differ by themselves have kinds that match
own-kinds : (l m : Label) → own_difference l m ≡ None → equivalent (kind l) (kind m) ≡ true
unfolding own_difference or_else unless
own-kinds l m e = go (equivalent (kind l) (kind m)) refl
  where
    go : (t : Bool) → equivalent (kind l) (kind m) ≡ t → equivalent (kind l) (kind m) ≡ true
    go true q = q
    go false q = absurd (Some≢None (rw q at e))

pub spotted-kinds : (an a bn b : List ℕ) (at bt : ℕ) → kind_at a at ≤ 31 → kind_at b bt ≤ 31 → spotted at (own_difference (label_at an a at) (label_at bn b bt)) ≡ None
    → equivalent (kind_at a at) (kind_at b bt) ≡ true
spotted-kinds an a bn b at bt ka kb e =
    sym (ap₂ equivalent (kind-label an (first_at a at) (second_at a at) (kind_at a at) ka) (kind-label bn (first_at b bt) (second_at b bt) (kind_at b bt) kb))
    ∙ own-kinds (label_at an a at) (label_at bn b bt) (spotted-none at (own_difference (label_at an a at) (label_at bn b bt)) e)

-- What is left to find at the level `v`, of whose first items the walk has come down to the level `here`.
unfoldable pub resume : Bool → NestingLevel → NestingLevel → ℕ → Trees → Trees → Option Spot
resume all here v at end us = None
resume all here v at (node l cs ts) end = None
resume all here v at (node l cs ts) (node m ds us) =
    or_else (node_spot l m (level_for all here) cs ds at (items_spot all (inside l (level_for all here)) (at + 4) cs ds))
    (items_spot all v (at + 4 * suc (T.count cs)) ts us)

pub resume-level : (all : Bool) (v : NestingLevel) (at : ℕ) (t u : Trees) → resume all v v at t u ≡ items_spot all v at t u
unfolding resume items_spot
resume-level all v at end u = refl
resume-level all v at (node l cs ts) end = refl
resume-level all v at (node l cs ts) (node m ds us) = refl

module _ (all : Bool) (here v : NestingLevel) (an a bn b : List ℕ) (n m at bt : ℕ) where
  abbrev pub now : Option Spot
  now = resume all here v at (trees an a n at) (trees bn b m bt)

  pub resume-end : n ≤ 0 → resume all here v at (trees an a n at) (trees bn b m bt) ≡ None
  unfolding resume
  resume-end p = rw (no-trees an a n at p)

  pub resume-short : m ≤ 0 → resume all here v at (trees an a n at) (trees bn b m bt) ≡ None
  unfolding resume
  resume-short p = rw (no-trees bn b m bt p) (go (trees an a n at))
    where
      go : (t : Trees) → resume all here v at t end ≡ None
      go end = refl
      go (node l cs ts) = refl

  module _ (g : TreesAt a at n) (h : TreesAt b bt m) (p : 0 < n) (q : 0 < m) where
    abbrev pub inner : Option Spot
    inner = items_spot all (inside (label_at an a at) (level_for all here)) (at + 4) (below an a at) (below bn b bt)

    abbrev pub later : Option Spot
    later = items_spot all v (at + 4 * count_at a at) (trees an a (n - count_at a at) (at + 4 * count_at a at)) (trees bn b (m - count_at b bt) (bt + 4 * count_at b bt))

    abbrev pub children : Option Spot
    children = cond (items_compared (label_at an a at) (level_for all here) (below an a at) (below bn b bt)) (or_else (spotted at (count_difference (below an a at) (below bn b bt))) inner) None

    resume-step : now ≡ or_else (or_else (spotted at (own_difference (label_at an a at) (label_at bn b bt))) children) later
    unfolding resume node_spot
    resume-step =
        let x = first_some a at n g p in
        let c = trees-count an a (count_at a at - 1) (at + 4) in
        let e : suc (T.count (below an a at)) ≡ count_at a at = omega arith in
        ap₂ (resume all here v at) (trees-step an a n at x (first-within a at n g p)) (trees-step bn b m bt (first_some b bt m h q) (first-within b bt m h q))
        ∙ ap (λ (k : ℕ). or_else (or_else (spotted at (own_difference (label_at an a at) (label_at bn b bt))) children)
        (items_spot all v (at + 4 * k) (trees an a (n - count_at a at) (at + 4 * count_at a at)) (trees bn b (m - count_at b bt) (bt + 4 * count_at b bt)))) e

    pub resume-own : {x : Spot} → spotted at (own_difference (label_at an a at) (label_at bn b bt)) ≡ Some x → resume all here v at (trees an a n at) (trees bn b m bt) ≡ Some x
    unfolding or_else
    resume-own e = resume-step ∙ ap (λ z. or_else (or_else z children) later) e

    module _ (e : spotted at (own_difference (label_at an a at) (label_at bn b bt)) ≡ None) where
      past : now ≡ or_else children later
      unfolding or_else
      past = resume-step ∙ ap (λ z. or_else (or_else z children) later) e

      -- fields that are not compared
      pub resume-over : items_compared (label_at an a at) (level_for all here) (below an a at) (below bn b bt) ≡ false → resume all here v at (trees an a n at) (trees bn b m bt) ≡ later
      unfolding or_else
      resume-over f = past ∙ ap (λ z. or_else (cond z (or_else (spotted at (count_difference (below an a at) (below bn b bt))) inner) None) later) f

      module _ (f : items_compared (label_at an a at) (level_for all here) (below an a at) (below bn b bt) ≡ true) where
        pub resume-count : eqb (items (below an a at)) (items (below bn b bt)) ≡ false → resume all here v at (trees an a n at) (trees bn b m bt)
            ≡ Some (record { place = at; differs = count (items_at a at) (items_at b bt) })
        unfolding or_else count_difference unless spotted items_at
        resume-count k =
            past ∙ ap (λ z. or_else (cond z (or_else (spotted at (count_difference (below an a at) (below bn b bt))) inner) None) later) f
            ∙ ap (λ z. or_else (or_else (spotted at (unless z (count (items (below an a at)) (items (below bn b bt))))) inner) later) k
            ∙ ap₂ (λ x y. Some (record { place = at; differs = count x y })) (items-names an a [] (count_at a at - 1) (at + 4)) (items-names bn b [] (count_at b bt - 1) (bt + 4))

        -- as many on both sides: the items, then what comes after
        pub resume-items : eqb (items (below an a at)) (items (below bn b bt)) ≡ true → resume all here v at (trees an a n at) (trees bn b m bt) ≡ or_else inner later
        unfolding or_else count_difference unless spotted
        resume-items k =
            past ∙ ap (λ z. or_else (cond z (or_else (spotted at (count_difference (below an a at) (below bn b bt))) inner) None) later) f
            ∙ ap (λ z. or_else (or_else (spotted at (unless z (count (items (below an a at)) (items (below bn b bt))))) inner) later) k

      module _ (ka : kind_at a at ≤ 31) (kb : kind_at b bt ≤ 31) where
        twin : equivalent (kind_at a at) (kind_at b bt) ≡ true
        twin = spotted-kinds an a bn b at bt ka kb e

        module _ (c : is_container_kind (kind_at a at) ≡ false) where
          other-plain : is_container_kind (kind_at b bt) ≡ false
          other-plain = plain-partner (kind_at a at) (kind_at b bt) twin c

          compared : items_compared (label_at an a at) (level_for all here) (below an a at) (below bn b bt) ≡ true
          unfolding items_compared
          compared = rw (container-label an (first_at a at) (second_at a at) (kind_at a at) ka ∙ c)

          leaf : count_at a at ≡ 1 → count_at b bt ≡ 1 → now ≡ items_spot all v (at + 4) (trees an a (n - 1) (at + 4)) (trees bn b (m - 1) (bt + 4))
          unfolding items items_spot or_else
          leaf x y =
              let s = no-trees an a (count_at a at - 1) (at + 4) (omega arith) in
              let t = no-trees bn b (count_at b bt - 1) (bt + 4) (omega arith) in
              resume-items compared (ap₂ (λ i j. eqb (items i) (items j)) s t)
              ∙ ap (λ i. or_else (items_spot all (inside (label_at an a at) (level_for all here)) (at + 4) i (below bn b bt)) later) s
              ∙ ap₂ (λ (i j : ℕ). items_spot all v (at + 4 * i) (trees an a (n - i) (at + 4 * i)) (trees bn b (m - j) (bt + 4 * j))) x y

          module _ (lo : 25 ≤ kind_at a at) (hi : kind_at a at ≤ 28) where
            same_kind : kind_at b bt ≡ kind_at a at
            same_kind = partner (kind_at a at) (kind_at b bt) twin (omega arith)

            lo' : 25 ≤ kind_at b bt
            lo' = let k = same_kind in omega arith

            hi' : kind_at b bt ≤ 28
            hi' = let k = same_kind in omega arith

            -- the item, with nothing after it
            held : below an a at ≡ node (label_at an a (at + 4)) (below an a (at + 4)) end
            held = held-alone a at n g p c lo hi an

            held' : below bn b bt ≡ node (label_at bn b (bt + 4)) (below bn b (bt + 4)) end
            held' = held-alone b bt m h q other-plain lo' hi' bn

            abbrev level : NestingLevel
            level = inside (label_at an a at) (level_for all here)

            abbrev item : Option Spot
            item = node_spot (label_at an a (at + 4)) (label_at bn b (bt + 4)) (level_for all level) (below an a (at + 4)) (below bn b (bt + 4)) (at + 4)
                (items_spot all (inside (label_at an a (at + 4)) (level_for all level)) (at + 4 + 4) (below an a (at + 4)) (below bn b (bt + 4)))

            one-item : inner ≡ or_else item None
            unfolding items_spot
            one-item = ap₂ (items_spot all level (at + 4)) held held'

            ends : at + 4 * count_at a at ≡ at + 4 + 4 * suc (T.count (below an a (at + 4)))
            ends =
                let x = trees-count an a (count_at a (at + 4) - 1) (at + 4 + 4) in
                let y = child-count a at (first-node a at n g p) lo hi in
                let z = (node-child a at (first-node a at n g p) lo hi).some-node in
                omega arith

            else-else : (x : Option Spot) (y : Option Spot) → or_else (or_else x None) y ≡ or_else x y
            unfolding or_else
            else-else None y = refl
            else-else (Some x) y = refl

            holder : now ≡ resume all level v (at + 4) (trees an a (n - 1) (at + 4)) (trees bn b (m - 1) (bt + 4))
            unfolding items resume
            holder =
                resume-items compared (ap₂ (λ i j. eqb (items i) (items j)) held held')
                ∙ ap (λ z. or_else z later) one-item
                ∙ else-else item later
                ∙ ap (λ (k : ℕ). or_else item (items_spot all v k (trees an a (n - count_at a at) (at + 4 * count_at a at)) (trees bn b (m - count_at b bt) (bt + 4 * count_at b bt)))) ends
                ∙ sym (ap₂ (resume all level v (at + 4)) (held_then a at n g p c lo hi an) (held_then b bt m h q other-plain lo' hi' bn))

          leaf-low : kind_at a at < 25 → count_at b bt ≡ 1
          leaf-low lo = leaf-count b bt (first-node b bt m h q) (low (leb 24 (kind_at a at)) refl)
            where
              low : (t : Bool) → leb 24 (kind_at a at) ≡ t → kind_at b bt < 25
              low true i = let x = leb-true 24 (kind_at a at) i in let k = partner (kind_at a at) (kind_at b bt) twin (omega arith) in omega arith
              low false i = let k = low-partner (kind_at a at) (kind_at b bt) twin (leb-false 24 (kind_at a at) i) in omega arith

          leaf-high : 28 < kind_at a at → count_at b bt ≡ 1
          leaf-high lo = let k = partner (kind_at a at) (kind_at b bt) twin (omega arith) in none-count b bt (first-node b bt m h q) (omega arith) other-plain

          -- a node that is no container: what it holds, or the trees after it
          pub resume-plain : resume all here v at (trees an a n at) (trees bn b m bt)
              ≡ resume all (level_after all (kind_at a at) v here) v (at + 4) (trees an a (n - 1) (at + 4)) (trees bn b (m - 1) (bt + 4))
          unfolding level_after
          resume-plain = go (leb 25 (kind_at a at)) refl (leb (kind_at a at) 28) refl
            where
              go : (t : Bool) → leb 25 (kind_at a at) ≡ t → (u : Bool) → leb (kind_at a at) 28 ≡ u → now ≡ resume all (level_after all (kind_at a at) v here) v (at + 4) (trees an a (n - 1) (at + 4)) (trees bn b (m - 1) (bt + 4))
              go true i true j = holder (leb-true 25 (kind_at a at) i) (leb-true (kind_at a at) 28 j) ∙ rw (i, j, inside-kind an (kind_at a at) (first_at a at) (second_at a at) (level_for all here))
              go true i false j = leaf (none-count a at (first-node a at n g p) (leb-false (kind_at a at) 28 j) c) (leaf-high (leb-false (kind_at a at) 28 j))
                  ∙ rw (i, j) (sym (resume-level all v (at + 4) (trees an a (n - 1) (at + 4)) (trees bn b (m - 1) (bt + 4))))
              go false i u j = leaf (leaf-count a at (first-node a at n g p) (leb-false 25 (kind_at a at) i)) (leaf-low (leb-false 25 (kind_at a at) i))
                  ∙ rw i (sym (resume-level all v (at + 4) (trees an a (n - 1) (at + 4)) (trees bn b (m - 1) (bt + 4))))
