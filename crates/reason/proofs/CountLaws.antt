-- Laws of the counts of two nodes' items.
use Prim.Native.Nat.{ℕ, ◌+◌, ◌-◌}
use native.Mathlib.Omega.{arith}
use mathlib.Core.Path.{◌≡◌, refl, ap, ap₂, sym, ◌∙◌}
use mathlib.Core.List.{List, []}
use mathlib.Core.Bool.{Bool, true, false, not, ◌&&◌, ◌||◌, false≢true}
use borrow.Author.Tests.{ne_eqb, eq-eqb, eqb-true}
use lib.Dec.{eqb}
use Rattle.kinds.specs.Level.{shows_fields}
use Rattle.kinds.specs.Sheet.{kind_at, first_at, second_at, count_at, label_at, is_container_kind, trees}
use Rattle.kinds.specs.Tree.{Trees, is_end, is_container}
use Rattle.kinds.specs.declared.NestingLevel.{NestingLevel}
use Rattle.kinds.specs.declared.NestingLevel.TheVariants.{Top, Within, Bottom}
use Rattle.kinds.proofs.NodeLaws.{no-trees, some-trees, label-struct, label-union}
use Rattle.helper.specs.Measure.{shown_count}
use Rattle.reason.specs.Reason.{items, items_compared}
use Rattle.reason.specs.Spot.{below, items_at, CountsAre}
use Rattle.reason.specs.declared.find.Counts.TheVariants as C
use Rattle.reason.proofs.SpotLaws.{items-names}

-- ---- Two containers.

module _ (s a : List ℕ) (at : ℕ) (t b : List ℕ) (bt : ℕ) (v : NestingLevel) (c : is_container_kind (kind_at a at) ≡ true) where
  shown : (cs ds : Trees) → items_compared (label_at s a at) v cs ds ≡ (shows_fields v && (not (is_end cs) && not (is_end ds)))
  unfolding items_compared is_container
  shown cs ds = go (eqb (kind_at a at) 29) refl (eqb (kind_at a at) 30) refl c
    where
      go : (x : Bool) → eqb (kind_at a at) 29 ≡ x → (y : Bool) → eqb (kind_at a at) 30 ≡ y → (x || y) ≡ true → items_compared (label_at s a at) v cs ds ≡ (shows_fields v && (not (is_end cs) && not (is_end ds)))
      go true e y d r = rw (label-struct s (kind_at a at) (first_at a at) (second_at a at) (eqb-true (kind_at a at) 29 e))
      go false e true d r = rw (label-union s (kind_at a at) (first_at a at) (second_at a at) (eqb-true (kind_at a at) 30 d))
      go false e false d r = absurd (false≢true r)

  hidden : shown_count v (count_at a at - 1) ≡ 0 → (shows_fields v && (not (is_end (below s a at)) && not (is_end (below t b bt)))) ≡ false
  unfolding shown_count is_end
  hidden e = go v e
    where
      none-shown : count_at a at - 1 ≡ 0 → (not (is_end (below s a at)) && not (is_end (below t b bt))) ≡ false
      none-shown d = rw (no-trees s a (count_at a at - 1) (at + 4) (omega arith))

      go : (u : NestingLevel) → shown_count u (count_at a at - 1) ≡ 0 → (shows_fields u && (not (is_end (below s a at)) && not (is_end (below t b bt)))) ≡ false
      go Top d = none-shown d
      go Within d = none-shown d
      go Bottom d = refl

  -- the first has no field that is shown
  pub counts-hidden : {n : ℕ} → n ≡ shown_count v (count_at a at - 1) → n ≡ 0 → CountsAre s a at t b bt v C.NotCompared
  counts-hidden e z = shown (below s a at) (below t b bt) ∙ hidden (sym e ∙ z)

  -- the second has no field
  pub counts-none : count_at b bt - 1 ≡ 0 → CountsAre s a at t b bt v C.NotCompared
  unfolding is_end
  counts-none e = shown (below s a at) (below t b bt) ∙ rw (no-trees t b (count_at b bt - 1) (bt + 4) (omega arith)) (go (shows_fields v) (is_end (below s a at)))
    where
      go : (x y : Bool) → (x && (not y && false)) ≡ false
      go true true = refl
      go true false = refl
      go false y = refl

  module _ {n : ℕ} (e : n ≡ shown_count v (count_at a at - 1)) (p : n ≡ 0 → ⊥) (q : count_at b bt - 1 ≡ 0 → ⊥) where
    -- so all of the first's fields are shown
    pub shown-all : n ≡ count_at a at - 1
    unfolding shown_count
    shown-all = go v e
      where
        go : (u : NestingLevel) → n ≡ shown_count u (count_at a at - 1) → n ≡ count_at a at - 1
        go Top d = d
        go Within d = d
        go Bottom d = absurd (p d)

    compared : items_compared (label_at s a at) v (below s a at) (below t b bt) ≡ true
    unfolding shown_count
    compared =
        let x = some-trees s a (count_at a at - 1) (at + 4) (let z = shown-all in omega arith) in
        let y = some-trees t b (count_at b bt - 1) (bt + 4) (omega arith) in
        shown (below s a at) (below t b bt) ∙ rw (x, y) (go v e)
      where
        go : (u : NestingLevel) → n ≡ shown_count u (count_at a at - 1) → (shows_fields u && (true && true)) ≡ true
        go Top d = refl
        go Within d = refl
        go Bottom d = absurd (p d)

    -- both counted
    module _ {k j : ℕ} (x : k ≡ items (trees [] a n (at + 4))) (y : j ≡ items_at b bt) where
      first-items : k ≡ items_at a at
      unfolding items_at
      first-items = x ∙ ap (λ (i : ℕ). items (trees [] a i (at + 4))) shown-all

      both-items : eqb (items (below s a at)) (items (below t b bt)) ≡ eqb k j
      unfolding items_at
      both-items = ap₂ eqb (items-names s a [] (count_at a at - 1) (at + 4) ∙ sym first-items) (items-names t b [] (count_at b bt - 1) (bt + 4) ∙ sym y)

      pub counts-equal : k ≡ j → CountsAre s a at t b bt v C.Equal
      counts-equal h = (compared, both-items ∙ eq-eqb k j h)

      pub counts-unequal : (k ≡ j → ⊥) → CountsAre s a at t b bt v (C.Unequal k j)
      counts-unequal h = (compared, both-items ∙ ne_eqb k j h, (first-items, y))
