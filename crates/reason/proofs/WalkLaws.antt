-- What the walk for the first difference keeps from one node to the next.
use Rattle.reason.specs.declared.find.FirstDifference.{FirstDifference}
use Prim.Native.Nat.{ℕ, ◌+◌, ◌-◌, ◌*◌, ◌≤◌, ◌<◌}
use native.Mathlib.Omega.{arith}
use mathlib.Core.Path.{◌≡◌, refl, ap, sym, ◌∙◌, subst}
use mathlib.Core.List.{List}
use Rattle.std.specs.Prelude.{Option, Some, None}
use mathlib.Core.Bool.{Bool, true, false}
use lib.ListN.{length}
use Rattle.kinds.specs.Compare.{level_for}
use Rattle.kinds.specs.Kind.{inside_kind}
use Rattle.kinds.specs.Sheet.{kind_at, first_at, second_at, count_at, label_at, is_container_kind, trees}
use Rattle.kinds.specs.Tree.{inside}
use Rattle.kinds.specs.Walk.{NodeAt, TreesAt, KindAndName, KindsAndNames}
use Rattle.kinds.specs.declared.NestingLevel.{NestingLevel}
use Rattle.kinds.specs.declared.NestingLevel.TheVariants.{Within}
use Rattle.kinds.proofs.KindLaws.{inside-kind}
use Rattle.kinds.proofs.NodeLaws.{node-inner, first_some, first-within, first-node, other-trees, no-trees, walk_here, walk-inner, walk-rest}
use Rattle.helper.specs.Measure.{level_after}
use Rattle.helper.proofs.CompareLaws.{Bounds, plain-partner, level-container, after-trees}
use Rattle.reason.specs.Reason.{or_else, own_difference}
use Rattle.reason.specs.Spot.{difference_found, Spot, spotted, items_spot, NodeOf, below, number_at, difference_at, ValueAt, Finds, CountsAre}
use Rattle.reason.specs.declared.find.Aspect.{Aspect}
use Rattle.reason.specs.declared.find.Aspect.TheVariants as A
use Rattle.reason.specs.declared.find.Counts.TheVariants as C
use Rattle.reason.proofs.SpotLaws.{resume, resume-level, resume-end, resume-short, resume-own, resume-over, resume-count, resume-items, resume-plain, spotted-kinds}
use Rattle.reason.proofs.ReasonLaws.{else-none}

pub zero_left : (m : ℕ) → m ≡ 0 → m ≤ 0
zero_left m e = omega arith

pub some_left : (m : ℕ) → (m ≡ 0 → ⊥) → 0 < m
some_left m h = omega arith

-- ---- Places.

-- The `n` nodes from `at` on are among the `n₀` nodes from `at₀` on.
pub record Part (at₀ n₀ at n : ℕ) : Type 0 where
  pub over : ℕ
  pub starts : at ≡ at₀ + 4 * over
  pub ends : over + n ≤ n₀

pub part-all : (at n : ℕ) → Part at n at n
part-all at n = record { over = 0; starts = omega arith; ends = omega arith }

module _ {at₀ n₀ at n : ℕ} (p : Part at₀ n₀ at n) where
  pub part-rest : (k : ℕ) → k ≤ n → Part at₀ n₀ (at + 4 * k) (n - k)
  part-rest k h = let s = p.starts in let e = p.ends in record { over = p.over + k; starts = omega arith; ends = omega arith }

  pub part-inner : (k : ℕ) → k < n → Part at₀ n₀ (at + 4) k
  part-inner k h = let s = p.starts in let e = p.ends in record { over = p.over + 1; starts = omega arith; ends = omega arith }

  part-node : {x : ℕ} → NodeOf at n x → NodeOf at₀ n₀ x
  part-node h =
      let s = p.starts in
      let e = p.ends in
      let i = h.is in
      let f = h.few in
      record { number = p.over + h.number; is = omega arith; few = omega arith }

  part-value : {aspect : Aspect} {w : List ℕ} {x : ℕ} → ValueAt aspect w at n x → ValueAt aspect w at₀ n₀ x
  part-value v = record { node = part-node v.node; whole = v.whole; named = v.named }

-- ---- What is left.

-- What is left to find is `s`.
pub record Left (all : Bool) (v : NestingLevel) (an a bn b : List ℕ) (at n bt m : ℕ) (here : NestingLevel) (at₀ n₀ bt₀ m₀ : ℕ) (s : Option Spot) : Type 0 where
  pub first : TreesAt a at n
  pub second : TreesAt b bt m
  pub first_walk : KindsAndNames a (length an) at n
  pub second_walk : KindsAndNames b (length bn) bt m
  pub first_part : Part at₀ n₀ at n
  pub second-part : Part bt₀ m₀ bt m
  pub rest : resume all here v at (trees an a n at) (trees bn b m bt) ≡ s

module _ {all : Bool} {v : NestingLevel} {an a bn b : List ℕ} {at n bt m : ℕ} {here : NestingLevel} {at₀ n₀ bt₀ m₀ : ℕ} {s : Option Spot}
    (l : Left all v an a bn b at n bt m here at₀ n₀ bt₀ m₀ s) where
  moved : (i₀ j₀ : ℕ) (x₀ : NestingLevel) (i j : ℕ) → i ≡ i₀ → j ≡ j₀ → (x : NestingLevel) → x ≡ x₀
      → Left all v an a bn b (at + 4 * i₀) (n - i₀) (bt + 4 * j₀) (m - j₀) x₀ at₀ n₀ bt₀ m₀ s → Left all v an a bn b (at + 4 * i) (n - i) (bt + 4 * j) (m - j) x at₀ n₀ bt₀ m₀ s
  moved i₀ j₀ x₀ i j ei ej x ex k =
      subst (λ (y : ℕ). Left all v an a bn b (at + 4 * y) (n - y) (bt + 4 * j) (m - j) x at₀ n₀ bt₀ m₀ s) (sym ei)
      (subst (λ (y : ℕ). Left all v an a bn b (at + 4 * i₀) (n - i₀) (bt + 4 * y) (m - y) x at₀ n₀ bt₀ m₀ s) (sym ej)
      (subst (λ (y : NestingLevel). Left all v an a bn b (at + 4 * i₀) (n - i₀) (bt + 4 * j₀) (m - j₀) y at₀ n₀ bt₀ m₀ s) (sym ex) k))

  -- one side is at its end
  pub left_end : n ≤ 0 → s ≡ None
  left_end p = sym l.rest ∙ resume-end all here v an a bn b n m at bt p

  pub left-short : m ≤ 0 → s ≡ None
  left-short p = sym l.rest ∙ resume-short all here v an a bn b n m at bt p

  module _ (p : 0 < n) (q : 0 < m) where
    pub left-bounds : Bounds a at n b bt m
    left-bounds = record {
      first_some = first_some a at n l.first p;
      first-within = first-within a at n l.first p;
      first-room = l.first.room;
      second-some = first_some b bt m l.second q;
      second-within = first-within b bt m l.second q;
      second-room = l.second.room;
    }

    -- what is relied on at the two nodes
    pub left_here : (NodeAt a at × NodeAt b bt) × (KindAndName a (length an) at × KindAndName b (length bn) bt)
    left_here = (
      (first-node a at n l.first p, first-node b bt m l.second q),
      (walk_here a (length an) at n l.first_walk p, walk_here b (length bn) bt m l.second_walk q),
    )

    this : NodeOf at n at
    this = record { number = 0; is = omega arith; few = p }

    that : NodeOf bt m bt
    that = record { number = 0; is = omega arith; few = q }

    one_of : {i k x : ℕ} → 0 < k → NodeOf i 1 x → NodeOf i k x
    one_of h o = let f = o.few in record { number = o.number; is = o.is; few = omega arith }

    widened : {aspect : Aspect} {w : List ℕ} {i k x : ℕ} → 0 < k → ValueAt aspect w i 1 x → ValueAt aspect w i k x
    widened h o = record { node = one_of h o.node; whole = o.whole; named = o.named }

    pub left-own : {d : FirstDifference} → Finds an a at 1 bn b bt 1 (spotted at (own_difference (label_at an a at) (label_at bn b bt))) (Some d)
        → Finds an a at₀ n₀ bn b bt₀ m₀ s (Some d)
    left-own f = (
      sym l.rest ∙ resume-own all here v an a bn b n m at bt l.first l.second p q f.0,
      (part-value l.first_part (widened p f.1.0), part-value l.second-part (widened q f.1.1)),
      f.2,
    )

    module _ (e : spotted at (own_difference (label_at an a at) (label_at bn b bt)) ≡ None) where
      ka : kind_at a at ≤ 31
      ka = (walk_here a (length an) at n l.first_walk p).kind

      kb : kind_at b bt ≤ 31
      kb = (walk_here b (length bn) bt m l.second_walk q).kind

      pub left-next : is_container_kind (kind_at a at) ≡ false → {i j : ℕ} → i ≡ 1 → j ≡ 1 → {x : NestingLevel} → x ≡ level_after all (kind_at a at) v here
          → Left all v an a bn b (at + 4 * i) (n - i) (bt + 4 * j) (m - j) x at₀ n₀ bt₀ m₀ s
      left-next c {i} {j} ei ej {x} ex = moved 1 1 (level_after all (kind_at a at) v here) i j ei ej x ex (record {
        first = after-trees a at n l.first p c;
        second = after-trees b bt m l.second q (plain-partner (kind_at a at) (kind_at b bt) (spotted-kinds an a bn b at bt ka kb e) c);
        first_walk = walk-rest a (length an) at n l.first_walk 1 (omega arith);
        second_walk = walk-rest b (length bn) bt m l.second_walk 1 (omega arith);
        first_part = part-rest l.first_part 1 (omega arith);
        second-part = part-rest l.second-part 1 (omega arith);
        rest = sym (resume-plain all here v an a bn b n m at bt l.first l.second p q e ka kb c) ∙ l.rest;
      })

      module _ (c : is_container_kind (kind_at a at) ≡ true) {u : NestingLevel} (lu : u ≡ level_for all here) where
        within : inside (label_at an a at) (level_for all here) ≡ Within
        unfolding inside_kind
        within = inside-kind an (kind_at a at) (first_at a at) (second_at a at) (level_for all here) ∙ rw c

        -- what comes after a container whose fields are passed
        later : resume all here v at (trees an a n at) (trees bn b m bt)
            ≡ items_spot all v (at + 4 * count_at a at) (trees an a (n - count_at a at) (at + 4 * count_at a at)) (trees bn b (m - count_at b bt) (bt + 4 * count_at b bt))
            → {i j : ℕ} → i ≡ count_at a at → j ≡ count_at b bt → {x : NestingLevel} → x ≡ level_after all (kind_at a at) v here
            → Left all v an a bn b (at + 4 * i) (n - i) (bt + 4 * j) (m - j) x at₀ n₀ bt₀ m₀ s
        later h {i} {j} ei ej {x} ex = moved (count_at a at) (count_at b bt) (level_after all (kind_at a at) v here) i j ei ej x ex (record {
          first = other-trees a at n l.first p;
          second = other-trees b bt m l.second q;
          first_walk = walk-rest a (length an) at n l.first_walk (count_at a at) (first-within a at n l.first p);
          second_walk = walk-rest b (length bn) bt m l.second_walk (count_at b bt) (first-within b bt m l.second q);
          first_part = part-rest l.first_part (count_at a at) (first-within a at n l.first p);
          second-part = part-rest l.second-part (count_at b bt) (first-within b bt m l.second q);
          rest = ap (λ y. resume all y v (at + 4 * count_at a at) (trees an a (n - count_at a at) (at + 4 * count_at a at)) (trees bn b (m - count_at b bt) (bt + 4 * count_at b bt)))
              (level-container all (kind_at a at) v here c)
              ∙ resume-level all v (at + 4 * count_at a at) (trees an a (n - count_at a at) (at + 4 * count_at a at)) (trees bn b (m - count_at b bt) (bt + 4 * count_at b bt)) ∙ sym h ∙ l.rest;
        })

        pub left_over : CountsAre an a at bn b bt u C.NotCompared → {i j : ℕ} → i ≡ count_at a at → j ≡ count_at b bt → {x : NestingLevel} → x ≡ level_after all (kind_at a at) v here
            → Left all v an a bn b (at + 4 * i) (n - i) (bt + 4 * j) (m - j) x at₀ n₀ bt₀ m₀ s
        left_over f = later (resume-over all here v an a bn b n m at bt l.first l.second p q e (rw lu at f))

        pub left-count : {k j : ℕ} → CountsAre an a at bn b bt u (C.Unequal k j) → Finds an a at₀ n₀ bn b bt₀ m₀ s (Some (difference_found at bt A.Count k j))
        unfolding difference_at number_at
        left-count f = (
          sym l.rest ∙ resume-count all here v an a bn b n m at bt l.first l.second p q e (rw lu at f.0) f.1,
          (
            record { node = part-node l.first_part this; whole = first-node a at n l.first p; named = tt },
            record { node = part-node l.second-part that; whole = first-node b bt m l.second q; named = tt },
          ),
          f.2,
        )

        module _ (f : CountsAre an a at bn b bt u C.Equal) where
          items-then : resume all here v at (trees an a n at) (trees bn b m bt)
              ≡ or_else (items_spot all Within (at + 4) (below an a at) (below bn b bt))
              (items_spot all v (at + 4 * count_at a at) (trees an a (n - count_at a at) (at + 4 * count_at a at)) (trees bn b (m - count_at b bt) (bt + 4 * count_at b bt)))
          items-then =
              resume-items all here v an a bn b n m at bt l.first l.second p q e (rw lu at f.0) f.1
              ∙ ap (λ y. or_else (items_spot all y (at + 4) (below an a at) (below bn b bt))
              (items_spot all v (at + 4 * count_at a at) (trees an a (n - count_at a at) (at + 4 * count_at a at)) (trees bn b (m - count_at b bt) (bt + 4 * count_at b bt)))) within

          inner-part : Part at₀ n₀ (at + 4) (count_at a at - 1)
          inner-part = let x = first_some a at n l.first p in let y = first-within a at n l.first p in part-inner l.first_part (count_at a at - 1) (omega arith)

          inner-part' : Part bt₀ m₀ (bt + 4) (count_at b bt - 1)
          inner-part' = let x = first_some b bt m l.second q in let y = first-within b bt m l.second q in part-inner l.second-part (count_at b bt - 1) (omega arith)

          -- what the walk over the fields may rely on
          pub left-inner : (TreesAt a (at + 4) (count_at a at - 1) × TreesAt b (bt + 4) (count_at b bt - 1))
              × (KindsAndNames a (length an) (at + 4) (count_at a at - 1) × KindsAndNames b (length bn) (bt + 4) (count_at b bt - 1))
          left-inner =
              let x = first_some a at n l.first p in
              let y = first-within a at n l.first p in
              let x' = first_some b bt m l.second q in
              let y' = first-within b bt m l.second q in (
                (node-inner a at (first-node a at n l.first p), node-inner b bt (first-node b bt m l.second q)),
                (walk-inner a (length an) at n l.first_walk (count_at a at - 1) (omega arith), walk-inner b (length bn) bt m l.second_walk (count_at b bt - 1) (omega arith)),
              )

          pub left-fields : {d : FirstDifference}
              → Finds an a (at + 4) (count_at a at - 1) bn b (bt + 4) (count_at b bt - 1) (items_spot all Within (at + 4) (below an a at) (below bn b bt)) (Some d)
              → Finds an a at₀ n₀ bn b bt₀ m₀ s (Some d)
          unfolding or_else
          left-fields g = (
            sym l.rest ∙ items-then
                ∙ ap (λ y. or_else y (items_spot all v (at + 4 * count_at a at) (trees an a (n - count_at a at) (at + 4 * count_at a at)) (trees bn b (m - count_at b bt) (bt + 4 * count_at b bt)))) g.0,
            (part-value inner-part g.1.0, part-value inner-part' g.1.1),
            g.2,
          )

          pub left_after : items_spot all Within (at + 4) (below an a at) (below bn b bt) ≡ None
              → {i j : ℕ} → i ≡ count_at a at → j ≡ count_at b bt → {x : NestingLevel} → x ≡ level_after all (kind_at a at) v here
              → Left all v an a bn b (at + 4 * i) (n - i) (bt + 4 * j) (m - j) x at₀ n₀ bt₀ m₀ s
          unfolding or_else
          left_after g = later (items-then
              ∙ ap (λ y. or_else y (items_spot all v (at + 4 * count_at a at) (trees an a (n - count_at a at) (at + 4 * count_at a at)) (trees bn b (m - count_at b bt) (bt + 4 * count_at b bt)))) g)

          -- the last: its fields stand in its place
          pub left-last : n ≡ count_at a at → Left all Within an a bn b (at + 4) (count_at a at - 1) (bt + 4) (count_at b bt - 1) Within at₀ n₀ bt₀ m₀ s
          unfolding items_spot
          left-last z = record {
            first = left-inner.0.0;
            second = left-inner.0.1;
            first_walk = left-inner.1.0;
            second_walk = left-inner.1.1;
            first_part = inner-part;
            second-part = inner-part';
            rest = resume-level all Within (at + 4) (below an a at) (below bn b bt)
                ∙ sym (else-none (items_spot all Within (at + 4) (below an a at) (below bn b bt)))
                ∙ sym (ap (λ y. or_else (items_spot all Within (at + 4) (below an a at) (below bn b bt)) (items_spot all v (at + 4 * count_at a at) y (trees bn b (m - count_at b bt) (bt + 4 * count_at b bt))))
                (no-trees an a (n - count_at a at) (at + 4 * count_at a at) (omega arith)))
                ∙ sym items-then ∙ l.rest;
          }
