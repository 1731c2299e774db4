-- The numbers of trees' nodes: how many they are, which are the trees' own, and which belong to what a node holds.
use Prim.Native.Nat.{ℕ, ◌+◌}
use native.Mathlib.Omega.{arith}
use mathlib.Core.Bool.{Bool, true, false, cond}
use mathlib.Core.List.{List, ◌∷◌}
use mathlib.Core.Path.{◌≡◌, refl, ap, ◌∙◌}
use lib.ListN.{length, take, drop, replicate, length-append, length-replicate}
use lib.Seq.{take_at, drop_at}
use Rattle.kinds.specs.Primitive.{Widths}
use Rattle.kinds.specs.Tree.{Label, Trees, end, node, count}
use Rattle.layout.specs.Layout.{Side, fields, others, extents, node_extent, begins, in_node, holds_inside, offsets}
use Rattle.layout.proofs.FillLaws.{offsets-length}
use Rattle.layout_agreement.specs.Fields.{field_offsets, own_numbers}

of_either : (b : Bool) (ns : List ℕ) (n : ℕ) → length ns ≡ n → length (cond b ns (replicate n 0)) ≡ n
of_either true ns n e = e
of_either false ns n e = length-replicate n 0

module _ (w : Widths) where
  -- The numbers of what a node holds.
  abbrev pub below : Label → Trees → List ℕ
  below l cs = cond (holds_inside l) (offsets w (in_node l) 0 cs) (replicate (count cs) 0)

  pub below_length : (l : Label) (cs : Trees) → length (below l cs) ≡ count cs
  below_length l cs = of_either (holds_inside l) (offsets w (in_node l) 0 cs) (count cs) (offsets-length w (in_node l) 0 cs)

  -- The fields' own numbers are where they begin; those of other trees are 0.
  pub own-fields : (e : ℕ) (ts : Trees) → own_numbers ts (offsets w fields e ts) ≡ field_offsets e (extents w ts)
  unfolding own_numbers offsets field_offsets extents
  own-fields e end = refl
  own-fields e (node l cs ts) = ap (λ ns. begins fields e (node_extent w l (extents w cs)) ∷ ns)
      (ap (own_numbers ts) (drop_at (below l cs) (offsets w fields after ts) (count cs) (below_length l cs)) ∙ own-fields after ts)
    where
      after : ℕ
      after = begins fields e (node_extent w l (extents w cs)) + (node_extent w l (extents w cs)).bytes

  pub own-others : (e : ℕ) (ts : Trees) → own_numbers ts (offsets w others e ts) ≡ replicate (length (extents w ts)) 0
  unfolding own_numbers offsets extents
  own-others e end = refl
  own-others e (node l cs ts) = ap (λ ns. 0 ∷ ns)
      (ap (own_numbers ts) (drop_at (below l cs) (offsets w others (0 + (node_extent w l (extents w cs)).bytes) ts) (count cs) (below_length l cs))
      ∙ own-others (0 + (node_extent w l (extents w cs)).bytes) ts)

  -- What a node holds has its numbers right after the node's own.
  pub numbers-below : (k : Side) (e : ℕ) (l : Label) (cs ts : Trees) → take (count cs) (drop 1 (offsets w k e (node l cs ts))) ≡ below l cs
  unfolding offsets
  numbers-below k e l cs ts = take_at (below l cs) (offsets w k (begins k e (node_extent w l (extents w cs)) + (node_extent w l (extents w cs)).bytes) ts) (count cs) (below_length l cs)
