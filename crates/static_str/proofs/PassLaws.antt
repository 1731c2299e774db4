-- Trees side by side are one run of nodes, and the length may pass into children at their parent's level as if they were trees after it.
use Prim.Native.Nat.{ℕ, zero, suc, ◌+◌, ◌-◌, ◌*◌, ◌≤◌, ◌<◌}
use native.Mathlib.Omega.{arith}
use mathlib.Core.Path.{◌≡◌, ap, ap₂, sym, ◌∙◌, subst}
use mathlib.Core.Bool.{true}
use mathlib.Core.List.{List, ◌++◌, append_assoc}
use lib.ListN.{length, length-append}
use Rattle.kinds.specs.Print.{print_node, print}
use Rattle.kinds.specs.Kind.{children_level, inside_kind}
use Rattle.kinds.specs.Sheet.{kind_at, count_at, label_at, trees, nests}
use Rattle.kinds.specs.Tree.{inside}
use Rattle.kinds.specs.Walk.{TreesAt}
use Rattle.std.specs.Prelude.{Some, None}
use Rattle.kinds.specs.declared.NestingLevel.{NestingLevel}
use Rattle.kinds.proofs.KindLaws.{children-kept}
use Rattle.kinds.proofs.SheetLaws.{trees-step}
use Rattle.kinds.proofs.NodeLaws.{node-inner, first_some, first-within, first-node, other-trees, nests-run, walk-inner}
use Rattle.static_str.specs.Parts.{children_text, max_node_text, ChildrenLength, TreesLength}
use Rattle.static_str.proofs.PrintLaws.{no_text, dropped-text, included-text}

module _ (s w : List ℕ) (v : NestingLevel) where
  text-run : (f a b at : ℕ) → a ≤ f → TreesAt w at a → print v (trees s w (a + b) at) ≡ print v (trees s w a at) ++ print v (trees s w b (at + 4 * a))
  unfolding print
  text-run zero zero b at p h = ap₂ (λ (m n : ℕ). print v (trees s w m n)) (omega arith) (omega arith)
      ∙ ap (λ (x : List ℕ). x ++ print v (trees s w b (at + 4 * zero))) (sym (no_text s w v zero at (omega arith)))
  text-run (suc f) zero b at p h = ap₂ (λ (m n : ℕ). print v (trees s w m n)) (omega arith) (omega arith)
      ∙ ap (λ (x : List ℕ). x ++ print v (trees s w b (at + 4 * zero))) (sym (no_text s w v zero at (omega arith)))
  text-run zero (suc a) b at p h = absurd (omega arith)
  text-run (suc f) (suc a) b at p h =
      let c = first-within w at (suc a) h (omega arith) in
      let i = first_some w at (suc a) h (omega arith) in
      let l = label_at s w at in
      let x = print_node l v (print (inside l v) (trees s w (count_at w at - 1) (at + 4))) in
      let y = print v (trees s w (suc a - count_at w at) (at + 4 * count_at w at)) in
      ap (print v) (trees-step s w (suc a + b) at i (omega arith))
      ∙ ap (λ (m : ℕ). x ++ print v (trees s w m (at + 4 * count_at w at))) (omega arith)
      ∙ ap (λ (z : List ℕ). x ++ z) (text-run f (suc a - count_at w at) b (at + 4 * count_at w at) (omega arith) (other-trees w at (suc a) h (omega arith)))
      ∙ ap (λ (m : ℕ). x ++ (y ++ print v (trees s w b m))) (omega arith)
      ∙ sym (append_assoc x y (print v (trees s w b (at + 4 * suc a))))
      ∙ ap (λ (z : List ℕ). z ++ print v (trees s w b (at + 4 * suc a))) (sym (ap (print v) (trees-step s w (suc a) at i c)))

module _ (w : List ℕ) (at m : ℕ) (h : TreesAt w at m) (p : 0 < m) where
  -- the children and the trees after the first, as one run
  pub inner-run : TreesAt w (at + 4) (m - 1)
  inner-run =
      let c = first-within w at m h p in
      let i = first_some w at m h p in
      let n = node-inner w at (first-node w at m h p) in
      let o = other-trees w at m h p in
      let r = h.room in
      record {
        room = omega arith;
        nested = sym (ap₂ (λ (k j : ℕ). nests w k j) (omega arith) (omega arith))
            ∙ nests-run w (m - count_at w at) (count_at w at - 1) (count_at w at - 1) (at + 4) (omega arith) n
            (subst (λ (j : ℕ). nests w (m - count_at w at) j ≡ true) (omega arith) o.nested);
      }

  module _ (s : List ℕ) (v : NestingLevel) where
    inner-text : length (print v (trees s w (m - 1) (at + 4))) ≡ length (print v (trees s w (count_at w at - 1) (at + 4))) + length
        (print v (trees s w (m - count_at w at) (at + 4 * count_at w at)))
    inner-text =
        let c = first-within w at m h p in
        let i = first_some w at m h p in
        ap₂ (λ (k j : ℕ). length (print v (trees s w k j))) (omega arith) (omega arith)
        ∙ ap length (text-run s w v (count_at w at - 1) (count_at w at - 1) (m - count_at w at) (at + 4) (omega arith) (node-inner w at (first-node w at m h p)))
        ∙ length-append (print v (trees s w (count_at w at - 1) (at + 4))) (print v (trees s w (m - count_at w at) (at + 4 + 4 * (count_at w at - 1))))
        ∙ ap (λ (j : ℕ). length (print v (trees s w (count_at w at - 1) (at + 4))) + length (print v (trees s w (m - count_at w at) j))) (omega arith)

    -- a node whose children stand at its own level: they and the trees after it are one run
    pub kept-text : inside_kind (kind_at w at) v ≡ v → length (print v (trees s w (m - 1) (at + 4))) ≡ length (children_text s w at v) + length
        (print v (trees s w (m - count_at w at) (at + 4 * count_at w at)))
    kept-text e = omega (arith, inner-text, ap length (included-text s w v at v (children-kept (kind_at w at) v e)))

-- the length of the text of a node's children, and its bound
module _ (w : List ℕ) (at : ℕ) (v : NestingLevel) (p : 1 ≤ count_at w at) where
  pub dropped-length : children_level (kind_at w at) v ≡ None → ChildrenLength w at v 0 × (0 + max_node_text ≤ max_node_text * count_at w at)
  dropped-length e = (λ s k. let t = ap length (dropped-text s w v at e) in omega arith, omega arith)

  pub included-length : (u : NestingLevel) (r : ℕ) → children_level (kind_at w at) v ≡ Some u → TreesLength w (at + 4) (count_at w at - 1) u r ×
      (r ≤ max_node_text * (count_at w at - 1)) → ChildrenLength w at v r × (r + max_node_text ≤ max_node_text * count_at w at)
  included-length u r e l =
      let f = l.1 in (
        λ s k. l.0 s (walk-inner w (length s) at (count_at w at) k (count_at w at - 1) (omega arith)) ∙ sym (ap length (included-text s w v at u e)),
        omega arith,
      )
