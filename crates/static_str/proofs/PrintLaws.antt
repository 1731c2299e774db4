-- The text of trees is that of the parts of its nodes.
use Prim.Native.Nat.{ℕ, ◌+◌, ◌-◌, ◌*◌, ◌≤◌, ◌<◌}
use native.Mathlib.Omega.{arith}
use mathlib.Core.Path.{◌≡◌, refl, ap, sym, ◌∙◌}
use mathlib.Core.Bool.{Bool, true, false, false≢true}
use mathlib.Core.List.{List, [], ◌∷◌, ◌++◌, append_assoc, append-nil}
use borrow.Author.Tests.{le-leb, leb-true, leb-false, ne_eqb}
use lib.Dec.{leb}
use lib.ListN.{length, take, drop, length-append}
use Rattle.kinds.specs.Level.{indirection, container_include_fields, shows_fields}
use Rattle.kinds.specs.Kind.{children_level, inside_kind}
use Rattle.kinds.specs.Primitive.{code}
use Rattle.kinds.specs.Print.{decimal, fields, print_node, print}
use Rattle.kinds.specs.Sheet.{kind_at, first_at, second_at, count_at, label, is_container_kind, trees}
use Rattle.kinds.specs.Tree.{Trees, end, inside}
use Rattle.kinds.specs.Walk.{TreesAt}
use Rattle.std.specs.Prelude.{Option, Some, None}
use Rattle.kinds.specs.declared.IndirectionKind.TheVariants.{Pointer}
use Rattle.kinds.specs.declared.NestingLevel.{NestingLevel}
use Rattle.kinds.specs.declared.NestingLevel.TheVariants.{Top, Within, Bottom}
use Rattle.kinds.proofs.SheetLaws.{trees-step, arity-low, arity-high}
use Rattle.kinds.proofs.NodeLaws.{by_kind, label-primitive, leaf-end, no-trees, first_some, first-within, first-node}
use Rattle.static_str.specs.Parts.{opening, closing, print_shown, children_text}

pub shown-end : (f : Option NestingLevel) → print_shown f end ≡ []
unfolding print_shown print
shown-end (Some v) = refl
shown-end None = refl

-- a container, with the byte `x` before it and `y` after it
container-text : (x y : ℕ) (name c d : List ℕ) (v : NestingLevel) → (shows_fields v ≡ true → d ≡ c) → (shows_fields v ≡ false → d ≡ [])
    → x ∷ (name ++ (fields v c ++ (y ∷ []))) ≡ (x ∷ (name ++ fields v [])) ++ (d ++ (y ∷ []))
unfolding fields
container-text x y name c d Top p q = ap (λ (z : List ℕ). x ∷ (name ++ (61 ∷ (z ++ (y ∷ []))))) (sym (p refl))
    ∙ ap (λ (z : List ℕ). x ∷ z) (sym (append_assoc name (61 ∷ []) (d ++ (y ∷ []))))
container-text x y name c d Within p q = ap (λ (z : List ℕ). x ∷ (name ++ (61 ∷ (z ++ (y ∷ []))))) (sym (p refl))
    ∙ ap (λ (z : List ℕ). x ∷ z) (sym (append_assoc name (61 ∷ []) (d ++ (y ∷ []))))
container-text x y name c d Bottom p q = ap (λ (z : List ℕ). x ∷ (name ++ (z ++ (y ∷ [])))) (sym (q refl))
    ∙ ap (λ (z : List ℕ). x ∷ z) (sym (append_assoc name [] (d ++ (y ∷ []))))

module _ (s : List ℕ) (a b : ℕ) (v : NestingLevel) (cs : Trees) where
  whole : ℕ → List ℕ
  whole k = print_node (label s k a b) v (print (inside (label s k a b) v) cs)

  in_parts : ℕ → List ℕ
  in_parts k = opening s k a b v ++ (print_shown (children_level k v) cs ++ closing k b)

  primitive-parts : (k : ℕ) → k < 24 → cs ≡ end → whole k ≡ in_parts k
  unfolding whole in_parts opening closing children_level inside_kind print_shown print_node print
  primitive-parts k p e =
      rw (
        label-primitive s k a b p,
        le-leb k 23 (omega arith),
        ne_eqb k 29 (λ d. omega arith),
        ne_eqb k 30 (λ d. omega arith),
        ne_eqb k 26 (λ d. omega arith),
        ne_eqb k 27 (λ d. omega arith),
        ne_eqb k 25 (λ d. omega arith),
        ne_eqb k 28 (λ d. omega arith),
        e,
      )
      (sym (append-nil (code k)))

  bit-parts : cs ≡ end → whole 24 ≡ in_parts 24
  unfolding whole in_parts label opening closing children_level inside_kind print_shown print_node print
  bit-parts e = rw e (ap (λ (z : List ℕ). 98 ∷ z) (sym (append-nil (decimal b))))

  typed-parts : whole 25 ≡ in_parts 25
  unfolding whole in_parts label opening closing children_level inside_kind print_shown print_node
  typed-parts = refl

  pointer_parts : whole 26 ≡ in_parts 26
  unfolding whole in_parts label opening closing children_level inside_kind print_shown print_node
  pointer_parts = ap (λ (z : List ℕ). 94 ∷ z) (sym (append-nil (print (indirection Pointer v) cs)))

  atomic-parts : whole 27 ≡ in_parts 27
  unfolding whole in_parts label opening closing children_level inside_kind print_shown print_node
  atomic-parts = ap (λ (z : List ℕ). 65 ∷ z) (sym (append-nil (print Bottom cs)))

  array_parts : whole 28 ≡ in_parts 28
  unfolding whole in_parts label opening closing children_level inside_kind print_shown print_node
  array_parts = refl

  shown-fields : (u : NestingLevel) → shows_fields u ≡ true → print_shown (container_include_fields u) cs ≡ print Within cs
  unfolding print_shown
  shown-fields Top p = refl
  shown-fields Within p = refl
  shown-fields Bottom p = absurd (false≢true p)

  hidden-fields : (u : NestingLevel) → shows_fields u ≡ false → print_shown (container_include_fields u) cs ≡ []
  unfolding print_shown
  hidden-fields Top p = absurd (false≢true (sym p))
  hidden-fields Within p = absurd (false≢true (sym p))
  hidden-fields Bottom p = refl

  struct_parts : whole 29 ≡ in_parts 29
  unfolding whole in_parts label opening closing children_level inside_kind print_node
  struct_parts = container-text 123 125 (take b (drop a s)) (print Within cs) (print_shown (container_include_fields v) cs) v (shown-fields v) (hidden-fields v)

  union-parts : whole 30 ≡ in_parts 30
  unfolding whole in_parts label opening closing children_level inside_kind print_node
  union-parts = container-text 40 41 (take b (drop a s)) (print Within cs) (print_shown (container_include_fields v) cs) v (shown-fields v) (hidden-fields v)

  none-parts : cs ≡ end → whole 31 ≡ in_parts 31
  unfolding whole in_parts label opening closing children_level inside_kind print_shown print_node print
  none-parts e = rw e

  -- a node that takes no child has none
  node-parts : (k : ℕ) → k ≤ 31 → (k < 25 → cs ≡ end) → (28 < k → is_container_kind k ≡ false → cs ≡ end) → whole k ≡ in_parts k
  node-parts k hi low high = go (leb k 23) refl
    where
      go : (t : Bool) → leb k 23 ≡ t → whole k ≡ in_parts k
      go true e = let p = leb-true k 23 e in primitive-parts k (omega arith) (low (omega arith))
      go false e =
          by_kind (λ (j : ℕ). (j < 25 → cs ≡ end) → (28 < j → is_container_kind j ≡ false → cs ≡ end) → whole j ≡ in_parts j)
          (λ p q. bit-parts (p (omega arith))) (λ p q. typed-parts) (λ p q. pointer_parts) (λ p q. atomic-parts) (λ p q. array_parts) (λ p q. struct_parts)
          (λ p q. union-parts) (λ p q. none-parts (q (omega arith) refl))
          k (leb-false k 23 e) hi low high

module _ (s w : List ℕ) (v : NestingLevel) (at n : ℕ) (h : TreesAt w at n) (p : 0 < n) (hi : kind_at w at ≤ 31) where
  -- the first tree in parts, and the trees after it
  pub trees-text : print v (trees s w n at) ≡ opening s (kind_at w at) (first_at w at) (second_at w at) v ++
      (children_text s w at v ++ (closing (kind_at w at) (second_at w at) ++ print v (trees s w (n - count_at w at) (at + 4 * count_at w at))))
  unfolding print whole in_parts
  trees-text =
      let f = first-node w at n h p in
      let cs = trees s w (count_at w at - 1) (at + 4) in
      let r = print v (trees s w (n - count_at w at) (at + 4 * count_at w at)) in
      let o = opening s (kind_at w at) (first_at w at) (second_at w at) v in
      let k = closing (kind_at w at) (second_at w at) in
      let e = node-parts s (first_at w at) (second_at w at) v cs (kind_at w at) hi (λ q. leaf-end s w at f (arity-low _ _ _ q))
      (λ q d. leaf-end s w at f (arity-high _ _ _ q d)) in
      ap (print v) (trees-step s w n at (first_some w at n h p) (first-within w at n h p))
      ∙ ap (λ (z : List ℕ). z ++ r) e
      ∙ append_assoc o (children_text s w at v ++ k) r
      ∙ ap (λ (z : List ℕ). o ++ z) (append_assoc (children_text s w at v) k r)

  pub trees-length : length (print v (trees s w n at)) ≡ length (opening s (kind_at w at) (first_at w at) (second_at w at) v) + length
      (closing (kind_at w at) (second_at w at)) + length (children_text s w at v) + length (print v (trees s w (n - count_at w at) (at + 4 * count_at w at)))
  trees-length =
      let r = print v (trees s w (n - count_at w at) (at + 4 * count_at w at)) in
      let k = closing (kind_at w at) (second_at w at) in
      let c = children_text s w at v in
      let e = ap length trees-text in
      let x = length-append (opening s (kind_at w at) (first_at w at) (second_at w at) v) (c ++ (k ++ r)) in
      let y = length-append c (k ++ r) in
      let z = length-append k r in
      omega arith

-- no trees, no text
pub no_text : (s w : List ℕ) (v : NestingLevel) (n at : ℕ) → n ≤ 0 → print v (trees s w n at) ≡ []
unfolding print
no_text s w v n at p = ap (print v) (no-trees s w n at p)

pub no-children : (s w : List ℕ) (v : NestingLevel) (at : ℕ) → count_at w at ≤ 1 → children_text s w at v ≡ []
no-children s w v at p = ap (print_shown (children_level (kind_at w at) v)) (no-trees s w (count_at w at - 1) (at + 4) (omega arith))
    ∙ shown-end (children_level (kind_at w at) v)

module _ (s w : List ℕ) (v : NestingLevel) (at : ℕ) where
  pub dropped-text : children_level (kind_at w at) v ≡ None → children_text s w at v ≡ []
  unfolding print_shown
  dropped-text e = ap (λ (f : Option NestingLevel). print_shown f (trees s w (count_at w at - 1) (at + 4))) e

  pub included-text : (u : NestingLevel) → children_level (kind_at w at) v ≡ Some u → children_text s w at v ≡ print u (trees s w (count_at w at - 1) (at + 4))
  unfolding print_shown
  included-text u e = ap (λ (f : Option NestingLevel). print_shown f (trees s w (count_at w at - 1) (at + 4))) e

-- a pointer and an atomic show what they hold
pub held-shown : (k : ℕ) (v u : NestingLevel) → 26 ≤ k → k ≤ 27 → u ≡ inside_kind k v → children_level k v ≡ Some u
unfolding children_level
held-shown k v u lo hi f = rw (ne_eqb k 29 (λ d. omega arith), ne_eqb k 30 (λ d. omega arith)) (ap Some (sym f))
