-- Laws that lead from the pass over all nodes to the answer of the check.
use Prim.Native.Nat.{ℕ, zero, suc, ◌+◌, ◌-◌, ◌*◌, ◌≤◌, ◌<◌}
use native.Mathlib.Nat.{suc-add}
use native.Mathlib.Omega.{arith}
use mathlib.Core.Path.{◌≡◌, refl, ap, ap₂, sym, ◌∙◌}
use mathlib.Core.List.{List}
use mathlib.Core.Bool.{Bool, true, false, cond, ◌&&◌, and-true, and-false, and_assoc}
use borrow.Author.Tests.{eq-eqb, ne_eqb}
use lib.Dec.{eqb}
use lib.ListN.{length, get_or, length-drop}
use lib.Seq.{get_or-drop}
use Rattle.kinds.specs.Sheet.{kind_at, first_at, second_at, count_at, label_at, numbers, next_name, packed, nests, header_words, header, node_words, is_sheet, trees, tree_of}
use Rattle.kinds.specs.Sound.{good_name, good_names}
use Rattle.kinds.specs.Walk.{TreesAt}
use Rattle.kinds.proofs.SheetLaws.{header-says, trees-step}
use Rattle.kinds.proofs.NodeLaws.{no-trees, first_some, first-within, first-node, node-inner, other-trees}
use Rattle.sheet.specs.Walked.{in_order, walked, verdict_of, answer}
use Rattle.sheet.proofs.WalkLaws.{walked-code, some-pair}
use Rattle.kinds.specs.declared.Refusal.TheVariants.{NotASheet, BadName}
use Rattle.std.specs.Prelude.{Option, Some, None, Ok, Err}

-- The names of the `n` nodes from `at` on are good.
unfoldable names_good : List ℕ → List ℕ → ℕ → ℕ → Bool
names_good s w zero at = true
names_good s w (suc n) at = good_name (label_at s w at) && names_good s w n (at + 4)

-- A pass ends where the names end.
unfoldable ends_at : ℕ → Option (ℕ × Bool) → Bool
ends_at e None = false
ends_at e (Some (p, g)) = eqb p e

module _ (s w : List ℕ) where
  names-split : (j k at : ℕ) → names_good s w (j + k) at ≡ (names_good s w j at && names_good s w k (at + 4 * j))
  unfolding names_good
  names-split zero k at = let e : zero + k ≡ k = omega arith in let d : at ≡ at + 4 * zero = omega arith in ap₂ (names_good s w) e d
  names-split (suc j) k at =
      ap (λ (n : ℕ). names_good s w n at) (suc-add j k)
      ∙ ap (λ (x : Bool). good_name (label_at s w at) && x) (names-split j k (at + 4) ∙ ap (λ (n : ℕ). names_good s w j (at + 4) && names_good s w k n) (omega arith))
      ∙ sym (and_assoc (good_name (label_at s w at)) (names_good s w j (at + 4)) (names_good s w k (at + 4 * suc j)))

  names-none : (n at : ℕ) → n ≤ 0 → names_good s w n at ≡ true
  unfolding names_good
  names-none zero at p = refl
  names-none (suc n) at p = absurd (omega arith)

  -- the names of trees are those of their nodes
  names-tree : (f n at : ℕ) → n ≤ f → TreesAt w at n → good_names (trees s w n at) ≡ names_good s w n at
  unfolding good_names names_good
  names-tree zero n at p h = ap good_names (no-trees s w n at p) ∙ sym (names-none n at p)
  names-tree (suc f) zero at p h = ap good_names (no-trees s w zero at (omega arith))
  names-tree (suc f) (suc n) at p h =
      let a = first_some w at (suc n) h (omega arith) in
      let b = first-within w at (suc n) h (omega arith) in
      let d : count_at w at - 1 + (suc n - count_at w at) ≡ n = omega arith in
      let i : at + 4 * count_at w at ≡ at + 4 + 4 * (count_at w at - 1) = omega arith in
      ap good_names (trees-step s w (suc n) at a b)
      ∙ ap (λ (x : Bool). good_name (label_at s w at) && x)
      (ap₂ ◌&&◌ (names-tree f (count_at w at - 1) (at + 4) (omega arith) (node-inner w at (first-node w at (suc n) h (omega arith))))
      (names-tree f (suc n - count_at w at) (at + 4 * count_at w at) (omega arith) (other-trees w at (suc n) h (omega arith)))
      ∙ ap (λ (j : ℕ). names_good s w (count_at w at - 1) (at + 4) && names_good s w (suc n - count_at w at) j) i
      ∙ sym (names-split (count_at w at - 1) (suc n - count_at w at) (at + 4))
      ∙ ap (λ (j : ℕ). names_good s w j (at + 4)) d)

  module _ (e : ℕ) where
    order-packed : (n at p : ℕ) (g : Bool) → packed w n at p e ≡ ends_at e (in_order s w n at p e g)
    unfolding packed in_order ends_at
    order-packed zero at p g = refl
    order-packed (suc n) at p g = go (numbers (kind_at w at) (first_at w at) (second_at w at) p e) _ _ (order-packed n (at + 4) (next_name (kind_at w at) (second_at w at) p) (g && good_name (label_at s w at)))
      where
        go : (t x : Bool) (y : Option (ℕ × Bool)) → x ≡ ends_at e y → (t && x) ≡ ends_at e (cond t y None)
        go true x y h = h
        go false x y h = refl

    order-good : (n at p : ℕ) (g : Bool) (q : ℕ) (f : Bool) → in_order s w n at p e g ≡ Some (q, f) → f ≡ (g && names_good s w n at)
    unfolding in_order names_good
    order-good zero at p g q f h = sym (some-pair h).1 ∙ sym (and-true g)
    order-good (suc n) at p g q f h = go (numbers (kind_at w at) (first_at w at) (second_at w at) p e) _ h (order-good n (at + 4) (next_name (kind_at w at) (second_at w at) p) (g && good_name (label_at s w at)) q f)
      where
        go : (t : Bool) (x : Option (ℕ × Bool)) → cond t x None ≡ Some (q, f) → (x ≡ Some (q, f) → f ≡ ((g && good_name (label_at s w at)) && names_good s w n (at + 4))) → f ≡ (g && (good_name (label_at s w at) && names_good s w n (at + 4)))
        go true x m more = more m ∙ and_assoc g (good_name (label_at s w at)) (names_good s w n (at + 4))
        go false x m more = let z : ◌≡◌ {A = ℕ} 0 1 = cc in absurd (omega arith)

module _ (words names : List ℕ) where
  pub verdict-header : header words (length names) ≡ false → verdict_of words names ≡ Err NotASheet
  unfolding verdict_of is_sheet
  verdict-header h = rw h

  module _ (h : header words (length names) ≡ true) where
    pub verdict-count : (get_or words (header_words + 3) 0 ≡ get_or words 0 0 → ⊥) → verdict_of words names ≡ Err NotASheet
    unfolding verdict_of is_sheet
    verdict-count c = rw (h, ne_eqb (count_at (node_words words) 0) (get_or words 0 0) (λ e. c (sym (get_or-drop header_words words 3 0) ∙ e)), and-false (packed (node_words words) (get_or words 0 0) 0 0 (get_or words 2 0)))

    nodes-room : 0 + 4 * get_or words 0 0 ≤ length (node_words words)
    nodes-room = let a = (header-says words (length names) h).room in let b = length-drop header_words words in omega arith

    pub verdict-walked : count_at (node_words words) 0 ≡ get_or words 0 0 → verdict_of words names ≡ answer (get_or words 2 0) (walked names (node_words words) (get_or words 0 0) 0 0 (get_or words 2 0) true)
    unfolding verdict_of is_sheet walked answer tree_of ends_at
    verdict-walked c =
        rw (h, eq-eqb (count_at (node_words words) 0) (get_or words 0 0) c, order-packed names (node_words words) (get_or words 2 0) (get_or words 0 0) 0 0 true)
        (go (nests (node_words words) (get_or words 0 0) 0) refl (in_order names (node_words words) (get_or words 0 0) 0 0 (get_or words 2 0) true) refl)
      where
        go : (t : Bool) → nests (node_words words) (get_or words 0 0) 0 ≡ t → (x : Option (ℕ × Bool)) → in_order names (node_words words) (get_or words 0 0) 0 0 (get_or words 2 0) true ≡ x
            → cond (ends_at (get_or words 2 0) x && t) (cond (good_names (trees names (node_words words) (get_or words 0 0) 0)) (Ok tt) (Err BadName)) (Err NotASheet) ≡ answer (get_or words 2 0) (cond t x None)
        go true n None o = refl
        go true n (Some (q, f)) o =
            let r : TreesAt (node_words words) 0 (get_or words 0 0) = record { room = nodes-room; nested = n } in
            rw (and-true (eqb q (get_or words 2 0)), names-tree names (node_words words) (get_or words 0 0) (get_or words 0 0) 0 (omega arith) r, order-good names (node_words words) (get_or words 2 0) (get_or words 0 0) 0 0 true q f o)
        go false n x o = rw (and-false (ends_at (get_or words 2 0) x))

    -- the lent part of the words is the node words, with the room that the pass asks for
    module _ (w : List ℕ) (part : w ≡ node_words words) where
      pub part_room : 0 + 4 * get_or words 0 0 ≤ length w
      part_room = rw part nodes-room

      pub verdict-pass : get_or words (header_words + 3) 0 ≡ get_or words 0 0 → (x : Option (ℕ × Bool)) → x ≡ walked names w (get_or words 0 0) 0 0 (get_or words 2 0) true → answer (get_or words 2 0) x ≡ verdict_of words names
      verdict-pass c x h = rw (h, part) (sym (verdict-walked (get_or-drop header_words words 3 0 ∙ c)))

    -- a lone code
    pub verdict-code : get_or words 0 0 ≡ 1 → get_or words (header_words + 3) 0 ≡ get_or words 0 0 → get_or words header_words 0 < 24 → (x : Option (ℕ × Bool))
        → x ≡ cond (eqb (get_or words (header_words + 1) 0) 0 && eqb (get_or words (header_words + 2) 0) 0) (Some (0, true)) None
        → answer (get_or words 2 0) x ≡ verdict_of words names
    verdict-code n c k x h = verdict-pass (node_words words) refl c x (h ∙ sym code)
      where
        code : walked names (node_words words) (get_or words 0 0) 0 0 (get_or words 2 0) true ≡ cond (eqb (get_or words (header_words + 1) 0) 0 && eqb (get_or words (header_words + 2) 0) 0) (Some (0, true)) None
        code =
            ap (λ (m : ℕ). walked names (node_words words) m 0 0 (get_or words 2 0) true) n
            ∙ walked-code names (node_words words) 0 0 (get_or words 2 0) true (rw (get_or-drop header_words words 0 0) k) (get_or-drop header_words words 3 0 ∙ c ∙ n)
            ∙ ap₂ (λ (a b : ℕ). cond (eqb a 0 && eqb b 0) (Some (0, true)) None) (get_or-drop header_words words 1 0) (get_or-drop header_words words 2 0)
