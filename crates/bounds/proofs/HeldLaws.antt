-- What two lists hold, and the layout of a tree.
use Prim.Native.Nat.{ℕ, ◌≤◌}
use mathlib.Core.Path.{◌≡◌, refl, sym, ap, ◌∙◌}
use native.Mathlib.Omega.{arith}
use mathlib.Core.Bool.{Bool, true, false, cond}
use mathlib.Core.List.{List, ◌++◌, append-nil}
use mathlib.Core.Logic.{◌⊎◌, inl, inr}
use lib.ListN.{length, drop}
use lib.Seq.{drop-length}
use Rattle.kinds.specs.Sheet.{Holds, is_sheet, tree_of, names_of, sheet_of, max_nodes, max_names}
use Rattle.kinds.specs.Sound.{valid, good_names}
use Rattle.kinds.specs.Tree.{Trees, is_one, count}
use Rattle.kinds.specs.declared.Refusal.{Refusal}
use Rattle.kinds.specs.declared.Refusal.TheVariants.{NotASheet, BadName}
use Rattle.kinds.proofs.HoldsLaws.{test-holds, holds_test, holds-tree, sheet-length}
use Rattle.sheet.specs.Answer.{held, refused, holding}
use Rattle.sheet.proofs.GivenLaws.{held-says, held-tree}

-- What holds no tree is refused by 3 or 4.
pub held-refused : (words names : List ℕ) {r : Refusal} → held words names ≡ refused r → (r ≡ NotASheet) ⊎ (r ≡ BadName)
unfolding held
held-refused words names {r} e = go (is_sheet words names) (good_names (tree_of words names)) e
  where
    go : (x y : Bool) → cond x (cond y (holding (tree_of words names)) (refused BadName)) (refused NotASheet) ≡ refused r → (r ≡ NotASheet) ⊎ (r ≡ BadName)
    go true true h = let z : ◌≡◌ {A = ℕ} 0 1 = cc in absurd (omega arith)
    go true false h = inr (cc)
    go false y h = inl (cc)

-- The lists begin with the layout of what they hold.
pub held-holds : (words names : List ℕ) (t : Trees) → held words names ≡ holding t → Holds words names t
held-holds words names t e = let h = held-says words names e in rw h.tree at (test-holds words names h.sheet)

-- They hold a tree whose layout they begin with, if its names are good.
pub holds-held : (words names : List ℕ) (t : Trees) → Holds words names t → good_names t ≡ true → held words names ≡ holding t
holds-held words names t h g =
    let e = holds-tree words names t h in
    held-tree words names (holds_test words names t h) (rw e g) ∙ ap holding e

alone : (xs : List ℕ) (n : ℕ) → length xs ≡ n → xs ≡ xs ++ drop n xs
alone xs n e = sym (append-nil xs) ∙ ap (λ (z : List ℕ). xs ++ z) (sym (drop-length xs) ∙ ap (λ (k : ℕ). drop k xs) e)

-- The layout of a tree alone.
pub layout-holds : (t : Trees) → is_one t ≡ true → valid t ≡ true → count t ≤ max_nodes → length (names_of t) ≤ max_names → Holds (sheet_of t) (names_of t) t
layout-holds t o v c n = record {
  one = o;
  valid-tree = v;
  few-nodes = c;
  few-names = n;
  words_are = alone (sheet_of t) _ (sheet-length t);
  names-are = alone (names_of t) (length (names_of t)) refl;
}
