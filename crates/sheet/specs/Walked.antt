-- What one pass over the nodes of a sheet finds. `w` is the words from the first node on, and `at` a node's first word in it.
use Rattle.std.specs.Prelude.{ℕ, zero, suc, ◌+◌, ◌≤◌, ◌<◌, Bool, cond, ◌&&◌, List, ◌≡◌, leb, eqb, length, get_or}
use Rattle.kinds.specs.Sheet.{header_words, words_used, kind_at, first_at, second_at, count_at, label_at, numbers, next_name, arity, nests, is_sheet, tree_of}
use Rattle.kinds.specs.Sound.{good_name, good_names}
use Rattle.kinds.specs.declared.Refusal.TheVariants.{NotASheet, BadName}
use Rattle.std.specs.Prelude.{Option, Some, None, Result, Ok, Err}
use Rattle.kinds.specs.declared.Refusal.{Refusal}

-- The `n` nodes from `at` on, one after the other, each with the numbers that its kind takes: the place of the next name after them,
-- and whether their names are good. Before them these are `p` and `good`; the names end at `e`.
unfoldable pub in_order : List ℕ → List ℕ → ℕ → ℕ → ℕ → ℕ → Bool → Option (ℕ × Bool)
in_order names w zero at p e good = Some (p, good)
in_order names w (suc n) at p e good =
    cond (numbers (kind_at w at) (first_at w at) (second_at w at) p e)
    (in_order names w n (at + 4) (next_name (kind_at w at) (second_at w at) p) e (good && good_name (label_at names w at)))
    None

-- The same, where the nodes' counts must also nest.
unfoldable pub walked : List ℕ → List ℕ → ℕ → ℕ → ℕ → ℕ → Bool → Option (ℕ × Bool)
walked names w n at p e good = cond (nests w n at) (in_order names w n at p e good) None

-- A subtree of `c` nodes lies within the `n` nodes that are there, and its root of kind `k` has as many children as its kind takes;
-- the node after it has `d` nodes in its own.
unfoldable pub fits : ℕ → ℕ → ℕ → ℕ → Bool
fits n k c d = leb 1 c && (leb c n && arity k c d)

-- What is tested of the node at `at`, the first of `n`, before the nodes below it.
unfoldable pub node_fits : List ℕ → ℕ → ℕ → ℕ → ℕ → Bool
node_fits w n at p e = numbers (kind_at w at) (first_at w at) (second_at w at) p e && fits n (kind_at w at) (count_at w at) (count_at w (at + 4))

-- Refusals 3 and 4, or neither.
unfoldable pub verdict_of : List ℕ → List ℕ → Result (Unit {0}) Refusal
verdict_of words names = cond (is_sheet words names) (cond (good_names (tree_of words names)) (Ok tt) (Err BadName)) (Err NotASheet)

-- What a whole pass says of a sheet whose names end at `e`.
unfoldable pub answer : ℕ → Option (ℕ × Bool) → Result (Unit {0}) Refusal
answer e None = Err NotASheet
answer e (Some (p, good)) = cond (eqb p e) (cond good (Ok tt) (Err BadName)) (Err NotASheet)

-- The words of a sheet of one code.
pub record LoneCode (words : List ℕ) : Type 0 where
  pub room : words_used 1 ≤ length words
  pub nodes : get_or words 0 0 ≡ 1
  pub offset : get_or words 1 0 ≡ header_words
  pub names : get_or words 2 0 ≡ 0
  pub used : get_or words 3 0 ≡ words_used 1
  pub kind : get_or words header_words 0 < 24
  pub first : get_or words (header_words + 1) 0 ≡ 0
  pub second : get_or words (header_words + 2) 0 ≡ 0
  pub count : get_or words (header_words + 3) 0 ≡ 1
