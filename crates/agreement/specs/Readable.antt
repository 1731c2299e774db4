-- What a text can be read as (01, "A text of L bytes makes at most L + 1 nodes").
use Rattle.std.specs.Prelude.{ℕ, ◌+◌, ◌≤◌, ◌≡◌, true, length}
use Rattle.kinds.specs.Sheet.{names_of}
use Rattle.kinds.specs.Sound.{valid, good_names}
use Rattle.kinds.specs.Tree.{Trees, is_one, count}

-- One valid tree without bad names that a text of `n` bytes has room for.
pub record Readable (n : ℕ) (t : Trees) : Type 0 where
  pub one : is_one t ≡ true
  pub valid-tree : valid t ≡ true
  pub good-names : good_names t ≡ true
  pub few-nodes : count t ≤ n + 1
  pub few-names : length (names_of t) ≤ n
