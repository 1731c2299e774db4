-- What a walk over the node words of a sheet may rely on. `w` is the words from the first node on, and `at` a node's first word in it.
use Rattle.std.specs.Prelude.{ℕ, ◌+◌, ◌*◌, ◌≤◌, ◌<◌, true, List, ◌≡◌, length}
use Rattle.kinds.specs.Sheet.{kind_at, first_at, second_at, count_at, is_container_kind, nests}

-- A whole subtree stands at `at`.
pub record NodeAt (w : List ℕ) (at : ℕ) : Type 0 where
  pub some-node : 1 ≤ count_at w at
  pub room : at + 4 * count_at w at ≤ length w
  pub nested : nests w (count_at w at) at ≡ true

-- `n` nodes of whole trees stand from `at` on.
pub record TreesAt (w : List ℕ) (at n : ℕ) : Type 0 where
  pub room : at + 4 * n ≤ length w
  pub nested : nests w n at ≡ true

-- The node at `at` has a kind, and if it is a container its name lies within the first `m` name bytes.
pub record KindAndName (w : List ℕ) (m at : ℕ) : Type 0 where
  pub kind : kind_at w at ≤ 31
  pub name : is_container_kind (kind_at w at) ≡ true → first_at w at + second_at w at ≤ m

-- So has each of the `n` nodes from `at` on.
abbrev pub KindsAndNames : List ℕ → ℕ → ℕ → ℕ → Type 0
KindsAndNames w m at n = (i : ℕ) → i < n → KindAndName w m (at + 4 * i)
