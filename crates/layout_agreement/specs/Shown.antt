-- What two trees with equal shown parts (01's term) have in common of their layouts: the numbers of the shown nodes.
use Rattle.std.specs.Prelude.{ℕ, zero, suc, ◌+◌, cond, List, [], ◌∷◌, ◌++◌, get_or, take, drop}
use Rattle.std.specs.Prelude.{Option, Some, None}
use Rattle.kinds.specs.Tree.{Trees, end, node, count, inside, shows}
use Rattle.kinds.specs.declared.NestingLevel.{NestingLevel}
use Rattle.kinds.specs.declared.NestingLevel.TheVariants.{Top}

-- Of one number for each node of the trees, those of the shown nodes.
unfoldable pub shown_only : NestingLevel → Trees → List ℕ → List ℕ
shown_only v end ns = []
shown_only v (node l cs ts) ns = get_or ns 0 0 ∷ (cond (shows l v) (shown_only (inside l v) cs (take (count cs) (drop 1 ns))) [] ++ shown_only v ts (drop (suc (count cs)) ns))

-- `n` numbers from `i` on.
unfoldable pub up_from : ℕ → ℕ → List ℕ
up_from i zero = []
up_from i (suc n) = i ∷ up_from (i + 1) n

-- The numbers that the shown nodes have among all nodes: the node that is number k of the shown part stands at place k of this list.
abbrev pub shown_numbers : Trees → List ℕ
shown_numbers t = shown_only Top t (up_from 0 (count t))

-- The number that stands at a place, if there is one.
abbrev pub number_in : List ℕ → Option ℕ → Option ℕ
number_in ns None = None
number_in ns (Some k) = Some (get_or ns k 0)
