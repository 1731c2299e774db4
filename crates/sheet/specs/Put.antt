-- Putting a node and the header into the words of a sheet (01, "The sheet"). What does not fit is not put.
use Rattle.std.specs.Prelude.{ℕ, ◌+◌, ◌*◌, cond, List, leb, length}
use Rattle.std.proofs.lemmas.List.Edits.{sets}
use Rattle.kinds.specs.Sheet.{words_used, header_for}

-- Node `n` of the words `w` from the first node on.
unfoldable pub put_node : ℕ → List ℕ → List ℕ → List ℕ
put_node n node w = cond (leb (4 * n + 4) (length w)) (sets w (4 * n) node) w

-- The header of a sheet with `k` nodes and `l` name bytes.
unfoldable pub put_header : ℕ → ℕ → List ℕ → List ℕ
put_header k l w = cond (leb (words_used k) (length w)) (sets w 0 (header_for k l)) w
