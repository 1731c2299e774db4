-- What putting a node or the header leaves, where there is room and where there is none.
use Prim.Native.Nat.{ℕ, ◌+◌, ◌*◌, ◌≤◌, ◌<◌}
use mathlib.Core.Path.{◌≡◌}
use mathlib.Core.List.{List}
use borrow.Author.Tests.{le-leb, lt-leb}
use lib.ListN.{length}
use lib.Seq.{sets}
use Rattle.kinds.specs.Sheet.{words_used, header_for}
use Rattle.sheet.specs.Put.{put_node, put_header}

module _ (n : ℕ) (node w : List ℕ) where
  pub node-put : 4 * n + 4 ≤ length w → put_node n node w ≡ sets w (4 * n) node
  unfolding put_node
  node-put h = rw (le-leb (4 * n + 4) (length w) h)

  pub node_kept : length w < 4 * n + 4 → put_node n node w ≡ w
  unfolding put_node
  node_kept h = rw (lt-leb (4 * n + 4) (length w) h)

module _ (k l : ℕ) (w : List ℕ) where
  pub header-put : words_used k ≤ length w → put_header k l w ≡ sets w 0 (header_for k l)
  unfolding put_header
  header-put h = rw (le-leb (words_used k) (length w) h)

  pub header-kept : length w < words_used k → put_header k l w ≡ w
  unfolding put_header
  header-kept h = rw (lt-leb (words_used k) (length w) h)
