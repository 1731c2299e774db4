-- The tree of a text (01, "Whole-text reading"; encoding_box.rs, `EncodingBox::from_str`).
use Rattle.std.specs.Prelude.{ℕ, List}
use Rattle.kinds.specs.Parse.{Whole, tree, refusal, from_str}
use Rattle.kinds.specs.Tree.{Trees, end, node}

-- What whole-text reading gave, as trees: one tree, or no tree for a refusal.
unfoldable pub trees : Whole → Trees
trees (tree l cs) = node l cs end
trees (refusal e place) = end

unfoldable pub read_tree : List ℕ → Trees
read_tree s = trees (from_str s)
