-- What is read of the print of a tree.
use Rattle.std.specs.Prelude.{◌≡◌}
use Rattle.kinds.specs.Parse.{tree, from_str}
use Rattle.kinds.specs.Print.{print}
use Rattle.kinds.specs.Strict.{from_str_strict}
use Rattle.kinds.specs.Tree.{Label, Trees, end, node, shown}
use Rattle.kinds.specs.declared.NestingLevel.TheVariants.{Top}

-- Strict and whole-text reading both give the tree's shown part.
pub record PrintRead (t : Trees) : Type 0 where
  pub label : Label
  pub children : Trees
  pub shown-part : shown Top t ≡ node label children end
  pub whole : from_str (print Top t) ≡ tree label children
  pub strict : from_str_strict (print Top t) ≡ tree label children
  pub alike : from_str_strict (print Top t) ≡ from_str (print Top t)
