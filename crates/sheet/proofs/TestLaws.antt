-- What a branch on `!f(..)` says of the test that `f` ensures to make.
use mathlib.Core.Path.{◌≡◌, sym, ◌∙◌}
use mathlib.Core.Bool.{Bool, true, false, not}
use borrow.Author.Tests.{not-true, not-false}

module _ {r test : Bool} (ensures : r ≡ test) where
  pub failed : not r ≡ true → test ≡ false
  failed taken = sym ensures ∙ not-true r taken

  pub passed : not r ≡ false → test ≡ true
  passed left = sym ensures ∙ not-false r left
