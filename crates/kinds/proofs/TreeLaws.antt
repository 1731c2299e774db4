-- Laws of shown parts.
use mathlib.Core.Path.{◌≡◌, refl}
use Rattle.kinds.specs.Tree.{Trees, end, node, is_end, shown}
use Rattle.kinds.specs.declared.NestingLevel.{NestingLevel}

-- Whether there are any trees does not depend on what is shown.
pub end-shown : (v : NestingLevel) (ts : Trees) → is_end (shown v ts) ≡ is_end ts
unfolding is_end shown
end-shown v end = refl
end-shown v (node l cs ts) = refl
