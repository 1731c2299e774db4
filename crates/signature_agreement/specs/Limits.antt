-- The bounds that the header gives a caller for signatures (include/berzhotun.h), each under the name of its macro; and the signature that reaches them.
use Rattle.std.specs.Prelude.{ℕ, zero, suc, ◌*◌, ◌/◌, List, [], ◌∷◌}
use Rattle.kinds.specs.Primitive.{kind_of}
use Rattle.kinds.specs.Tree.{end, node, primitive}
use Rattle.kinds.specs.declared.Primitive.TheVariants.{Int}
use Rattle.signature_agreement.specs.Written.{Item}

-- BERZHOTUN_SIGNATURE_FOR: the numbers that reading a signature of `l` bytes needs.
abbrev pub signature_for : ℕ → ℕ
signature_for l = 3 * (l / 2)

-- BERZHOTUN_MAX_SIGNATURE: the most of them.
abbrev pub max_signature : ℕ
max_signature = 3000

-- `i0`, so many times.
unfoldable pub ints : ℕ → List Item
ints zero = []
ints (suc m) = (node (primitive (kind_of Int)) end end, 0) ∷ ints m
