-- The bound that the header gives a caller (include/berzhotun.h) under the name of its macro, and the two trees that reach it.
use Rattle.std.specs.Prelude.{ℕ, zero, suc, replicate}
use Rattle.kinds.specs.Byte.{byte}
use Rattle.kinds.specs.Tree.{Trees, end, node, pointer, struct}

-- BERZHOTUN_MAX_REASON: the most bytes of a reason.
abbrev pub max_reason : ℕ
max_reason = 8016

-- `n` pointers, each to the next, and the last to `t`.
unfoldable pub pointers_to : ℕ → Trees → Trees
pointers_to zero t = t
pointers_to (suc n) t = node pointer (pointers_to n t) end

-- `n` pointers to a struct without fields whose name is `m` times `b`.
unfoldable pub far_struct : ℕ → ℕ → ℕ → Trees
far_struct n m b = pointers_to n (node (struct (replicate m b)) end end)

-- As many nodes and name bytes as a sheet can hold, and the names differ.
abbrev pub most_pointers : ℕ
most_pointers = 2000

unfoldable pub farthest_r : Trees
farthest_r = far_struct most_pointers 2000 (byte "R")

unfoldable pub farthest_s : Trees
farthest_s = far_struct most_pointers 2000 (byte "S")
