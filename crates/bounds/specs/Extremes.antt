-- The tree that prints the most bytes, and texts that fill every word that reading needs.
use Rattle.std.specs.Prelude.{ℕ, zero, suc, List, replicate}
use Rattle.kinds.specs.Byte.{byte}
use Rattle.kinds.specs.Parse.{max_u64, max_u8}
use Rattle.kinds.specs.Tree.{Trees, end, node, typed_bit_field, struct}

-- `n` bitfields with type, each around the next, and the last around `t`; their numbers have the most digits.
unfoldable pub bit_fields : ℕ → Trees → Trees
bit_fields zero t = t
bit_fields (suc n) t = node (typed_bit_field max_u64 max_u8) (bit_fields n t) end

-- `n` bitfields with type around an empty struct with a name of `m` bytes.
unfoldable pub named : ℕ → ℕ → Trees
named n m = bit_fields n (node (struct (replicate m (byte "R"))) end end)

-- As many bitfields as leave a node for the struct, and as many name bytes as a sheet can hold.
abbrev pub most_bit_fields : ℕ
most_bit_fields = 2000

unfoldable pub longest : Trees
longest = named most_bit_fields 2000

-- A text of `l` pointers.
unfoldable pub pointers : ℕ → List ℕ
pointers l = replicate l (byte "^")
