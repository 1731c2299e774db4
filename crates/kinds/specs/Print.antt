-- 01's printed text (static_str.rs).
use Rattle.std.specs.Prelude.{ℕ, zero, suc, ◌+◌, ◌/◌, ◌%◌, true, false, List, [], ◌∷◌, ◌++◌, ltb}
use Rattle.kinds.specs.Byte.{byte, bytes}
use Rattle.kinds.specs.Primitive.{code}
use Rattle.kinds.specs.Tree.{Label, Trees, end, node, primitive, bit_field, typed_bit_field, pointer, atomic, array, struct, union, none, inside}
use Rattle.kinds.specs.declared.NestingLevel.{NestingLevel}
use Rattle.kinds.specs.declared.NestingLevel.TheVariants.{Top, Within, Bottom}

-- The decimal digits of `n` before `after`, by at most `fuel` divisions.
unfoldable pub digits : ℕ → ℕ → List ℕ → List ℕ
digits zero n after = after
digits (suc fuel) n after = elim (ltb n 10) [ true ↦ (byte "0" + n) ∷ after | false ↦ digits fuel (n / 10) ((byte "0" + n % 10) ∷ after) ]

-- A number in decimal without surplus zeros (`static_int_str_array`).
unfoldable pub decimal : ℕ → List ℕ
decimal n = digits (suc n) n []

-- `=` and the fields' text, where a container shows its fields.
unfoldable pub fields : NestingLevel → List ℕ → List ℕ
fields Top s = byte "=" ∷ s
fields Within s = byte "=" ∷ s
fields Bottom s = []

-- A node's text about the text `c` of its children.
unfoldable pub print_node : Label → NestingLevel → List ℕ → List ℕ
print_node (primitive p) v c = code p
print_node (bit_field n) v c = byte "b" ∷ decimal n
print_node (typed_bit_field o n) v c = byte "b" ∷ (decimal o ++ (c ++ decimal n))
print_node pointer v c = byte "^" ∷ c
print_node atomic v c = byte "A" ∷ c
print_node (array n) v c = byte "[" ∷ (decimal n ++ (c ++ bytes "]"))
print_node (struct s) v c = byte "{" ∷ (s ++ (fields v c ++ bytes "}"))
print_node (union s) v c = byte "(" ∷ (s ++ (fields v c ++ bytes ")"))
print_node none v c = []

-- The text of trees at a level (`static_encoding_str_array`).
unfoldable pub print : NestingLevel → Trees → List ℕ
print v end = []
print v (node l cs ts) = print_node l v (print (inside l v) cs) ++ print v ts
