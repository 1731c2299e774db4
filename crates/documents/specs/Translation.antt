-- The documents' types as our trees: what the theorems on them compare. Only this file names both.
use Rattle.std.specs.Prelude.{ℕ, zero, ◌-◌, ◌^◌, ◌≡◌, Bool, true, false, ◌&&◌, not, List, [], ◌∷◌, ◌⊎◌, leb, eqb}
use Rattle.kinds.specs.Byte.{byte, bytes}
use Rattle.kinds.specs.Primitive.{kind_of}
use Rattle.kinds.specs.Print.{print}
use Rattle.agreement.specs.Sound.{unknown_next}
use Rattle.kinds.specs.Tree as T
use Rattle.kinds.specs.Tree.{Label, Trees, end, node, primitive}
use Rattle.kinds.specs.declared.Primitive.{Primitive}
use Rattle.kinds.specs.declared.Primitive.TheVariants as P
use Rattle.kinds.specs.declared.NestingLevel.TheVariants.{Top}
use Rattle.agreement.specs.ReadTree.{read_tree}
use Rattle.documents.specs.Guide as G
use Rattle.documents.specs.Guide.{Meaning, Types}
use Rattle.documents.specs.Gcc as C
use Rattle.documents.specs.Gcc.{Integral}

-- The crate's primitive for what a code of the guide means.
abbrev pub meant : Meaning → Primitive
meant G.char = P.Char
meant G.int = P.Int
meant G.short = P.Short
meant G.long = P.Long
meant G.long_long = P.LongLong
meant G.unsigned_char = P.UChar
meant G.unsigned_int = P.UInt
meant G.unsigned_short = P.UShort
meant G.unsigned_long = P.ULong
meant G.unsigned_long_long = P.ULongLong
meant G.float = P.Float
meant G.double = P.Double
meant G.bool = P.Bool
meant G.void = P.Void
meant G.string = P.String
meant G.object = P.Object
meant G.class = P.Class
meant G.selector = P.Sel
meant G.unknown = P.Unknown

abbrev pub label : Meaning → Label
label m = primitive (kind_of (meant m))

-- A primitive as a tree.
abbrev pub one : Primitive → Trees
one p = node (primitive (kind_of p)) end end

-- The guide's types as trees.
unfoldable pub trees : Types → Trees
trees G.none = end
trees (G.simple m ts) = node (label m) end (trees ts)
trees (G.long_double ts) = node (primitive (kind_of P.LongDouble)) end (trees ts)
trees (G.array count t ts) = node (T.array count) (trees t) (trees ts)
trees (G.structure s fs ts) = node (T.struct s) (trees fs) (trees ts)
trees (G.union s fs ts) = node (T.union s) (trees fs) (trees ts)
trees (G.bit_field num ts) = node (T.bit_field num) end (trees ts)
trees (G.pointer t ts) = node T.pointer (trees t) (trees ts)

-- No long double is among the types: the guide writes `d` for it and the crate `D`.
unfoldable pub without_long_double : Types → Bool
without_long_double G.none = true
without_long_double (G.simple m ts) = without_long_double ts
without_long_double (G.long_double ts) = false
without_long_double (G.array count t ts) = without_long_double t && without_long_double ts
without_long_double (G.structure s fs ts) = without_long_double fs && without_long_double ts
without_long_double (G.union s fs ts) = without_long_double fs && without_long_double ts
without_long_double (G.bit_field num ts) = without_long_double ts
without_long_double (G.pointer t ts) = without_long_double t && without_long_double ts

-- Counts fit in 64 bits, and those of bits in 8. The guide has no such limits; the crate refuses others (11).
unfoldable pub counts_fit : Types → Bool
counts_fit G.none = true
counts_fit (G.simple m ts) = counts_fit ts
counts_fit (G.long_double ts) = counts_fit ts
counts_fit (G.array count t ts) = leb count (2 ^ 64 - 1) && (counts_fit t && counts_fit ts)
counts_fit (G.structure s fs ts) = counts_fit fs && counts_fit ts
counts_fit (G.union s fs ts) = counts_fit fs && counts_fit ts
counts_fit (G.bit_field num ts) = leb num 255 && counts_fit ts
counts_fit (G.pointer t ts) = counts_fit t && counts_fit ts

-- No `?` stands directly after an `@`. The guide has no blocks: there `@?` is an object and then an unknown type, in the crate it is a block.
unfoldable pub without_block : List ℕ → Bool
without_block [] = true
without_block (b ∷ s) = not (eqb b (byte "@") && unknown_next s) && without_block s

-- The crate's primitive for the type of a bit-field of GCC's.
abbrev pub typed : Integral → Primitive
typed C.char = P.Char
typed C.unsigned_char = P.UChar
typed C.short = P.Short
typed C.unsigned_short = P.UShort
typed C.int = P.Int
typed C.unsigned_int = P.UInt
typed C.long = P.Long
typed C.unsigned_long = P.ULong
typed C.long_long = P.LongLong
typed C.unsigned_long_long = P.ULongLong
typed C.bool = P.Bool

-- GCC's bit-field as a tree, and the older form.
abbrev pub bit_field_tree : ℕ → Integral → ℕ → Trees
bit_field_tree position type size = node (T.typed_bit_field position size) (one (typed type)) end

abbrev pub older_bit_field_tree : ℕ → Trees
older_bit_field_tree size = node (T.bit_field size) end end

-- GCC's worked example as a tree, its two bit-fields given with the field after them.
abbrev pub example_tree : (Trees → Trees) → Trees
example_tree bit_fields =
    node (T.struct (bytes "?"))
    (node (primitive (kind_of P.Int)) end
    (node (T.array 3) (one P.Float)
    (bit_fields (one P.Char))))
    end

abbrev pub gcc_example : Trees
gcc_example = example_tree (λ after. node (T.typed_bit_field 128 3) (one P.Int) (node (T.typed_bit_field 131 2) (one P.Int) after))

abbrev pub gcc_older_example : Trees
gcc_older_example = example_tree (λ after. node (T.bit_field 3) end (node (T.bit_field 2) end after))

-- ---- What the theorems say.

-- The byte is a code of the guide's and the primitive `p` is what it means; or the byte is `D`, which the guide does not have.
abbrev pub MeantBy : ℕ → ℕ → Type 0
MeantBy b p = ((m : Meaning) × (b ≡ G.code m) × (primitive p ≡ label m)) ⊎ (b ≡ byte "D")

-- The text is the guide's encoding of the type `t`, our print of its tree, and what we read as the tree of `u`.
pub record GuideText (t u : Types) (text : List ℕ) : Type 0 where
  pub encodes : G.encode zero t ≡ text
  pub prints : print Top (trees t) ≡ text
  pub reads : read_tree text ≡ trees u

-- The tree prints the text, and the text is read as the tree.
pub record TextOf (t : Trees) (text : List ℕ) : Type 0 where
  pub prints : print Top t ≡ text
  pub reads : read_tree text ≡ t
