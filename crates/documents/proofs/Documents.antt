-- How our reading and printing agree with the two public documents, and the sizes of row 3 with the guide: the statements, over the definitions written from them
-- (specs/Guide.antt, specs/Gcc.antt) and those of kinds. specs/Translation.antt says which of our trees a document's type is.
use Prim.Native.Nat.{ℕ, zero, ◌*◌, ◌≤◌, ◌<◌}
use mathlib.Core.Path.{◌≡◌, refl}
use mathlib.Core.Bool.{true}
use mathlib.Core.List.{List, [], ◌∷◌, ◌++◌, map}
use mathlib.Core.Logic.{◌↔◌}
use Rattle.std.specs.Prelude.{Some, None}
use Rattle.kinds.specs.Byte.{byte, bytes, among}
use Rattle.kinds.specs.Parse.{max_u64, max_u8, qualifiers, is_qualifier, strip_leading_qualifiers}
use Rattle.kinds.specs.Primitive.{widths}
use Rattle.kinds.specs.Print.{print}
use Rattle.kinds.specs.Size.{size}
use Rattle.kinds.specs.Tree.{Trees, end, node, primitive, pointer, struct, shown}
use Rattle.kinds.specs.declared.NestingLevel.TheVariants.{Top, Within}
use Rattle.kinds.specs.declared.Primitive.{Primitive}
use Rattle.kinds.specs.declared.Primitive.TheVariants.{FloatComplex, DoubleComplex, LongDoubleComplex, LongDouble}
use Rattle.agreement.specs.ReadTree.{read_tree}
use Rattle.documents.specs.Decimal.{digits, decimal}
use Rattle.documents.specs.Differences.{AllHold, AllRefused, guide_differences, gcc_differences, clang_differences}
use Rattle.documents.specs.Gcc as C
use Rattle.documents.specs.Gcc.{Integral, complex, long_double}
use Rattle.documents.specs.Guide.{Meaning, long, Types, Qualifier, code, table, bits, letter, letters, qualifier_table, encode, is_type, pointer_to, example, example_name, twelve_pointers, root_object}
use Rattle.documents.specs.Translation.{meant, one, label, trees, without_long_double, counts_fit, without_block, MeantBy, GuideText, TextOf, bit_field_tree, older_bit_field_tree, gcc_example, gcc_older_example}
use Rattle.documents.proofs.DifferencesHold.{guide-rows, gcc-rows, clang-rows}
use Rattle.documents.proofs.GccLaws.{bit-field, older-bit-field, examples, complexes}
use Rattle.documents.proofs.GuideCodes.{code-print, code_read, alone, type-read}
use Rattle.documents.proofs.GuideExamples.{one_pointer, two-pointers, example-texts, other-texts}
use Rattle.documents.proofs.GuidePrint.{type-print}
use Rattle.documents.proofs.GuideWidths.{one-stated, stated-width, other_width}
use Rattle.documents.proofs.GuideQualifiers.{qualifier-letter, letters-dropped, other-kept, qualified-read}

-- ---- The guide's codes and types.

-- The table's codes of one byte stand in the guide's order.
pub guide-order : map (λ r. r.0) table ≡ bytes "cislqCISLQfdBv*@#:?"
unfolding table code
guide-order = refl

-- Each code is read as what it means, and that prints as the code.
pub guide-codes : (m : Meaning) → TextOf (node (label m) end end) (code m ∷ [])
guide-codes m = record { prints = code-print m; reads = code_read m }

-- A byte that is read alone as a primitive is a code of the guide's with that meaning, or `D`.
pub guide-codes-only : (b p : ℕ) → b < 256 → read_tree (b ∷ []) ≡ node (primitive p) end end → MeantBy b p
guide-codes-only = alone

-- A type that the guide defines prints as the guide encodes it, unless a long double is in it.
pub guide-prints : (t : Types) → is_type t ≡ true → without_long_double t ≡ true → print Top (trees t) ≡ encode zero t
guide-prints = type-print

-- Its encoding is read as the type's tree without the dropped fields, if its counts are such as the crate reads, unless an unknown type stands
-- directly after an object.
pub guide-reads : (t : Types) → is_type t ≡ true → without_long_double t ≡ true → counts_fit t ≡ true → without_block (encode zero t) ≡ true
    → read_tree (encode zero t) ≡ shown Top (trees t)
guide-reads = type-read

-- ---- The guide's widths.

-- The guide states one width, that of a long.
pub guide-bits : (m : Meaning) (n : ℕ) → (bits m ≡ Some n) ↔ ((m ≡ long) × (n ≡ 32))
guide-bits = one-stated

-- Row 3 gives each code for which the guide states a width that width: 8 times its bytes are the bits.
pub guide-width : (m : Meaning) (n : ℕ) → bits m ≡ Some n → (b : ℕ) × (size (widths 3) (one (meant m)) ≡ Some b) × (8 * b ≡ n)
guide-width = stated-width

-- It gives each other code, the crate's own included, what row 0 gives.
pub guide-width-only : (p : Primitive) → ((m : Meaning) → p ≡ meant m → bits m ≡ None) → size (widths 3) (one p) ≡ size (widths 0) (one p)
guide-width-only = other_width

-- ---- The guide's qualifiers.

-- The bytes that are dropped are the letters of the guide's table and no others.
pub guide-qualifiers : (b : ℕ) → (is_qualifier b ≡ true) ↔ ((q : Qualifier) × (b ≡ letter q))
guide-qualifiers = qualifier-letter

-- Qualifiers at the start are dropped, whatever follows them.
pub guide-qualifiers-dropped : (qs : List Qualifier) (s : List ℕ) → strip_leading_qualifiers (letters qs ++ s) ≡ strip_leading_qualifiers s
guide-qualifiers-dropped = letters-dropped

-- What begins with another byte is left whole.
pub guide-qualifiers-only : (qs : List Qualifier) (b : ℕ) (s : List ℕ) → ((q : Qualifier) → b ≡ letter q → ⊥) → strip_leading_qualifiers (letters qs ++ (b ∷ s)) ≡ b ∷ s
guide-qualifiers-only = other-kept

-- A text with qualifiers before it is read as the text.
pub guide-qualified : (qs : List Qualifier) (s : List ℕ) → read_tree (letters qs ++ s) ≡ read_tree s
guide-qualified = qualified-read

-- GCC's type specifiers are the same seven letters, in the same order, and are the bytes that are dropped.
pub gcc-specifiers : C.specifiers ≡ letters qualifier_table
unfolding C.specifiers letters letter
gcc-specifiers = refl

pub gcc-specifiers-dropped : (b : ℕ) → is_qualifier b ≡ among b C.specifiers
unfolding C.specifiers is_qualifier qualifiers
gcc-specifiers-dropped b = refl

-- ---- The guide's dropped fields.

-- A pointer to a struct keeps the fields, whatever its name and fields are.
pub guide-kept-fields : (s : List ℕ) (fs : Trees) → print Top (node pointer (node (struct s) fs end) end) ≡ bytes "^{" ++ (s ++ ((byte "=" ∷ print Within fs) ++ bytes "}"))
guide-kept-fields = one_pointer

-- A pointer to a pointer to a struct drops them.
pub guide-dropped-fields : (s : List ℕ) (fs : Trees) → print Top (node pointer (node pointer (node (struct s) fs end) end) end) ≡ bytes "^^{" ++ (s ++ bytes "}")
guide-dropped-fields = two-pointers

-- The guide's struct `example`, behind no pointer, one and two.
pub guide-example : GuideText example example (bytes "{example=@*i}")
    × GuideText (pointer_to example) (pointer_to example) (bytes "^{example=@*i}")
    × GuideText (pointer_to (pointer_to example)) (pointer_to (pointer_to example_name)) (bytes "^^{example}")
guide-example = example-texts

-- The guide's array of twelve pointers to float, and its object.
pub guide-array-and-object : GuideText twelve_pointers twelve_pointers (bytes "[12^f]") × GuideText root_object root_object (bytes "{NSObject=#}")
guide-array-and-object = other-texts

-- ---- GCC's bit-fields, complex types and long double.

-- A bit-field with its position and type is printed as GCC writes it, and read back.
pub gcc-bitfield : (position : ℕ) (t : Integral) (size : ℕ) → position ≤ max_u64 → size ≤ max_u8 → TextOf (bit_field_tree position t size) (C.bit_field position t size)
gcc-bitfield = bit-field

-- The same for the older form.
pub gcc-older-bitfield : (size : ℕ) → size ≤ max_u8 → TextOf (older_bit_field_tree size) (C.older_bit_field size)
gcc-older-bitfield = older-bit-field

-- GCC's worked example, in both forms.
pub gcc-example-text : (C.example ≡ bytes "{?=i[3f]b128i3b131i2c}") × (C.older_example ≡ bytes "{?=i[3f]b3b2c}")
unfolding C.example C.older_example C.bit_field C.older_bit_field C.code decimal digits
gcc-example-text = (refl, refl)

pub gcc-example : TextOf gcc_example C.example × TextOf gcc_older_example C.older_example
gcc-example = examples

-- Complex types and long double.
pub gcc-complex : TextOf (one FloatComplex) (complex (bytes "f")) × TextOf (one DoubleComplex) (complex (bytes "d")) × TextOf (one LongDoubleComplex) (complex long_double) × TextOf (one LongDouble) long_double
gcc-complex = complexes

-- ---- Where the crate parts from the documents.

-- Each difference from the guide and from GCC's manual, with the document's side where it has one, and from clang's texts.
pub guide-differences : AllHold guide_differences
guide-differences = guide-rows

pub gcc-differences : AllHold gcc_differences
gcc-differences = gcc-rows

pub clang-differences : AllRefused clang_differences
clang-differences = clang-rows
