-- GCC's bit-fields, complex types and long double are printed and read as GCC writes them.
use Prim.Native.Nat.{ℕ, ◌≤◌}
use mathlib.Core.Path.{◌≡◌, refl, sym, ap, ◌∙◌}
use mathlib.Core.List.{List, [], ◌∷◌, ◌++◌, append-nil}
use mathlib.Core.Bool.{true, false}
use lib.Dec.{ltb, eqb}
use borrow.Author.Tests.{le-leb}
use Rattle.kinds.specs.Byte.{byte, bytes, among}
use Rattle.kinds.specs.Name.{verify_name}
use Rattle.kinds.specs.Parse.{max_u64, max_u8}
use Rattle.kinds.specs.Primitive as K
use Rattle.kinds.specs.Primitive.{kind_of}
use Rattle.kinds.specs.Print as P
use Rattle.kinds.specs.Print.{print_node, print}
use Rattle.kinds.specs.Sound.{valid_label, valid_count, valid, good_name, good_names}
use Rattle.agreement.specs.Sound.{is_integral, is_none, without_none, unknown_next, after_children, clear_node, clear, sound}
use Rattle.kinds.specs.Tree.{Trees, end, node, primitive, bit_field, typed_bit_field, is_end, is_one, kind, keep, shown}
use Rattle.kinds.specs.declared.NestingLevel.TheVariants.{Top}
use Rattle.kinds.specs.declared.Primitive.TheVariants as Variant
use Rattle.agreement.specs.ReadTree.{read_tree}
use Rattle.agreement.proofs.Agreement.{reads-back}
use Rattle.agreement.proofs.RoundTrip.{integrals}
use Rattle.documents.specs.Decimal.{digits, decimal}
use Rattle.documents.specs.Gcc as C
use Rattle.documents.specs.Gcc.{Integral}
use Rattle.documents.specs.Translation.{one, typed, bit_field_tree, older_bit_field_tree, gcc_example, gcc_older_example, TextOf}
use Rattle.documents.proofs.DecimalLaws.{same-decimal}

-- A type's code is ours, and its kind is one that a bit-field may have.
typed-code : (t : Integral) → (K.code (kind_of (typed t)) ≡ C.code t ∷ []) × (ltb (kind_of (typed t)) 24 ≡ true) × (among (kind_of (typed t)) integrals ≡ true) × (eqb (kind_of (typed t)) 19 ≡ false)
unfolding K.code K.codes C.code among integrals
typed-code C.char = (refl, refl, refl, refl)
typed-code C.unsigned_char = (refl, refl, refl, refl)
typed-code C.short = (refl, refl, refl, refl)
typed-code C.unsigned_short = (refl, refl, refl, refl)
typed-code C.int = (refl, refl, refl, refl)
typed-code C.unsigned_int = (refl, refl, refl, refl)
typed-code C.long = (refl, refl, refl, refl)
typed-code C.unsigned_long = (refl, refl, refl, refl)
typed-code C.long_long = (refl, refl, refl, refl)
typed-code C.unsigned_long_long = (refl, refl, refl, refl)
typed-code C.bool = (refl, refl, refl, refl)

pub bit-field-print : (position : ℕ) (t : Integral) (size : ℕ) → print Top (bit_field_tree position t size) ≡ C.bit_field position t size
unfolding print print_node C.bit_field
bit-field-print position t size = rw ((typed-code t).0, same-decimal position, same-decimal size) (append-nil (byte "b" ∷ (decimal position ++ (C.code t ∷ decimal size))))

bit-field-sound : (position p size : ℕ) → ltb p 24 ≡ true → among p integrals ≡ true → eqb p 19 ≡ false → position ≤ max_u64 → size ≤ max_u8
    → sound (node (typed_bit_field position size) (node (primitive p) end end) end) ≡ true
unfolding sound is_one is_end valid valid_label valid_count good_names good_name clear clear_node is_integral after_children kind integrals
bit-field-sound position p size a b c h k = rw (le-leb position max_u64 h, le-leb size max_u8 k, a, b, c)

-- A sound tree without dropped fields is the text_of of its print.
text_of : (t : Trees) (text : List ℕ) → sound t ≡ true → shown Top t ≡ t → print Top t ≡ text → TextOf t text
text_of t text s h e = record { prints = e; reads = ap read_tree (sym e) ∙ reads-back t s ∙ h }

pub bit-field : (position : ℕ) (t : Integral) (size : ℕ) → position ≤ max_u64 → size ≤ max_u8 → TextOf (bit_field_tree position t size) (C.bit_field position t size)
unfolding shown keep
bit-field position t size h k =
    let c = typed-code t in
    text_of (bit_field_tree position t size) (C.bit_field position t size) (bit-field-sound position (kind_of (typed t)) size c.1 c.2 c.3 h k) refl (bit-field-print position t size)

older-sound : (size : ℕ) → size ≤ max_u8 → sound (older_bit_field_tree size) ≡ true
unfolding sound is_one is_end valid valid_label valid_count good_names good_name clear clear_node
older-sound size h = rw (le-leb size max_u8 h)

older-print : (size : ℕ) → print Top (older_bit_field_tree size) ≡ C.older_bit_field size
unfolding print print_node C.older_bit_field
older-print size = rw (same-decimal size) (append-nil (byte "b" ∷ decimal size))

pub older-bit-field : (size : ℕ) → size ≤ max_u8 → TextOf (older_bit_field_tree size) (C.older_bit_field size)
unfolding shown keep
older-bit-field size h = text_of (older_bit_field_tree size) (C.older_bit_field size) (older-sound size h) refl (older-print size)

pub examples : TextOf gcc_example C.example × TextOf gcc_older_example C.older_example
unfolding sound is_one is_end valid valid_label valid_count good_names good_name clear clear_node is_integral among after_children kind unknown_next without_none is_none verify_name
    shown keep print print_node P.fields K.code K.codes P.decimal P.digits C.example C.older_example C.bit_field C.older_bit_field C.code decimal digits
examples = (text_of gcc_example C.example refl refl refl, text_of gcc_older_example C.older_example refl refl refl)

pub complexes : TextOf (one Variant.FloatComplex) (C.complex (bytes "f")) × TextOf (one Variant.DoubleComplex) (C.complex (bytes "d"))
    × TextOf (one Variant.LongDoubleComplex) (C.complex C.long_double) × TextOf (one Variant.LongDouble) C.long_double
unfolding sound is_one is_end valid valid_label valid_count good_names good_name clear clear_node shown keep print print_node K.code K.codes C.complex C.long_double
complexes = (
  text_of (one Variant.FloatComplex) (C.complex (bytes "f")) refl refl refl,
  text_of (one Variant.DoubleComplex) (C.complex (bytes "d")) refl refl refl,
  text_of (one Variant.LongDoubleComplex) (C.complex C.long_double) refl refl refl,
  text_of (one Variant.LongDouble) C.long_double refl refl refl,
)
