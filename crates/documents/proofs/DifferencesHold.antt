-- The rows of the differences hold, each by computation.
use mathlib.Core.Path.{refl}
use Rattle.kinds.specs.Byte.{among, is_digit}
use Rattle.kinds.specs.Compare.{length_or_offset, bits, compare_labels, compare_children, compare_encodings, equivalent_to}
use Rattle.kinds.specs.Name.{is_name_byte, all_name_bytes, verify_name}
use Rattle.kinds.specs.Parse.{more_digits, bounded, parse_number, singles, others, in_others, in_singles, start, leaf, parse_complex, parse_quoted, parse_object, integral, single_kind}
use Rattle.kinds.specs.Parse.{typed, untyped, parse_bit_field, parse_bits, check_name, parse_name, held, close_item, item, contained, add_item, begin, next_item, parse_inner, parse_items}
use Rattle.kinds.specs.Parse.{parse, qualifiers, is_qualifier, strip_leading_qualifiers, encoding_or_none, parse_encoding_or_none, whole, from_str}
use Rattle.kinds.specs.Primitive.{is_object, equivalent, codes, code, primitive_size}
use Rattle.kinds.specs.Print.{digits, decimal, fields, print_node, print}
use Rattle.kinds.specs.Size.{only, node_size, sizes, size}
use Rattle.kinds.specs.Tree.{kind}
use Rattle.agreement.specs.ReadTree as A
use Rattle.agreement.specs.ReadTree.{read_tree}
use Rattle.agreement.proofs.ByteLaws.{◌also◌}
use Rattle.documents.specs.Decimal as D
use Rattle.documents.specs.Differences.{refused_with, AllHold, AllRefused, guide_differences, gcc_differences, clang_differences}
use Rattle.documents.specs.Gcc as C
use Rattle.documents.specs.Guide as G
use Rattle.documents.specs.Translation as T

pub guide-rows : AllHold guide_differences
unfolding guide_differences refused_with A.trees read_tree T.trees among is_digit is_name_byte all_name_bytes verify_name more_digits bounded parse_number singles others in_others
    in_singles start leaf parse_complex parse_quoted parse_object integral single_kind typed untyped parse_bit_field parse_bits check_name parse_name held close_item item contained
    add_item begin next_item parse_inner parse_items parse qualifiers is_qualifier strip_leading_qualifiers encoding_or_none parse_encoding_or_none whole from_str codes code
    primitive_size digits decimal fields print_node print only node_size sizes size G.code G.table G.begins G.letter G.letters G.fields G.encode G.is_none
    G.is_one G.is_letter G.is_word G.is_name G.without_record G.defined G.is_type D.digits D.decimal
guide-rows =
    (refl, refl, refl) also (refl, refl, refl) also (refl, refl, refl) also (refl, refl, refl) also (refl, refl, refl)
    also (refl, refl, refl) also (refl, refl, refl) also refl
    also (refl, refl, refl) also (refl, refl, refl) also (refl, refl, refl)
    also (refl, refl, refl, refl)
    also (refl, refl, refl) also (refl, refl, refl) also (refl, refl, refl) also (refl, refl, refl)
    also (refl, refl, refl) also (refl, refl, refl) also (refl, refl, refl) also (refl, refl, refl)
    also refl also (refl, refl, refl) also (refl, refl, refl) also (refl, refl)
    also tt

pub gcc-rows : AllHold gcc_differences
unfolding gcc_differences refused_with among is_digit is_name_byte all_name_bytes verify_name more_digits bounded parse_number singles others in_others in_singles start leaf
    parse_complex parse_quoted parse_object integral single_kind typed untyped parse_bit_field parse_bits check_name parse_name held close_item item contained add_item begin next_item
    parse_inner parse_items parse qualifiers is_qualifier strip_leading_qualifiers encoding_or_none parse_encoding_or_none whole from_str C.vector C.wide_code C.wide_bit_field C.complex
    C.code C.bit_field C.older_bit_field D.digits D.decimal A.trees read_tree length_or_offset bits compare_labels compare_children compare_encodings equivalent_to is_object equivalent kind
gcc-rows = (refl, refl) also (refl, refl) also (refl, refl) also (refl, refl) also (refl, refl) also (refl, refl) also (refl, refl) also (refl, refl) also tt

pub clang-rows : AllRefused clang_differences
unfolding clang_differences refused_with among is_digit is_name_byte all_name_bytes verify_name more_digits bounded parse_number singles others in_others in_singles start leaf
    parse_complex parse_quoted parse_object integral single_kind typed untyped parse_bit_field parse_bits check_name parse_name held close_item item contained add_item begin next_item
    parse_inner parse_items parse qualifiers is_qualifier strip_leading_qualifiers encoding_or_none parse_encoding_or_none whole from_str
clang-rows = refl also refl also refl also tt
