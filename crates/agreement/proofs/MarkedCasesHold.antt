-- The table of marked cases holds, row by row, by computation.
use mathlib.Core.Path.{refl}
use Rattle.kinds.specs.Byte.{among, same_bytes, is_digit}
use Rattle.kinds.specs.Compare.{length_or_offset, bits, compare_labels, compare_children, compare_encodings, equivalent_to}
use Rattle.kinds.specs.Expect.{◌then◌, or_else, expect_byte, expect_bytes, expect_number, expect_quote, class_name, expect_primitive, skip_items, expect_fields, expect_container, expect_node}
use Rattle.kinds.specs.Expect.{expect_encoding, is_empty, equivalent_to_str}
use Rattle.kinds.specs.Name.{is_name_byte, all_name_bytes, verify_name}
use Rattle.kinds.specs.Parse.{more_digits, bounded, parse_number, singles, others, in_others, in_singles, start, leaf, parse_complex, parse_quoted, parse_object, integral, single_kind}
use Rattle.kinds.specs.Parse.{typed, untyped, parse_bit_field, parse_bits, check_name, parse_name, held, close_item, item, contained, add_item, begin, next_item, parse_inner, parse_items}
use Rattle.kinds.specs.Parse.{parse, qualifiers, is_qualifier, strip_leading_qualifiers, encoding_or_none, parse_encoding_or_none, whole, from_str, unknown_digit, from_start, from_start_of_str}
use Rattle.kinds.specs.Primitive.{codes, code, is_object, equivalent}
use Rattle.kinds.specs.Print.{fields, print_node, print}
use Rattle.kinds.specs.Size.{bit_bytes, sum, largest, only, node_size, sizes, size}
use Rattle.kinds.specs.Tree.{is_end, is_one, kind, name, is_container, keep}
use Rattle.agreement.proofs.ByteLaws.{◌also◌}
use Rattle.agreement.specs.MarkedCases.{refusal_of, AllHold, marked_cases}
use Rattle.agreement.specs.ReadTree.{trees, read_tree}

pub all_hold : AllHold marked_cases
unfolding marked_cases refusal_of trees read_tree among same_bytes is_digit length_or_offset bits compare_labels compare_children compare_encodings equivalent_to ◌then◌ or_else
    expect_byte expect_bytes expect_number expect_quote class_name expect_primitive skip_items expect_fields expect_container expect_node expect_encoding is_empty equivalent_to_str
    is_name_byte all_name_bytes verify_name more_digits bounded parse_number singles others in_others in_singles start leaf parse_complex parse_quoted parse_object integral single_kind
    typed untyped parse_bit_field parse_bits check_name parse_name held close_item item contained add_item begin next_item parse_inner parse_items parse qualifiers is_qualifier
    strip_leading_qualifiers encoding_or_none parse_encoding_or_none whole from_str unknown_digit from_start from_start_of_str codes code is_object equivalent fields print_node print
    bit_bytes sum largest only node_size sizes size is_end is_one kind name is_container keep
all_hold =
    refl also refl also refl also refl also refl also refl
    also (refl, refl) also (refl, refl) also (refl, refl)
    also (refl, refl) also (refl, refl) also (refl, refl, refl) also (refl, refl)
    also (refl, refl)
    also refl
    also tt
