-- The table of cases holds, row by row, by computation.
use mathlib.Core.Path.{refl}
use Rattle.kinds.specs.Byte.{among, is_digit, same_bytes}
use Rattle.kinds.specs.Compare.{bits}
use Rattle.kinds.specs.Name.{is_name_byte, all_name_bytes, verify_name}
use Rattle.kinds.specs.Parse.{more_digits, bounded, parse_number, singles, others, in_others, in_singles, start, leaf, parse_complex, parse_quoted, parse_object, integral, single_kind}
use Rattle.kinds.specs.Parse.{typed, untyped, parse_bit_field, parse_bits, check_name, parse_name, held, close_item, item, contained, add_item, begin, next_item, parse_inner, parse_items}
use Rattle.kinds.specs.Parse.{parse, qualifiers, is_qualifier, strip_leading_qualifiers, encoding_or_none, parse_encoding_or_none, whole, from_str}
use Rattle.kinds.specs.Primitive.{is_object, equivalent}
use Rattle.kinds.specs.Print.{digits, decimal}
use Rattle.kinds.specs.Tree as T
use Rattle.kinds.specs.Tree.{is_end, is_container}
use Rattle.agreement.proofs.ByteLaws.{◌also◌}
use Rattle.reason.specs.Reason.{or_else, unless, offset_of, length_of, own_difference, items, items_compared, count_difference, here, under, node_difference, items_difference, first_difference}
use Rattle.reason.specs.Reason.{dotted, path_text, value_text, values_text, difference_text, reason_text}
use Rattle.reason_agreement.specs.Cases.{told, told_of, AllHold, named, alike, hidden, nodes, below, cases}

pub all_hold : AllHold cases
unfolding told told_of named alike hidden nodes below cases among is_digit same_bytes bits is_name_byte all_name_bytes verify_name more_digits bounded parse_number singles others in_others
    in_singles start leaf parse_complex parse_quoted parse_object integral single_kind typed untyped parse_bit_field parse_bits check_name parse_name held close_item item contained add_item
    begin next_item parse_inner parse_items parse qualifiers is_qualifier strip_leading_qualifiers encoding_or_none parse_encoding_or_none whole from_str is_object equivalent digits decimal
    T.kind T.name is_end is_container or_else unless offset_of length_of own_difference items items_compared count_difference here under node_difference items_difference first_difference
    dotted path_text value_text values_text difference_text reason_text
all_hold =
    refl also refl also refl also refl also refl also refl
    also refl also refl also refl also refl also refl also refl also refl also refl also refl
    also refl also refl also refl
    also refl also refl also refl also refl also refl also refl also refl also refl also refl also refl also refl also refl also refl also refl also refl
    also refl also refl also refl also refl also refl also refl also refl also refl
    also tt
