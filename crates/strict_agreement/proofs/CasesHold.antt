-- The table of cases holds, row by row, by computation.
use mathlib.Core.Path.{refl}
use Rattle.kinds.specs.Byte.{among, is_digit}
use Rattle.kinds.specs.Name.{is_name_byte, all_name_bytes, verify_name}
use Rattle.kinds.specs.Parse.{more_digits, bounded, parse_number, singles, others, in_others, in_singles, start, leaf, parse_complex, parse_quoted, parse_object, integral, single_kind}
use Rattle.kinds.specs.Parse.{typed, untyped, parse_bit_field, parse_bits, check_name, parse_name, held, close_item, item, contained, add_item, begin, next_item, parse_inner, parse_items}
use Rattle.kinds.specs.Parse.{parse, qualifiers, is_qualifier, strip_leading_qualifiers, encoding_or_none, parse_encoding_or_none, whole, from_str}
use Rattle.kinds.specs.Strict.{digit_count, surplus_zero, typed_number, bits_numbers, numbers_of, numbers_inside, numbers_after, inner_numbers, items_numbers, numbers, numbers_met, first_surplus}
use Rattle.kinds.specs.Strict.{unless_surplus, from_str_strict}
use Rattle.agreement.proofs.ByteLaws.{◌also◌}
use Rattle.strict_agreement.specs.Cases.{AllHold, trees, refused_later, no_surplus_zero, refused_before, cases}

pub all_hold : AllHold cases
unfolding trees refused_later no_surplus_zero refused_before cases among is_digit is_name_byte all_name_bytes verify_name more_digits bounded parse_number singles others in_others in_singles
    start leaf parse_complex parse_quoted parse_object integral single_kind typed untyped parse_bit_field parse_bits check_name parse_name held close_item item contained add_item begin
    next_item parse_inner parse_items parse qualifiers is_qualifier strip_leading_qualifiers encoding_or_none parse_encoding_or_none whole from_str digit_count surplus_zero typed_number
    bits_numbers numbers_of numbers_inside numbers_after inner_numbers items_numbers numbers numbers_met first_surplus unless_surplus from_str_strict
all_hold =
    (refl, refl) also (refl, refl) also (refl, refl) also (refl, refl) also (refl, refl) also (refl, refl) also (refl, refl) also (refl, refl) also (refl, refl) also (refl, refl)
    also (refl, refl) also (refl, refl) also (refl, refl) also (refl, refl)
    also (refl, refl) also (refl, refl) also (refl, refl) also (refl, refl) also (refl, refl) also (refl, refl) also (refl, refl) also (refl, refl) also (refl, refl)
    also (refl, refl) also (refl, refl) also (refl, refl) also (refl, refl) also (refl, refl) also (refl, refl) also (refl, refl)
    also (refl, refl) also (refl, refl) also (refl, refl) also (refl, refl) also (refl, refl) also (refl, refl) also (refl, refl) also (refl, refl) also (refl, refl) also (refl, refl)
    also (refl, refl)
    also tt
