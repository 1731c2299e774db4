-- The table of cases holds, row by row, by computation.
use mathlib.Core.Path.{refl}
use Rattle.kinds.specs.Byte.{among, is_digit, starts_digit}
use Rattle.kinds.specs.Name.{is_name_byte, all_name_bytes, verify_name}
use Rattle.kinds.specs.Parse.{more_digits, bounded, parse_number, singles, others, in_others, in_singles, start, leaf, parse_complex, parse_quoted, parse_object, integral}
use Rattle.kinds.specs.Parse.{typed, untyped, parse_bit_field, parse_bits, check_name, parse_name, held, close_item, item, contained, add_item, begin, next_item, parse_items}
use Rattle.kinds.specs.Parse.{parse, qualifiers, is_qualifier, strip_leading_qualifiers, encoding_or_none, parse_encoding_or_none, unknown_digit, from_start}
use Rattle.agreement.proofs.ByteLaws.{◌also◌}
use Rattle.signature.specs.Signature.{type_from_start, limited, parse_offset, add_entry, number_then, type_then, signature_from, signature}
use Rattle.signature_agreement.specs.Cases.{outcome, AllHold, cases, read, digit_for_type, no_type, no_number, bad_number}

pub all_hold : AllHold cases
unfolding cases read digit_for_type no_type no_number bad_number outcome among is_digit is_name_byte all_name_bytes verify_name more_digits bounded parse_number singles others in_others
    in_singles start leaf parse_complex parse_quoted parse_object integral typed untyped parse_bit_field parse_bits check_name parse_name held close_item item contained add_item begin
    next_item parse_items parse qualifiers is_qualifier strip_leading_qualifiers encoding_or_none parse_encoding_or_none unknown_digit from_start type_from_start starts_digit limited
    parse_offset add_entry number_then type_then signature_from signature
all_hold =
    refl also refl also refl also refl also refl also refl also refl also refl also refl also refl also refl also refl also refl also refl
    also refl also refl also refl also refl also refl also refl also refl also refl also refl also refl also refl
    also refl also refl also refl also refl also refl also refl also refl also refl also refl also refl also refl also refl also refl also refl also refl also refl also refl
    also refl also refl also refl also refl also refl also refl also refl also refl also refl also refl also refl also refl
    also refl also refl also refl also refl also refl
    also tt
