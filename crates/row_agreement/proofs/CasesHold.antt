-- The table of cases holds, row by row, by computation, and so does the table of sizes.
use mathlib.Core.Path.{◌≡◌, refl}
use Rattle.kinds.specs.Byte.{among, is_digit, same_bytes}
use Rattle.kinds.specs.Name.{is_name_byte, all_name_bytes, verify_name}
use Rattle.kinds.specs.Parse.{more_digits, bounded, parse_number, singles, others, in_others, in_singles, start, leaf, parse_complex, parse_quoted, parse_object, integral, single_kind}
use Rattle.kinds.specs.Parse.{typed, untyped, parse_bit_field, parse_bits, check_name, parse_name, held, close_item, item, contained, add_item, begin, next_item, parse_inner, parse_items}
use Rattle.kinds.specs.Parse.{parse, qualifiers, is_qualifier, strip_leading_qualifiers, encoding_or_none, parse_encoding_or_none, whole, from_str}
use Rattle.kinds.specs.Primitive.{primitive_size, size_rows}
use Rattle.kinds.specs.Size.{bit_bytes, plus, larger, times, sum, largest, only, node_size, sizes, size}
use Rattle.agreement.proofs.ByteLaws.{◌also◌}
use Rattle.helper.specs.Answer.{max_size, sized, sized_in}
use Rattle.row_agreement.specs.Cases.{told_of, AllHold, widths_own, alike, large, no_row, cases, table}

pub all_hold : AllHold cases
unfolding told_of widths_own alike large no_row cases among is_digit same_bytes is_name_byte all_name_bytes verify_name more_digits bounded parse_number singles others in_others in_singles start leaf
    parse_complex parse_quoted parse_object integral single_kind typed untyped parse_bit_field parse_bits check_name parse_name held close_item item contained add_item begin next_item parse_inner
    parse_items parse qualifiers is_qualifier strip_leading_qualifiers encoding_or_none parse_encoding_or_none whole from_str primitive_size bit_bytes plus larger times sum largest only node_size
    sizes size max_size sized sized_in
all_hold =
    (refl, refl, refl, refl)
    also (refl, refl, refl, refl) also (refl, refl, refl, refl) also (refl, refl, refl, refl) also (refl, refl, refl, refl) also (refl, refl, refl, refl)
    also (refl, refl, refl, refl) also (refl, refl, refl, refl) also (refl, refl, refl, refl) also (refl, refl, refl, refl) also (refl, refl, refl, refl)
    also (refl, refl, refl, refl) also (refl, refl, refl, refl) also (refl, refl, refl, refl) also (refl, refl, refl, refl) also (refl, refl, refl, refl)
    also (refl, refl, refl, refl) also (refl, refl, refl, refl) also (refl, refl, refl, refl) also (refl, refl, refl, refl) also (refl, refl, refl, refl)
    also (refl, refl, refl, refl) also (refl, refl, refl, refl) also (refl, refl, refl, refl) also (refl, refl, refl, refl) also (refl, refl, refl, refl)
    also (refl, refl, refl, refl) also (refl, refl, refl, refl) also (refl, refl, refl, refl) also (refl, refl, refl, refl) also (refl, refl, refl, refl)
    also (refl, refl, refl, refl) also (refl, refl, refl, refl) also (refl, refl, refl, refl)
    also (refl, refl, refl, refl) also (refl, refl, refl, refl) also (refl, refl, refl, refl) also (refl, refl, refl, refl) also (refl, refl, refl, refl)
    also (refl, refl, refl, refl) also (refl, refl, refl, refl) also (refl, refl, refl, refl) also (refl, refl, refl, refl) also (refl, refl, refl, refl)
    also (refl, refl, refl, refl) also (refl, refl, refl, refl) also (refl, refl, refl, refl) also (refl, refl, refl, refl) also (refl, refl, refl, refl)
    also (refl, refl, refl, refl) also (refl, refl, refl, refl) also (refl, refl, refl, refl) also (refl, refl, refl, refl) also (refl, refl, refl, refl)
    also (refl, refl, refl, refl) also (refl, refl, refl, refl) also (refl, refl, refl, refl) also (refl, refl, refl, refl) also (refl, refl, refl, refl)
    also (refl, refl, refl, refl) also (refl, refl, refl, refl)
    also (refl, refl, refl, refl) also (refl, refl, refl, refl) also (refl, refl, refl, refl) also (refl, refl, refl, refl) also (refl, refl, refl, refl)
    also (refl, refl, refl, refl) also (refl, refl, refl, refl) also (refl, refl, refl, refl) also (refl, refl, refl, refl) also (refl, refl, refl, refl)
    also (refl, refl, refl, refl) also (refl, refl, refl, refl) also (refl, refl, refl, refl) also (refl, refl, refl, refl) also (refl, refl, refl, refl)
    also (refl, refl, refl, refl) also (refl, refl, refl, refl) also (refl, refl, refl, refl) also (refl, refl, refl, refl) also (refl, refl, refl, refl)
    also (refl, refl, refl, refl) also (refl, refl, refl, refl) also (refl, refl, refl, refl) also (refl, refl, refl, refl)
    also refl also refl also refl also refl also refl also refl
    also tt

pub table-holds : size_rows ≡ table
table-holds = refl
