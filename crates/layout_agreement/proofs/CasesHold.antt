-- The table of cases holds, row by row, by computation.
use mathlib.Core.Path.{refl}
use Rattle.kinds.specs.Byte.{among, is_digit, same_bytes}
use Rattle.kinds.specs.Name.{is_name_byte, all_name_bytes, verify_name}
use Rattle.kinds.specs.Parse.{more_digits, bounded, parse_number, singles, others, in_others, in_singles, start, leaf, parse_complex, parse_quoted, parse_object, integral, single_kind}
use Rattle.kinds.specs.Parse.{typed, untyped, parse_bit_field, parse_bits, check_name, parse_name, held, close_item, item, contained, add_item, begin, next_item, parse_inner, parse_items}
use Rattle.kinds.specs.Parse.{parse, qualifiers, is_qualifier, strip_leading_qualifiers, encoding_or_none, parse_encoding_or_none, whole, from_str}
use Rattle.kinds.specs.Primitive.{primitive_size}
use Rattle.kinds.specs.Size.{is_none}
use Rattle.kinds.specs.Tree.{is_end, count}
use Rattle.agreement.proofs.ByteLaws.{◌also◌}
use Rattle.helper.specs.Answer.{max_size}
use Rattle.layout.specs.Answer.{offsets_in, all_within, fitted, layout_of, layout_in, list_in}
use Rattle.layout.specs.Layout.{is_pointer, laid_out, is_bit_field, first_bit_field, sizeless, any_sizeless, next_multiple, primitive_alignment, primitive_extent, alignments, fields_end}
use Rattle.layout.specs.Layout.{members_end, only_extent, node_extent, extents, extent, in_node, holds_inside, offsets}
use Rattle.layout_agreement.specs.Cases.{told_with, after, told_of, AllHold, request, plain, behind, large, lent_lists, cases}

pub all_hold : AllHold cases
unfolding told_with after told_of request plain behind large lent_lists cases among is_digit same_bytes is_name_byte all_name_bytes verify_name more_digits bounded parse_number singles others in_others in_singles
    start leaf parse_complex parse_quoted parse_object integral single_kind typed untyped parse_bit_field parse_bits check_name parse_name held close_item item contained add_item begin next_item
    parse_inner parse_items parse qualifiers is_qualifier strip_leading_qualifiers encoding_or_none parse_encoding_or_none whole from_str primitive_size is_end count max_size offsets_in all_within
    fitted layout_of layout_in list_in is_pointer laid_out is_bit_field first_bit_field is_none sizeless any_sizeless next_multiple primitive_alignment primitive_extent alignments fields_end
    members_end only_extent node_extent extents extent in_node holds_inside offsets
all_hold =
    (refl, refl, refl, refl) also (refl, refl, refl, refl) also (refl, refl, refl, refl) also (refl, refl, refl, refl) also (refl, refl, refl, refl) also (refl, refl, refl, refl)
    also (refl, refl, refl, refl) also (refl, refl, refl, refl) also (refl, refl, refl, refl) also (refl, refl, refl, refl) also (refl, refl, refl, refl) also (refl, refl, refl, refl)
    also (refl, refl, refl, refl) also (refl, refl, refl, refl) also (refl, refl, refl, refl) also (refl, refl, refl, refl) also (refl, refl, refl, refl) also (refl, refl, refl, refl)
    also (refl, refl, refl, refl) also (refl, refl, refl, refl) also (refl, refl, refl, refl) also (refl, refl, refl, refl) also (refl, refl, refl, refl) also (refl, refl, refl, refl)
    also (refl, refl, refl, refl) also (refl, refl, refl, refl) also (refl, refl, refl, refl) also (refl, refl, refl, refl) also (refl, refl, refl, refl) also (refl, refl, refl, refl)
    also (refl, refl, refl, refl) also (refl, refl, refl, refl) also (refl, refl, refl, refl) also (refl, refl, refl, refl) also (refl, refl, refl, refl) also (refl, refl, refl, refl)
    also (refl, refl, refl, refl) also (refl, refl, refl, refl) also (refl, refl, refl, refl) also (refl, refl, refl, refl) also (refl, refl, refl, refl) also (refl, refl, refl, refl)
    also (refl, refl, refl, refl) also (refl, refl, refl, refl) also (refl, refl, refl, refl) also (refl, refl, refl, refl) also (refl, refl, refl, refl) also (refl, refl, refl, refl)
    also (refl, refl, refl, refl) also (refl, refl, refl, refl) also (refl, refl, refl, refl) also (refl, refl, refl, refl) also (refl, refl, refl, refl) also (refl, refl, refl, refl)
    also (refl, refl, refl, refl) also (refl, refl, refl, refl) also (refl, refl, refl, refl) also (refl, refl, refl, refl) also (refl, refl, refl, refl) also (refl, refl, refl, refl)
    also (refl, refl, refl, refl) also (refl, refl, refl, refl) also (refl, refl, refl, refl) also (refl, refl, refl, refl) also (refl, refl, refl, refl) also (refl, refl, refl, refl)
    also (refl, refl, refl, refl) also (refl, refl, refl, refl) also (refl, refl, refl, refl) also (refl, refl, refl, refl) also (refl, refl, refl, refl) also (refl, refl, refl, refl)
    also (refl, refl, refl, refl) also (refl, refl, refl, refl) also (refl, refl, refl, refl) also (refl, refl, refl, refl) also (refl, refl, refl, refl) also (refl, refl, refl, refl)
    also (refl, refl, refl, refl) also (refl, refl, refl, refl) also (refl, refl, refl, refl) also (refl, refl, refl, refl) also (refl, refl, refl, refl) also (refl, refl, refl, refl)
    also (refl, refl, refl, refl) also (refl, refl, refl, refl) also (refl, refl, refl, refl) also (refl, refl, refl, refl) also (refl, refl, refl, refl) also (refl, refl, refl, refl)
    also (refl, refl, refl, refl) also (refl, refl, refl, refl) also (refl, refl, refl, refl) also (refl, refl, refl, refl) also (refl, refl, refl, refl) also (refl, refl, refl, refl)
    also (refl, refl, refl, refl) also (refl, refl, refl, refl) also (refl, refl, refl, refl) also (refl, refl, refl, refl) also (refl, refl, refl, refl) also (refl, refl, refl, refl)
    also (refl, refl, refl, refl) also (refl, refl, refl, refl) also (refl, refl, refl, refl) also (refl, refl, refl, refl) also (refl, refl, refl, refl) also (refl, refl, refl, refl)
    also (refl, refl, refl, refl) also (refl, refl, refl, refl) also (refl, refl, refl, refl) also (refl, refl, refl, refl) also (refl, refl, refl, refl) also (refl, refl, refl, refl)
    also (refl, refl, refl, refl) also (refl, refl, refl, refl) also (refl, refl, refl, refl) also (refl, refl, refl, refl) also (refl, refl, refl, refl) also (refl, refl, refl, refl)
    also (refl, refl, refl, refl) also (refl, refl, refl, refl) also (refl, refl, refl, refl) also (refl, refl, refl, refl) also (refl, refl, refl, refl) also (refl, refl, refl, refl)
    also (refl, refl, refl, refl) also (refl, refl, refl, refl) also (refl, refl, refl, refl) also (refl, refl, refl, refl) also (refl, refl, refl, refl) also (refl, refl, refl, refl)
    also (refl, refl, refl, refl) also (refl, refl, refl, refl) also (refl, refl, refl, refl) also (refl, refl, refl, refl) also (refl, refl, refl, refl) also (refl, refl, refl, refl)
    also (refl, refl, refl, refl) also (refl, refl, refl, refl) also (refl, refl) also (refl, refl) also (refl, refl) also (refl, refl)
    also (refl, refl) also (refl, refl) also (refl, refl) also (refl, refl) also (refl, refl) also (refl, refl)
    also (refl, refl) also (refl, refl) also (refl, refl) also (refl, refl) also (refl, refl) also (refl, refl)
    also (refl, refl) also (refl, refl) also (refl, refl) also (refl, refl) also (refl, refl) also (refl, refl)
    also (refl, refl) also (refl, refl) also (refl, refl)
    also tt
