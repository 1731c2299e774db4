-- The spellings that are left, and those that each premise keeps out, by computation.
use native.Mathlib.Omega.{arith}
use mathlib.Core.Path.{refl, ap}
use lib.ListN.{length}
use Rattle.kinds.specs.Byte.{among, is_digit}
use Rattle.kinds.specs.Name.{is_name_byte, verify_name}
use Rattle.kinds.specs.Parse.{more_digits, bounded, parse_number, singles, others, in_others, in_singles, start, leaf, parse_quoted, parse_object, check_name, parse_name, close_item, item, contained}
use Rattle.kinds.specs.Parse.{begin, next_item, parse_items, parse, qualifiers, is_qualifier, strip_leading_qualifiers, encoding_or_none, parse_encoding_or_none, whole, from_str}
use Rattle.kinds.specs.Strict.{digit_count, surplus_zero, numbers_of, numbers_inside, numbers_after, items_numbers, numbers, numbers_met, first_surplus, unless_surplus, from_str_strict}
use Rattle.strict_agreement.specs.Spelling.{short, unquoted}
use Rattle.strict_agreement.specs.SpellingNeeded.{StructsLeft, UnionsLeft, QualifiersMatter, ClassNamesMatter, ZerosMatter}

pub spellings-left : StructsLeft × UnionsLeft
unfolding among is_digit is_name_byte verify_name singles others in_others in_singles start check_name parse_name contained begin next_item parse_items parse qualifiers is_qualifier
    strip_leading_qualifiers encoding_or_none parse_encoding_or_none whole from_str numbers_of numbers_inside numbers_after items_numbers numbers numbers_met first_surplus unless_surplus
    from_str_strict unquoted
spellings-left = (
  (record { read = refl; unqualified = refl; no-class-name = refl }, record { read = refl; unqualified = refl; no-class-name = refl }, λ e. omega (arith, ap length e)),
  (record { read = refl; unqualified = refl; no-class-name = refl }, record { read = refl; unqualified = refl; no-class-name = refl }, λ e. omega (arith, ap length e)),
)

pub premises-matter : QualifiersMatter × ClassNamesMatter × ZerosMatter
unfolding among is_digit more_digits bounded parse_number singles others in_others in_singles start leaf parse_quoted parse_object close_item item begin parse_items parse qualifiers
    is_qualifier strip_leading_qualifiers encoding_or_none parse_encoding_or_none whole from_str digit_count surplus_zero numbers_of numbers_inside items_numbers numbers numbers_met
    first_surplus unless_surplus from_str_strict short unquoted
premises-matter = (
  (record { gives = refl; registers = record { read = refl; unqualified = refl; no-class-name = refl }; differ = λ e. omega (arith, ap length e) }, refl),
  (record { gives = refl; registers = record { read = refl; unqualified = refl; no-class-name = refl }; differ = λ e. omega (arith, ap length e) }, refl),
  (record { gives = refl; registers = record { read = refl; unqualified = refl; no-class-name = refl }; differ = λ e. omega (arith, ap length e) }, refl, refl),
)
