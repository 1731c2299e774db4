-- The examples of what `writable` asks for hold, by computation.
use Prim.Native.Nat.{ℕ}
use mathlib.Core.Path.{◌≡◌, refl}
use native.Mathlib.Omega.{arith}
use Rattle.kinds.specs.Byte.{among, is_digit, starts_digit}
use Rattle.kinds.specs.Name.{is_name_byte, all_name_bytes, verify_name}
use Rattle.kinds.specs.Parse.{more_digits, bounded, parse_number, singles, others, in_others, in_singles, start, leaf, parse_object}
use Rattle.kinds.specs.Parse.{untyped, parse_bit_field, parse_bits, check_name, parse_name, held, contained, add_item, begin, next_item, parse_items}
use Rattle.kinds.specs.Parse.{parse, qualifiers, is_qualifier, strip_leading_qualifiers, encoding_or_none, parse_encoding_or_none, whole, from_str, unknown_digit, from_start}
use Rattle.kinds.specs.Primitive.{codes, code}
use Rattle.kinds.specs.Print.{digits, decimal, fields, print_node, print}
use Rattle.kinds.specs.Sound.{valid_label, valid_count, valid, good_name, good_names}
use Rattle.kinds.specs.Tree.{is_end, is_one, keep, shown}
use Rattle.agreement.specs.ReadTree.{trees, read_tree}
use Rattle.agreement.specs.Sound.{is_none, without_none, closes, unknown_next, after_children, clear_node, clear, sound}
use Rattle.agreement.proofs.ByteLaws.{◌also◌}
use Rattle.signature.specs.Signature.{type_from_start, limited, parse_offset, add_entry, number_then, type_then, signature_from, signature}
use Rattle.signature_agreement.specs.Cases.{outcome}
use Rattle.signature_agreement.specs.Needed.{conditions, AllHold, needed, ambiguous, Ambiguous, NoItem, method, MethodWritable}
use Rattle.signature_agreement.specs.Pieces.{piece}
use Rattle.signature_agreement.specs.Written.{written, not_empty, ends_open, writable, all_writable}

pub all-needed : AllHold needed × Ambiguous × NoItem × MethodWritable
unfolding needed ambiguous method conditions outcome piece written not_empty ends_open writable all_writable among is_digit is_name_byte all_name_bytes verify_name more_digits bounded
    parse_number singles others in_others in_singles start leaf parse_object untyped parse_bit_field parse_bits check_name parse_name held contained add_item begin next_item parse_items
    parse qualifiers is_qualifier strip_leading_qualifiers encoding_or_none parse_encoding_or_none whole from_str unknown_digit from_start codes code digits decimal fields print_node print
    valid_label valid_count valid good_name good_names is_end is_one keep shown trees read_tree is_none without_none closes unknown_next after_children clear_node clear sound type_from_start
    starts_digit limited parse_offset add_entry number_then type_then signature_from signature
all-needed = (
  (refl, refl, refl) also (refl, refl, refl) also (refl, refl, refl) also (refl, refl, refl) also (refl, refl, refl) also (refl, refl, refl) also tt,
  (refl, refl, λ e. let z : ◌≡◌ {A = ℕ} 0 1 = cc in omega arith),
  refl,
  (refl, refl),
)
