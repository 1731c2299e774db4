-- 01's conditions on the shown part of a sound tree leave in what they should, and each of them is needed:
-- a valid tree without bad names that breaks one of them prints the text of another tree, which is sound.
use Prim.Native.Nat.{ℕ}
use mathlib.Core.Path.{◌≡◌, refl, sym, ap, ◌∙◌}
use mathlib.Core.Bool.{true, false, ◌&&◌, false≢true}
use mathlib.Core.List.{List, [], ◌∷◌, ◌++◌}
use Rattle.kinds.specs.Byte.{bytes, among, same_bytes, is_digit}
use Rattle.kinds.specs.Name.{is_name_byte, verify_name}
use Rattle.kinds.specs.Parse.{more_digits, bounded, parse_number, singles, others, in_others, in_singles, start, leaf, parse_complex, parse_quoted, parse_object, integral, single_kind}
use Rattle.kinds.specs.Parse.{typed, untyped, parse_bit_field, parse_bits, check_name, parse_name, held, close_item, item, contained, add_item, begin, next_item, parse_inner, parse_items}
use Rattle.kinds.specs.Parse.{parse, qualifiers, is_qualifier, strip_leading_qualifiers, encoding_or_none, parse_encoding_or_none, whole, from_str}
use Rattle.kinds.specs.Primitive.{kind_of, codes, code}
use Rattle.kinds.specs.Print.{digits, decimal, fields, print_node, print}
use Rattle.kinds.specs.Sound.{valid_label, valid_count, valid, good_name, good_names}
use Rattle.agreement.specs.Sound.{is_integral, is_none, without_none, is_closer, closes, unknown_next, after_children, clear_node, clear, sound}
use Rattle.kinds.specs.Tree.{Label, Trees, end, node, primitive, bit_field, typed_bit_field, pointer, struct, none, is_end, is_one, kind, keep, shown}
use Rattle.kinds.specs.declared.NestingLevel.TheVariants.{Top}
use Rattle.kinds.specs.declared.Primitive.TheVariants as P
use Rattle.kinds.proofs.TableLaws.{same-bytes-refl}
use Rattle.agreement.specs.ReadTree.{trees, read_tree}

-- A node without children, and the trees after it.
abbrev first : Label → Trees → Trees
first l ts = node l end ts

abbrev int : Label
int = primitive (kind_of P.Int)

abbrev object : Label
object = primitive (kind_of P.Object)

abbrev unknown : Label
unknown = primitive (kind_of P.Unknown)

-- A struct of the name `x`.
abbrev x : Trees → Trees
x cs = node (struct (bytes "x")) cs end

-- The kinds of the nodes of trees.
pub kinds : Trees → List ℕ
kinds end = []
kinds (node l cs ts) = kind l ∷ (kinds cs ++ kinds ts)

-- `t` breaks a condition on the shown part and nothing else, and the text that it prints is read as a sound tree that is another one.
abbrev pub Ambiguous : Trees → List ℕ → Type 0
Ambiguous t s = ((is_one t && (valid t && good_names t)) ≡ true) × (sound t ≡ false) × (print Top t ≡ s) × (sound (read_tree s) ≡ true) ×
    (same_bytes (kinds (shown Top t)) (kinds (shown Top (read_tree s))) ≡ false)

abbrev pub AllAmbiguous : List (Trees × List ℕ) → Type 0
AllAmbiguous [] = Unit {0}
AllAmbiguous (c ∷ cs) = Ambiguous c.0 c.1 × AllAmbiguous cs

unfoldable pub ambiguities : List (Trees × List ℕ)
ambiguities =
    -- a bitfield's type is a bitfield: also two bitfields
    (x (node (typed_bit_field 0 2) (first (bit_field 1) end) end), bytes "{x=b0b12}")
    -- None under a pointer, with a field after it: also a pointer to Int
    ∷ (x (node pointer (first none end) (first int end)), bytes "{x=^i}")
    -- None as a field: also no field
    ∷ (x (first none end), bytes "{x=}")
    -- Unknown after Object: also a Block
    ∷ (x (first object (first unknown end)), bytes "{x=@?}")
    ∷ []

pub all-ambiguous : AllAmbiguous ambiguities
unfolding ambiguities sound is_one valid valid_label valid_count good_names good_name verify_name is_name_byte is_digit clear clear_node after_children closes is_closer unknown_next
    among without_none is_none is_integral kind print print_node fields code codes decimal digits is_end kinds same_bytes keep shown read_tree trees more_digits bounded parse_number
    singles others in_others in_singles start leaf parse_complex parse_quoted parse_object integral single_kind typed untyped parse_bit_field parse_bits check_name parse_name held
    close_item item contained add_item begin next_item parse_inner parse_items parse qualifiers is_qualifier strip_leading_qualifiers encoding_or_none parse_encoding_or_none whole from_str
all-ambiguous = ((refl, refl, refl, refl, refl), ((refl, refl, refl, refl, refl), ((refl, refl, refl, refl, refl), ((refl, refl, refl, refl, refl), tt))))

-- So the two trees print alike and have other shown parts.
pub ambiguous-differs : (t : Trees) (s : List ℕ) → Ambiguous t s → shown Top t ≡ shown Top (read_tree s) → ⊥
ambiguous-differs t s h e = false≢true (sym h.4 ∙ ap (λ u. same_bytes (kinds (shown Top t)) (kinds u)) (sym e) ∙ same-bytes-refl (kinds (shown Top t)))

-- Sound: `{x=^}`, a pointer to None before the closing byte; and `{x=b0i3@}`.
pub sound-allows : (sound (x (node pointer (first none end) end)) ≡ true) × (sound (x (node (typed_bit_field 0 3) (first int end) (first object end))) ≡ true)
unfolding sound is_one valid valid_label valid_count good_names good_name verify_name is_name_byte is_digit clear clear_node after_children closes is_closer unknown_next among
    without_none is_none is_integral kind print print_node fields code codes decimal digits is_end
sound-allows = (refl, refl)
