-- The guide's encodings are read as the trees of its types, and the bytes that are read alone are those of its table and `D`.
use Prim.Native.Nat.{ℕ, zero, ◌<◌}
use mathlib.Core.Path.{◌≡◌, refl, sym, ap, ◌∙◌}
use mathlib.Core.List.{List, [], ◌∷◌}
use mathlib.Core.Bool.{Bool, true, false, ◌&&◌, ◌||◌, not, false≢true}
use mathlib.Core.Logic.{inl, inr}
use lib.Dec.{eqb}
use Rattle.kinds.proofs.TableLaws.{every_below, pass_below, each}
use Rattle.kinds.specs.Byte.{byte, bytes, among, is_digit}
use Rattle.kinds.specs.Parse.{singles, others, in_others, in_singles, start, leaf, parse_complex, parse_object, parse_number, parse_bits, parse_name, held, item, contained, begin}
use Rattle.kinds.specs.Parse.{next_item, parse_inner, parse, qualifiers, is_qualifier, strip_leading_qualifiers, encoding_or_none, parse_encoding_or_none, whole, from_str}
use Rattle.kinds.specs.Print.{print}
use Rattle.agreement.specs.Sound.{unknown_next}
use Rattle.kinds.specs.Tree as T
use Rattle.kinds.specs.Tree.{Label, Trees, end, node, primitive, keep, shown}
use Rattle.kinds.specs.declared.NestingLevel.TheVariants.{Top}
use Rattle.agreement.specs.ReadTree as A
use Rattle.agreement.specs.ReadTree.{read_tree}
use Rattle.agreement.proofs.Agreement.{reads-back}
use Rattle.agreement.proofs.ByteLaws.{◌also◌}
use Rattle.documents.specs.Guide as G
use Rattle.documents.specs.Guide.{Meaning, Types, only, code, encode, is_none, is_one, defined, is_type}
use Rattle.documents.specs.Translation.{label, trees, without_long_double, counts_fit, without_block, MeantBy}
use Rattle.documents.proofs.GuidePrint.{type-print}
use Rattle.documents.proofs.GuideSound.{type-sound}

pub type-read : (t : Types) → is_type t ≡ true → without_long_double t ≡ true → counts_fit t ≡ true → without_block (encode zero t) ≡ true → read_tree (encode zero t) ≡ shown Top (trees t)
type-read t h d f b = ap read_tree (sym (type-print t h d)) ∙ reads-back (trees t) (type-sound t h d f b)

-- A byte alone has nothing after it.
nothing-after : (a : Bool) → (not (a && false) && true) ≡ true
nothing-after true = refl
nothing-after false = refl

pub code-print : (m : Meaning) → print Top (node (label m) end end) ≡ code m ∷ []
unfolding trees encode is_type is_one is_none defined without_long_double
code-print m = type-print (only m) refl refl

pub code_read : (m : Meaning) → read_tree (code m ∷ []) ≡ node (label m) end end
unfolding trees encode is_type is_one is_none defined without_long_double counts_fit without_block unknown_next shown keep
code_read m = type-read (only m) refl refl refl (nothing-after (eqb (code m) (byte "@")))

-- ---- The bytes that are read alone as a primitive.

is_primitive : Label → Bool
is_primitive (primitive p) = true
is_primitive (T.bit_field n) = false
is_primitive (T.typed_bit_field o n) = false
is_primitive T.pointer = false
is_primitive T.atomic = false
is_primitive (T.array n) = false
is_primitive (T.struct s) = false
is_primitive (T.union s) = false
is_primitive T.none = false

reads_primitive : Trees → Bool
reads_primitive end = false
reads_primitive (node l cs ts) = is_primitive l

listed : List ℕ
listed = bytes "cislqCISLQfdBv*@#:?D"

only_listed : ℕ → Bool
only_listed b = not (reads_primitive (read_tree (b ∷ []))) || among b listed

all_listed : every_below only_listed 256 ≡ true
unfolding every_below only_listed reads_primitive is_primitive listed among read_tree A.trees from_str whole parse_encoding_or_none encoding_or_none strip_leading_qualifiers
    is_qualifier qualifiers parse parse_inner begin start in_singles singles in_others others leaf parse_complex parse_object parse_number parse_bits parse_name held item contained
    next_item is_digit
all_listed = refl

meant : (p b : ℕ) → among b listed ≡ true → read_tree (b ∷ []) ≡ node (primitive p) end end → MeantBy b p
unfolding listed code
meant p b a = each (λ x. read_tree (x ∷ []) ≡ node (primitive p) end end → MeantBy x p) listed
    (at G.char also at G.int also at G.short also at G.long also at G.long_long
    also at G.unsigned_char also at G.unsigned_int also at G.unsigned_short also at G.unsigned_long also at G.unsigned_long_long
    also at G.float also at G.double also at G.bool also at G.void also at G.string
    also at G.object also at G.class also at G.selector also at G.unknown also (λ e. inr refl) also tt)
    b
    a
  where
    at : (m : Meaning) → read_tree (code m ∷ []) ≡ node (primitive p) end end → MeantBy (code m) p
    at m e = let r = code_read m in let l : primitive p ≡ label m = cc in inl (m, refl, l)

implied : (a b : Bool) → a ≡ true → (not a || b) ≡ true → b ≡ true
implied true b e h = h
implied false b e h = absurd (false≢true e)

pub alone : (b p : ℕ) → b < 256 → read_tree (b ∷ []) ≡ node (primitive p) end end → MeantBy b p
unfolding only_listed reads_primitive is_primitive
alone b p l e = meant p b (implied (reads_primitive (read_tree (b ∷ []))) (among b listed) (rw e refl) (pass_below only_listed 256 all_listed b l)) e
