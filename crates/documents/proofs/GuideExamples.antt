-- Dropped fields: the rule on trees, and the guide's examples.
use Prim.Native.Nat.{ℕ, zero}
use mathlib.Core.Path.{◌≡◌, refl, sym, ap, ◌∙◌}
use mathlib.Core.Bool.{true}
use mathlib.Core.List.{List, ◌∷◌, ◌++◌, append-nil}
use Rattle.kinds.specs.Byte.{byte, bytes}
use Rattle.kinds.specs.Print.{fields, print_node, print}
use Rattle.kinds.specs.Tree.{Trees, end, node, pointer, struct, keep, shown}
use Rattle.kinds.specs.declared.NestingLevel.TheVariants.{Top, Within}
use Rattle.agreement.specs.Sound.{unknown_next}
use Rattle.agreement.specs.ReadTree.{read_tree}
use Rattle.documents.specs.Decimal.{digits, decimal}
use Rattle.documents.specs.Guide as G
use Rattle.documents.specs.Guide.{Types, code, encode, pointer_to, example, example_name, twelve_pointers, root_object, is_none, is_one, is_letter, is_word, is_name, without_record, defined, is_type}
use Rattle.documents.specs.Translation.{trees, without_long_double, counts_fit, without_block, GuideText}
use Rattle.documents.proofs.GuidePrint.{type-print}
use Rattle.documents.proofs.GuideCodes.{type-read}

pub one_pointer : (s : List ℕ) (fs : Trees) → print Top (node pointer (node (struct s) fs end) end) ≡ bytes "^{" ++ (s ++ ((byte "=" ∷ print Within fs) ++ bytes "}"))
unfolding print print_node fields
one_pointer s fs = simp append-nil

pub two-pointers : (s : List ℕ) (fs : Trees) → print Top (node pointer (node pointer (node (struct s) fs end) end) end) ≡ bytes "^^{" ++ (s ++ bytes "}")
unfolding print print_node fields
two-pointers s fs = simp append-nil

guide-text : (t u : Types) (text : List ℕ) → is_type t ≡ true → without_long_double t ≡ true → counts_fit t ≡ true → without_block (encode zero t) ≡ true
    → shown Top (trees t) ≡ trees u → encode zero t ≡ text → GuideText t u text
guide-text t u text h d f b k e = record { encodes = e; prints = type-print t h d ∙ e; reads = ap read_tree (sym e) ∙ type-read t h d f b ∙ k }

pub example-texts : GuideText example example (bytes "{example=@*i}")
    × GuideText (pointer_to example) (pointer_to example) (bytes "^{example=@*i}")
    × GuideText (pointer_to (pointer_to example)) (pointer_to (pointer_to example_name)) (bytes "^^{example}")
unfolding is_type is_one is_none defined is_name is_word is_letter without_record without_long_double counts_fit without_block unknown_next encode G.fields code trees shown keep
example-texts = (
  guide-text example example (bytes "{example=@*i}") refl refl refl refl refl refl,
  guide-text (pointer_to example) (pointer_to example) (bytes "^{example=@*i}") refl refl refl refl refl refl,
  guide-text (pointer_to (pointer_to example)) (pointer_to (pointer_to example_name)) (bytes "^^{example}") refl refl refl refl refl refl,
)

pub other-texts : GuideText twelve_pointers twelve_pointers (bytes "[12^f]") × GuideText root_object root_object (bytes "{NSObject=#}")
unfolding is_type is_one is_none defined is_name is_word is_letter without_record without_long_double counts_fit without_block unknown_next encode G.fields code trees shown keep decimal digits
other-texts = (
  guide-text twelve_pointers twelve_pointers (bytes "[12^f]") refl refl refl refl refl refl,
  guide-text root_object root_object (bytes "{NSObject=#}") refl refl refl refl refl refl,
)
