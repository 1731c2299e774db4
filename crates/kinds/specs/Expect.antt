-- Tree against text (parse.rs, `expect_encoding`; encoding.rs, `equivalent_to_str`).
use Rattle.std.specs.Prelude.{ℕ, suc, ◌+◌, Bool, true, false, List, [], ◌∷◌, eqb, length}
use Rattle.kinds.specs.Byte.{byte}
use Rattle.kinds.specs.Container.{end_byte}
use Rattle.kinds.specs.Parse.{value, no_number, parse_number, max_u64, max_u8, items, items_refused, parse_items, strip_leading_qualifiers}
use Rattle.kinds.specs.Primitive.{code, is_object}
use Rattle.kinds.specs.Tree.{Label, Trees, end, node, primitive, bit_field, typed_bit_field, pointer, atomic, array, struct, union, none, is_end, inside}
use Rattle.kinds.specs.declared.ContainerKind.{ContainerKind}
use Rattle.kinds.specs.declared.ContainerKind.TheVariants.{Struct, Union}
use Rattle.kinds.specs.declared.NestingLevel.{NestingLevel}
use Rattle.kinds.specs.declared.NestingLevel.TheVariants.{Top, Within, Bottom}

infixl 20 ◌then◌
-- What remains of the text after a match, or no match.
pub data Expected : Type 0 where
  remaining : List ℕ → Expected
  mismatch : Expected

unfoldable pub ◌then◌ : Expected → (List ℕ → Expected) → Expected
remaining s then f = f s
mismatch then f = mismatch

unfoldable pub or_else : Expected → Expected → Expected
or_else (remaining s) w = remaining s
or_else mismatch w = w

unfoldable pub expect_byte : ℕ → List ℕ → Expected
expect_byte b [] = mismatch
expect_byte b (c ∷ s) = elim (eqb c b) [ true ↦ remaining s | false ↦ mismatch ]

unfoldable pub expect_bytes : List ℕ → List ℕ → Expected
expect_bytes [] s = remaining s
expect_bytes (b ∷ t) s = expect_byte b s then (λ u. expect_bytes t u)

-- `expect_u64` and `expect_u8`.
unfoldable pub expect_number : ℕ → ℕ → List ℕ → Expected
expect_number limit n s = elim (parse_number limit s) [ value m t ↦ elim (eqb m n) [ true ↦ remaining t | false ↦ mismatch ] | no_number e t ↦ mismatch ]

-- Up to the closing quote.
unfoldable pub expect_quote : List ℕ → Expected
expect_quote [] = mismatch
expect_quote (b ∷ s) = elim (eqb b (byte "\"")) [ true ↦ remaining s | false ↦ expect_quote s ]

-- A class name may follow an Object.
unfoldable pub class_name : List ℕ → Expected
class_name [] = remaining []
class_name (b ∷ s) = elim (eqb b (byte "\"")) [ true ↦ expect_quote s | false ↦ remaining (b ∷ s) ]

-- The code of a primitive or of one of its equivalents, Block first.
unfoldable pub expect_primitive : ℕ → List ℕ → Expected
expect_primitive p s =
    elim (is_object p) [
      | true ↦ or_else (expect_bytes (code 20) s) (or_else (expect_bytes (code 19) s) (expect_bytes (code 21) s)) then (λ t. elim (eqb p 19) [ true ↦ class_name t | false ↦ remaining t ])
      | false ↦ expect_bytes (code p) s
    ]

-- A container without fields takes whatever can be read up to its closer.
unfoldable pub skip_items : ContainerKind → List ℕ → Expected
skip_items k s = elim (parse_items (suc (length s + length s)) k s) [ items ts t ↦ remaining t | items_refused e t ↦ mismatch ]

-- After `=`: the fields and the closer, or the closer at once; `inner` takes the fields.
unfoldable pub expect_fields : ContainerKind → Bool → (List ℕ → Expected) → List ℕ → Expected
expect_fields k true inner s = skip_items k s
expect_fields k false inner s = or_else (expect_byte (end_byte k) s) (inner s then (λ t. expect_byte (end_byte k) t))

-- After the opening byte.
unfoldable pub expect_container : ContainerKind → List ℕ → NestingLevel → Bool → (List ℕ → Expected) → List ℕ → Expected
expect_container k m Top e inner s = expect_bytes m s then (λ t. expect_byte (byte "=") t then (λ u. expect_fields k e inner u))
expect_container k m Within e inner s = expect_bytes m s then (λ t. expect_byte (byte "=") t then (λ u. expect_fields k e inner u))
expect_container k m Bottom e inner s = expect_bytes m s then (λ t. expect_byte (end_byte k) t)

-- A node; `e` says that it has no children, and `inner` takes them.
unfoldable pub expect_node : Label → NestingLevel → Bool → (List ℕ → Expected) → List ℕ → Expected
expect_node (primitive p) v e inner s = expect_primitive p s
expect_node (bit_field n) v e inner s = expect_byte (byte "b") s then (λ t. expect_number max_u8 n t)
expect_node (typed_bit_field o n) v e inner s = expect_byte (byte "b") s then (λ t. expect_number max_u64 o t then (λ u. inner u then (λ w. expect_number max_u8 n w)))
expect_node pointer v e inner s = expect_byte (byte "^") s then inner
expect_node atomic v e inner s = expect_byte (byte "A") s then inner
expect_node (array n) v e inner s = expect_byte (byte "[") s then (λ t. expect_number max_u64 n t then (λ u. inner u then (λ w. expect_byte (byte "]") w)))
expect_node (struct m) v e inner s = expect_byte (byte "{") s then (λ t. expect_container Struct m v e inner t)
expect_node (union m) v e inner s = expect_byte (byte "(") s then (λ t. expect_container Union m v e inner t)
expect_node none v e inner s = remaining s

unfoldable pub expect_encoding : NestingLevel → Trees → List ℕ → Expected
expect_encoding v end s = remaining s
expect_encoding v (node l cs ts) s = expect_node l v (is_end cs) (λ t. expect_encoding (inside l v) cs t) s then (λ t. expect_encoding v ts t)

-- The whole text was taken.
unfoldable pub is_empty : Expected → Bool
is_empty (remaining []) = true
is_empty (remaining (b ∷ s)) = false
is_empty mismatch = false

unfoldable pub equivalent_to_str : Trees → List ℕ → Bool
equivalent_to_str t s = is_empty (expect_encoding Top t (strip_leading_qualifiers s))
