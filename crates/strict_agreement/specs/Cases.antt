-- Texts and what strict and whole-text reading give, as one table: the cases of 02's N3 and more where one rule meets another.
use Rattle.std.specs.Prelude.{ℕ, ◌≡◌, List, [], ◌∷◌, ◌++◌}
use Rattle.kinds.specs.Byte.{byte, bytes}
use Rattle.kinds.specs.Parse.{Whole, tree, refusal, from_str}
use Rattle.kinds.specs.Primitive.{kind_of}
use Rattle.kinds.specs.Strict.{from_str_strict}
use Rattle.kinds.specs.Tree as T
use Rattle.kinds.specs.Tree.{Trees, end, node, primitive, bit_field, typed_bit_field, pointer, atomic, array, struct, union}
use Rattle.kinds.specs.declared.ContainerKind.TheVariants.{Struct}
use Rattle.kinds.specs.declared.ErrorKind.TheVariants.{UnexpectedEnd, Unknown, UnknownAfterComplex, ExpectedInteger, IntegerTooLarge, WrongEndArray}
use Rattle.kinds.specs.declared.ErrorKind.TheVariants.{WrongEndContainer, InvalidIdentifier, NotAllConsumed, SurplusZero}
use Rattle.kinds.specs.declared.Primitive.TheVariants.{Char, Int, Object}

-- A text, what strict reading gives, and what whole-text reading gives.
abbrev pub Case : Type 0
Case = List ℕ × Whole × Whole

-- Refusal 19 at its place, and what whole-text reading gives.
abbrev pub surplus : List ℕ → ℕ → Whole → Case
surplus s at w = (s, refusal SurplusZero at, w)

-- Both give the same.
abbrev pub alike : List ℕ → Whole → Case
alike s w = (s, w, w)

abbrev pub AllHold : List Case → Type 0
AllHold [] = Unit {0}
AllHold (c ∷ cs) = ((from_str_strict c.0 ≡ c.1) × (from_str c.0 ≡ c.2)) × AllHold cs

abbrev char : Trees
char = node (primitive (kind_of Char)) end end

abbrev int : Trees
int = node (primitive (kind_of Int)) end end

-- An array of `n` chars, as the child of a node.
abbrev chars : ℕ → Trees
chars n = node (array n) char end

-- A surplus zero where whole-text reading gives a tree.
unfoldable pub trees : List Case
trees =
    surplus (bytes "[00c]") 1 (tree (array 0) char)
    ∷ surplus (bytes "[007c]") 1 (tree (array 7) char)
    ∷ surplus (bytes "b00") 1 (tree (bit_field 0) end)
    ∷ surplus (bytes "b01") 1 (tree (bit_field 1) end)
    ∷ surplus (bytes "b00i7") 1 (tree (typed_bit_field 0 7) int)
    ∷ surplus (bytes "b0i007") 3 (tree (typed_bit_field 0 7) int)
    ∷ surplus (bytes "b256i00") 5 (tree (typed_bit_field 256 0) int)
    -- the place counts qualifiers
    ∷ surplus (bytes "r[00c]") 2 (tree (array 0) char)
    -- a number inside
    ∷ surplus (bytes "^^[00c]") 3 (tree pointer (node pointer (chars 0) end))
    ∷ surplus (bytes "A[00c]") 2 (tree atomic (chars 0))
    ∷ surplus (bytes "[3[00c]]") 3 (tree (array 3) (chars 0))
    ∷ surplus (bytes "(x=b00)") 4 (tree (union (bytes "x")) (node (bit_field 0) end end))
    ∷ surplus (bytes "{x=i[00c]}") 5 (tree (struct (bytes "x")) (node (primitive (kind_of Int)) end (chars 0)))
    -- the first of two
    ∷ surplus (bytes "{x=[00c]b01}") 4 (tree (struct (bytes "x")) (node (array 0) char (node (bit_field 1) end end)))
    ∷ []

-- A surplus zero before what whole-text reading refuses.
unfoldable pub refused_later : List Case
refused_later =
    surplus (bytes "[00x]") 1 (refusal (Unknown (byte "x")) 4)
    ∷ surplus (bytes "[00") 1 (refusal WrongEndArray 3)
    ∷ surplus (bytes "{x=[007c") 4 (refusal WrongEndArray 8)
    ∷ surplus (bytes "{x=b01") 4 (refusal (WrongEndContainer Struct) 6)
    ∷ surplus (bytes "[00c]00") 1 (refusal NotAllConsumed 5)
    -- the number itself is too large
    ∷ surplus (bytes "b0256") 1 (refusal IntegerTooLarge 5)
    ∷ surplus (bytes "b00i256") 1 (refusal IntegerTooLarge 7)
    ∷ surplus (bytes "b0i0256") 3 (refusal IntegerTooLarge 7)
    ∷ surplus (bytes "[018446744073709551616c]") 1 (refusal IntegerTooLarge 22)
    ∷ []

-- No surplus zero: one digit, no zero first, or no number.
unfoldable pub no_surplus_zero : List Case
no_surplus_zero =
    alike (bytes "[0c]") (tree (array 0) char)
    ∷ alike (bytes "[10c]") (tree (array 10) char)
    ∷ alike (bytes "b0") (tree (bit_field 0) end)
    ∷ alike (bytes "b0i0") (tree (typed_bit_field 0 0) int)
    ∷ alike (bytes "{b01=i}") (tree (struct (bytes "b01")) int)
    ∷ alike (bytes "@\"[00\"") (tree (primitive (kind_of Object)) end)
    ∷ alike [] (tree T.none end)
    ∷ []

-- Whole-text reading refuses, and meets no surplus zero before.
unfoldable pub refused_before : List Case
refused_before =
    alike (bytes "x[00c]") (refusal (Unknown (byte "x")) 1)
    ∷ alike (bytes "]00") (refusal (Unknown (byte "]")) 1)
    ∷ alike (bytes "j[007c]") (refusal (UnknownAfterComplex (byte "[")) 1)
    ∷ alike (bytes "{x[00c]}") (refusal (InvalidIdentifier Struct) 7)
    ∷ alike (bytes "{[00c]") (refusal (WrongEndContainer Struct) 6)
    ∷ alike (bytes "@\"[00") (refusal UnexpectedEnd 5)
    ∷ alike (bytes "bi00") (refusal ExpectedInteger 1)
    ∷ alike (bytes "b18446744073709551616i00") (refusal IntegerTooLarge 21)
    -- what is left over is not read
    ∷ alike (bytes "[7c][007c]") (refusal NotAllConsumed 4)
    ∷ alike (bytes "b5i") (refusal NotAllConsumed 2)
    ∷ alike (bytes "b5x00") (refusal NotAllConsumed 2)
    ∷ []

unfoldable pub cases : List Case
cases = trees ++ (refused_later ++ (no_surplus_zero ++ refused_before))
