-- What one spelling for registration leaves, and why it asks for each of its premises.
use Rattle.std.specs.Prelude.{ℕ, ◌≡◌, true, List}
use Rattle.kinds.specs.Byte.{bytes}
use Rattle.kinds.specs.Parse.{Whole, tree, strip_leading_qualifiers, from_str}
use Rattle.kinds.specs.Primitive.{kind_of}
use Rattle.kinds.specs.Strict.{from_str_strict}
use Rattle.kinds.specs.Tree.{Label, Trees, end, node, primitive, array, struct, union}
use Rattle.kinds.specs.declared.Primitive.TheVariants as P
use Rattle.strict_agreement.specs.Spelling.{short, unquoted, Registers}

-- `=` before a closer is left: both texts register the tree.
abbrev pub StructsLeft : Type 0
StructsLeft = Registers (bytes "{x}") (struct (bytes "x")) end × Registers (bytes "{x=}") (struct (bytes "x")) end × (bytes "{x}" ≡ bytes "{x=}" → ⊥)

abbrev pub UnionsLeft : Type 0
UnionsLeft = Registers (bytes "(x)") (union (bytes "x")) end × Registers (bytes "(x=)") (union (bytes "x")) end × (bytes "(x)" ≡ bytes "(x=)" → ⊥)

-- Reading gives a tree of `s` that `t` registers, and they differ in more than that.
pub record AnotherSpelling (reading : List ℕ → Whole) (s t : List ℕ) (l : Label) (cs : Trees) : Type 0 where
  pub gives : reading s ≡ tree l cs
  pub registers : Registers t l cs
  pub differ : short s ≡ short t → ⊥

-- Each first text meets every premise but one: it has a qualifier, a class name, or by ordinary reading surplus zeros.
abbrev pub QualifiersMatter : Type 0
QualifiersMatter = AnotherSpelling from_str_strict (bytes "ri") (bytes "i") (primitive (kind_of P.Int)) end × (unquoted (bytes "ri") ≡ true)

abbrev pub ClassNamesMatter : Type 0
ClassNamesMatter =
    AnotherSpelling from_str_strict (bytes "@\"a\"") (bytes "@") (primitive (kind_of P.Object)) end
    × (strip_leading_qualifiers (bytes "@\"a\"") ≡ bytes "@\"a\"")

abbrev pub ZerosMatter : Type 0
ZerosMatter =
    AnotherSpelling from_str (bytes "[007c]") (bytes "[7c]") (array 7) (node (primitive (kind_of P.Char)) end end)
    × (strip_leading_qualifiers (bytes "[007c]") ≡ bytes "[007c]")
    × (unquoted (bytes "[007c]") ≡ true)
