-- What `writable` leaves in, and why it asks for each of its conditions.
use Rattle.std.specs.Prelude.{ℕ, ◌≡◌, Bool, true, false, not, List, [], ◌∷◌, leb}
use Rattle.std.specs.Prelude.{None}
use Rattle.kinds.specs.Byte.{byte, bytes}
use Rattle.kinds.specs.Parse.{max_u32}
use Rattle.kinds.specs.Primitive.{kind_of}
use Rattle.kinds.specs.Print.{print}
use Rattle.kinds.specs.Tree as T
use Rattle.kinds.specs.Tree.{Label, Trees, end, node, primitive, bit_field, pointer, atomic, struct, shown}
use Rattle.kinds.specs.declared.NestingLevel.TheVariants.{Top}
use Rattle.kinds.specs.declared.Primitive.TheVariants as P
use Rattle.agreement.specs.MarkedCases as M
use Rattle.agreement.specs.ReadTree.{read_tree}
use Rattle.agreement.specs.Sound.{sound}
use Rattle.signature.specs.Signature.{entry, signature}
use Rattle.signature_agreement.specs.Cases.{Outcome, gives, refuses, outcome, refused, refused_at}
use Rattle.signature_agreement.specs.Pieces.{piece}
use Rattle.signature_agreement.specs.Written.{Item, written, not_empty, ends_open, all_writable}

-- A node without children, and the trees after it.
abbrev leaf : Label → Trees → Trees
leaf l ts = node l end ts

-- The four conditions, one by one: sound, not empty, not ending in a digit, `^` or `A`, at most 32 bits.
unfoldable pub conditions : Item → List Bool
conditions x = sound x.0 ∷ not_empty (print Top x.0) ∷ not (ends_open (print Top x.0)) ∷ leb x.1 max_u32 ∷ []

-- An item, the conditions that it meets, the text written from it alone, and what becomes of that text.
abbrev pub Row : Type 0
Row = Item × List Bool × List ℕ × Outcome

abbrev pub AllHold : List Row → Type 0
AllHold [] = Unit {0}
AllHold (r ∷ rs) = ((conditions r.0 ≡ r.1) × (written (r.0 ∷ []) ≡ r.2) × (outcome (signature r.2) ≡ r.3)) × AllHold rs

-- Each item fails one condition and is not read back.
unfoldable pub needed : List Row
needed =
    -- None prints nothing
    ((leaf T.none end, 5), true ∷ false ∷ true ∷ true ∷ [], bytes "5", refused_at 8 0 (byte "5"))
    -- the number's digit is taken for one of the bitfield's
    ∷ ((leaf (bit_field 16) end, 8), true ∷ true ∷ false ∷ true ∷ [], bytes "b168", refused 16 4)
    -- and here for what is pointed to, or atomic
    ∷ ((node pointer (leaf T.none end) end, 5), true ∷ true ∷ false ∷ true ∷ [], bytes "^5", refused_at 8 1 (byte "5"))
    ∷ ((node atomic (leaf T.none end) end, 5), true ∷ true ∷ false ∷ true ∷ [], bytes "A5", refused_at 8 1 (byte "5"))
    ∷ ((leaf (primitive (kind_of P.Void)) end, 4294967296), true ∷ true ∷ true ∷ false ∷ [], bytes "v4294967296", refused 17 11)
    -- a bad name: the struct is taken to end within it
    ∷ ((leaf (struct (bytes "x}5")) end, 8), false ∷ true ∷ true ∷ true ∷ [], bytes "{x}5=}8", refused_at 8 5 (byte "="))
    ∷ []

-- A struct of Object and Unknown is not sound. Its text is read, but as a struct of a Block.
unfoldable pub ambiguous : Trees
ambiguous = node (struct (bytes "x")) (leaf (primitive (kind_of P.Object)) (leaf (primitive (kind_of P.Unknown)) end)) end

abbrev pub Ambiguous : Type 0
Ambiguous =
    (conditions (ambiguous, 8) ≡ false ∷ true ∷ true ∷ true ∷ [])
    × (outcome (signature (written ((ambiguous, 8) ∷ []))) ≡ gives (entry 0 6 8 ∷ []))
    × (read_tree (piece (written ((ambiguous, 8) ∷ [])) (entry 0 6 8)) ≡ shown Top ambiguous → ⊥)

-- Nothing is written from no item, and the empty signature is refused.
abbrev pub NoItem : Type 0
NoItem = outcome (signature (written [])) ≡ refuses (M.refused 18 None None None)

-- A method's signature can be written.
unfoldable pub method : List Item
method =
    (leaf (primitive (kind_of P.Void)) end, 24) ∷ (leaf (primitive (kind_of P.Object)) end, 0) ∷ (leaf (primitive (kind_of P.Sel)) end, 8)
    ∷ (node pointer (node (struct (bytes "R")) (leaf (bit_field 3) end) end) end, 16) ∷ []

abbrev pub MethodWritable : Type 0
MethodWritable = (all_writable method ≡ true) × (written method ≡ bytes "v24@0:8^{R=b3}16")
