-- Where the crate parts from the documents, as rows that hold of the definitions of both (docs/DIFFERENCES.md has them in words).
use Rattle.std.specs.Prelude.{ℕ, zero, ◌*◌, ◌^◌, ◌≡◌, true, false, List, [], ◌∷◌, ◌++◌}
use Rattle.std.specs.Prelude.{Option, Some, None}
use Rattle.kinds.specs.Byte.{byte, bytes}
use Rattle.kinds.specs.Compare.{equivalent_to}
use Rattle.kinds.specs.Parse.{Whole, tree, refusal, from_str}
use Rattle.kinds.specs.Primitive.{widths}
use Rattle.kinds.specs.Print.{print}
use Rattle.kinds.specs.Refusal.{number}
use Rattle.kinds.specs.Size.{size}
use Rattle.kinds.specs.Tree as T
use Rattle.kinds.specs.Tree.{Label, Trees, end, node}
use Rattle.kinds.specs.declared.NestingLevel.TheVariants.{Top}
use Rattle.kinds.specs.declared.Primitive.TheVariants as P
use Rattle.kinds.specs.declared.Refusal.TheVariants.{Parse}
use Rattle.agreement.specs.ReadTree.{read_tree}
use Rattle.documents.specs.Gcc as C
use Rattle.documents.specs.Guide as G
use Rattle.documents.specs.Guide.{Meaning, Types, only, pointer_to, encode, begins, is_type, letters}
use Rattle.documents.specs.Translation.{one, trees}

pub data Row : Type 0 where
  -- The guide encodes the type as the first text, and the crate prints it as the second.
  writes : Types → List ℕ → List ℕ → Row
  -- The guide encodes the type as the text, and the crate reads the text as another tree.
  reads_other : Types → List ℕ → Trees → Row
  -- The guide encodes the type as the first text; the crate reads the second as well, and prints the first.
  also_reads : Types → List ℕ → List ℕ → Row
  -- No type of the guide's would be encoded as the text, and the crate reads it as the tree.
  no_type : Types → List ℕ → Trees → Row
  -- The guide does not define the type; the crate reads it from the first text and prints the second.
  undefined : Types → List ℕ → List ℕ → Row
  -- No encoding of the guide's begins with the text's first byte; the crate reads the text as the tree and prints the second text.
  no_code : ℕ → List ℕ → Trees → List ℕ → Row
  -- The bits that the guide states for the code; its bytes in row 0, which are the crate's, and in row 3, which are the guide's bits.
  width : Meaning → ℕ → ℕ → ℕ → Row
  -- The guide encodes the type as the text, which the crate refuses, with 01's number and the place.
  refuses_type : Types → List ℕ → ℕ → ℕ → Row
  -- What the document's definitions give is the text, which the crate refuses.
  refuses : List ℕ → List ℕ → ℕ → ℕ → Row
  -- What the document's definitions give are two texts for one thing, whose trees never match.
  differ : List ℕ → List ℕ → Row
  -- The crate reads the text as the tree.
  reads : List ℕ → Trees → Row

unfoldable pub refused_with : Whole → Option (ℕ × ℕ)
refused_with (tree l cs) = None
refused_with (refusal e place) = Some (number (Parse e place), place)

-- The crate refuses the text.
abbrev pub Refuses : List ℕ → ℕ → ℕ → Type 0
Refuses s n place = refused_with (from_str s) ≡ Some (n, place)

-- What a row claims.
abbrev pub Holds : Row → Type 0
Holds (writes t g s) = (is_type t ≡ true) × (encode zero t ≡ g) × (print Top (trees t) ≡ s)
Holds (reads_other t s u) = (is_type t ≡ true) × (encode zero t ≡ s) × (read_tree s ≡ u)
Holds (also_reads t g s) = (is_type t ≡ true) × (encode zero t ≡ g) × (print Top (read_tree s) ≡ g)
Holds (no_type t s u) = (is_type t ≡ false) × (encode zero t ≡ s) × (read_tree s ≡ u)
Holds (undefined t s p) = (is_type t ≡ false) × (read_tree s ≡ trees t) × (print Top (trees t) ≡ p)
Holds (no_code b s u p) = (begins b ≡ false) × (read_tree (b ∷ s) ≡ u) × (print Top u ≡ p)
Holds (width m bits a b) = (G.bits m ≡ Some bits) × (size (widths 0) (read_tree (encode zero (only m))) ≡ Some a) × (size (widths 3) (read_tree (encode zero (only m))) ≡ Some b) × (8 * b ≡ bits)
Holds (refuses_type t s n place) = (is_type t ≡ true) × (encode zero t ≡ s) × Refuses s n place
Holds (refuses d s n place) = (d ≡ s) × Refuses s n place
Holds (differ s t) = (equivalent_to (read_tree s) (read_tree t) ≡ false) × (equivalent_to (read_tree t) (read_tree s) ≡ false)
Holds (reads s t) = read_tree s ≡ t

abbrev pub AllHold : List Row → Type 0
AllHold [] = Unit {0}
AllHold (r ∷ rs) = Holds r × AllHold rs

abbrev pub leaf : Label → Trees
leaf l = node l end end

abbrev pub holding : Label → Trees → Trees
holding l t = node l t end

-- The guide's structure of that name.
abbrev pub structure : List ℕ → Types → Types
structure s fs = G.structure s fs G.none

-- Against the guide.
unfoldable pub guide_differences : List Row
guide_differences =
    -- Long double.
    writes (G.long_double G.none) (bytes "d") (bytes "D")
    -- Read, and no code of the guide's: long double, complex types, atomics, whose fields are dropped.
    ∷ no_code (byte "D") (bytes "") (one P.LongDouble) (bytes "D")
    ∷ no_code (byte "j") (bytes "f") (one P.FloatComplex) (bytes "jf")
    ∷ no_code (byte "A") (bytes "i") (holding T.atomic (one P.Int)) (bytes "Ai")
    ∷ no_code (byte "A") (bytes "{x=i}") (holding T.atomic (holding (T.struct (bytes "x")) (one P.Int))) (bytes "A{x}")
    -- Read otherwise: an object and an unknown type as a block.
    ∷ no_type (G.simple G.object (only G.unknown)) (bytes "@?") (one P.Block)
    ∷ reads_other (structure (bytes "x") (G.simple G.object (only G.unknown))) (bytes "{x=@?}") (holding (T.struct (bytes "x")) (one P.Block))
    ∷ reads (bytes "b0i0") (holding (T.typed_bit_field 0 0) (one P.Int))
    -- Fields dropped where the guide does not say so: in a record, of a union, of an array's item.
    ∷ undefined (structure (bytes "x") (pointer_to (structure (bytes "y") (only G.int)))) (bytes "{x=^{y=i}}") (bytes "{x=^{y}}")
    ∷ writes (pointer_to (pointer_to (G.union (bytes "x") (only G.int) G.none))) (bytes "^^(x)") (bytes "^^(x)")
    ∷ writes (pointer_to (pointer_to (G.array 2 (structure (bytes "x") (only G.int)) G.none))) (bytes "^^[2{x}]") (bytes "^^[2{x}]")
    ∷ width G.long 32 8 4
    -- Texts that the guide writes otherwise: without the class name, without `=` at the top, with fields behind two pointers, with surplus zeros.
    ∷ also_reads (only G.object) (bytes "@") (bytes "@\"\"")
    ∷ also_reads (structure (bytes "x") G.none) (bytes "{x=}") (bytes "{x}")
    ∷ also_reads (pointer_to (pointer_to (structure (bytes "x") (only G.int)))) (bytes "^^{x}") (bytes "^^{x=i}")
    ∷ also_reads (G.bit_field 0 G.none) (bytes "b0") (bytes "b00")
    -- A name that begins with a digit; nothing where a type must stand.
    ∷ undefined (structure (bytes "0") G.none) (bytes "{0}") (bytes "{0=}")
    ∷ no_type G.none (bytes "") (leaf T.none)
    ∷ no_type (pointer_to G.none) (bytes "^") (holding T.pointer (leaf T.none))
    ∷ no_type (G.array 0 G.none G.none) (bytes "[0]") (holding (T.array 0) (leaf T.none))
    -- Qualifiers and no type.
    ∷ reads (letters (G.const ∷ []) ++ encode zero G.none) (leaf T.none)
    -- Refused: a bit field of more than 255 bits, an array of 2^64 items, a qualifier that is not at the start.
    ∷ refuses_type (G.bit_field 256 G.none) (bytes "b256") 11 4
    ∷ refuses_type (G.array (2 ^ 64) (only G.char) G.none) (bytes "[18446744073709551616c]") 11 21
    ∷ refuses (byte "^" ∷ (letters (G.const ∷ []) ++ encode zero (only G.char))) (bytes "^rc") 8 2
    ∷ []

-- Against GCC's manual: vectors, 128-bit integers, also as types of bit-fields, complex integers, large bit-fields; a bit-field in both forms.
unfoldable pub gcc_differences : List Row
gcc_differences =
    refuses (C.vector ∷ []) (bytes "!") 8 1
    ∷ refuses (C.wide_code C.int128 ∷ []) (bytes "t") 8 1
    ∷ refuses (C.wide_code C.unsigned_int128 ∷ []) (bytes "T") 8 1
    ∷ refuses (C.wide_bit_field 0 C.int128 1) (bytes "b0t1") 15 2
    ∷ refuses (C.wide_bit_field 0 C.unsigned_int128 1) (bytes "b0T1") 15 2
    ∷ refuses (C.complex (C.code C.int ∷ [])) (bytes "ji") 9 1
    ∷ refuses (C.bit_field 0 C.int 256) (bytes "b0i256") 11 6
    ∷ differ (C.bit_field 0 C.int 1) (C.older_bit_field 1)
    ∷ []

-- Against clang's texts, for which there is no document: quoted field names, names of C++ templates, the space that stands for a half float.
unfoldable pub clang_differences : List (List ℕ × ℕ × ℕ)
clang_differences = (bytes "{x=\"a\"i}", 8, 4) ∷ (bytes "{a<b>=i}", 14, 5) ∷ (bytes " ", 8, 1) ∷ []

abbrev pub AllRefused : List (List ℕ × ℕ × ℕ) → Type 0
AllRefused [] = Unit {0}
AllRefused (r ∷ rs) = Refuses r.0 r.1 r.2 × AllRefused rs
