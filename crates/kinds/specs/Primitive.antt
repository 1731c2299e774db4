-- Primitives (helper.rs, `Primitive`): their kind words in a sheet (01, "The sheet"), codes, equivalents and sizes.
use Rattle.std.specs.Prelude.{ℕ, ◌*◌, Bool, cond, ◌&&◌, ◌||◌, List, [], ◌∷◌, map, eqb, leb, get_or}
use Rattle.std.specs.Prelude.{Option, Some, None, unwrap_or}
use Rattle.kinds.specs.Byte.{bytes, among}
use Rattle.kinds.specs.declared.Code.{Code}
use Rattle.kinds.specs.declared.Code.TheVariants.{Empty, One, Two}
use Rattle.kinds.specs.declared.Primitive.{Primitive}
use Rattle.kinds.specs.declared.Primitive.TheVariants as P

-- The kind of a primitive: its place in `Primitive`.
abbrev pub kind_of : Primitive → ℕ
kind_of P.Char = 0
kind_of P.Short = 1
kind_of P.Int = 2
kind_of P.Long = 3
kind_of P.LongLong = 4
kind_of P.UChar = 5
kind_of P.UShort = 6
kind_of P.UInt = 7
kind_of P.ULong = 8
kind_of P.ULongLong = 9
kind_of P.Float = 10
kind_of P.Double = 11
kind_of P.LongDouble = 12
kind_of P.FloatComplex = 13
kind_of P.DoubleComplex = 14
kind_of P.LongDoubleComplex = 15
kind_of P.Bool = 16
kind_of P.Void = 17
kind_of P.String = 18
kind_of P.Object = 19
kind_of P.Block = 20
kind_of P.Class = 21
kind_of P.Sel = 22
kind_of P.Unknown = 23

-- The codes, in the order of `Primitive`.
unfoldable pub codes : List (List ℕ)
codes =
    bytes "c" ∷ bytes "s" ∷ bytes "i" ∷ bytes "l" ∷ bytes "q"
    ∷ bytes "C" ∷ bytes "S" ∷ bytes "I" ∷ bytes "L" ∷ bytes "Q"
    ∷ bytes "f" ∷ bytes "d" ∷ bytes "D" ∷ bytes "jf" ∷ bytes "jd" ∷ bytes "jD"
    ∷ bytes "B" ∷ bytes "v" ∷ bytes "*" ∷ bytes "@" ∷ bytes "@?" ∷ bytes "#" ∷ bytes ":" ∷ bytes "?" ∷ []

-- The code of the primitive of kind `p` (`to_str`); other kinds have none.
unfoldable pub code : ℕ → List ℕ
code p = get_or codes p []

-- The bytes of a code as the functions hand it out.
abbrev pub code_bytes : Code → List ℕ
code_bytes Empty = []
code_bytes (One b) = b ∷ []
code_bytes (Two b c) = b ∷ c ∷ []

-- Object, Block and Class, which are one group.
unfoldable pub is_object : ℕ → Bool
is_object p = among p (19 ∷ 20 ∷ 21 ∷ [])

-- `q` is one of the equivalents of `p`; a kind that is no primitive is equivalent to itself alone.
unfoldable pub equivalent : ℕ → ℕ → Bool
equivalent p q = eqb p q || (is_object p && is_object q)

-- The widths, in bytes, that machines have of their own.
pub record Widths : Type 0 where
  pub long : ℕ
  pub unsigned-long : ℕ
  pub pointer : ℕ
  pub long-double : ℕ

-- Char and bool 1, short 2, int and float 4, long long and double 8, complex twice its part; long, unsigned long, pointers and long double
-- are the machine's; void and Unknown have none (01, "Sizes"; 02, N5 and N6).
abbrev pub width : Widths → Primitive → Option ℕ
width w P.Char = Some 1
width w P.UChar = Some 1
width w P.Bool = Some 1
width w P.Short = Some 2
width w P.UShort = Some 2
width w P.Int = Some 4
width w P.UInt = Some 4
width w P.Float = Some 4
width w P.Long = Some w.long
width w P.ULong = Some w.unsigned-long
width w P.LongLong = Some 8
width w P.ULongLong = Some 8
width w P.Double = Some 8
width w P.LongDouble = Some w.long-double
width w P.String = Some w.pointer
width w P.Object = Some w.pointer
width w P.Block = Some w.pointer
width w P.Class = Some w.pointer
width w P.Sel = Some w.pointer
width w P.FloatComplex = Some (2 * 4)
width w P.DoubleComplex = Some (2 * 8)
width w P.LongDoubleComplex = Some (2 * w.long-double)
width w P.Void = None
width w P.Unknown = None

-- The primitives in order.
abbrev pub primitives : List Primitive
primitives =
    P.Char ∷ P.Short ∷ P.Int ∷ P.Long ∷ P.LongLong
    ∷ P.UChar ∷ P.UShort ∷ P.UInt ∷ P.ULong ∷ P.ULongLong
    ∷ P.Float ∷ P.Double ∷ P.LongDouble ∷ P.FloatComplex ∷ P.DoubleComplex ∷ P.LongDoubleComplex
    ∷ P.Bool ∷ P.Void ∷ P.String ∷ P.Object ∷ P.Block ∷ P.Class ∷ P.Sel ∷ P.Unknown ∷ []

-- The size of the primitive of kind `p`; other kinds have none.
unfoldable pub primitive_size : Widths → ℕ → Option ℕ
primitive_size w p = get_or (map (width w) primitives) p None

-- The machines in the order of their row numbers (02, N5 and N6): 64-bit Apple ARM, the machine of 01; x86_64; 32-bit ARM; and, as no machine
-- has it, the first with the long of Apple's guide.
abbrev pub machines : List Widths
machines =
    record { long = 8; unsigned-long = 8; pointer = 8; long-double = 8 }
    ∷ record { long = 8; unsigned-long = 8; pointer = 8; long-double = 16 }
    ∷ record { long = 4; unsigned-long = 4; pointer = 4; long-double = 8 }
    ∷ record { long = 4; unsigned-long = 8; pointer = 8; long-double = 8 } ∷ []

-- Whether there is a row of this number.
abbrev pub is_row : ℕ → Bool
is_row row = leb row 3

-- The widths of a row. A number that is no row's is turned away by the calls; here it has those of row 0.
abbrev pub widths : ℕ → Widths
widths row = get_or machines row (record { long = 8; unsigned-long = 8; pointer = 8; long-double = 8 })

-- The size of the primitive of kind `p` in a row; a number that is no row's has none.
unfoldable pub size_in : ℕ → ℕ → Option ℕ
size_in row p = cond (is_row row) (primitive_size (widths row) p) None

-- A machine's row of sizes in the order of `Primitive`, 0 for none, and the rows of all machines.
abbrev pub size_row : Widths → List ℕ
size_row w = map (λ p. unwrap_or (width w p) 0) primitives

abbrev pub size_rows : List (List ℕ)
size_rows = map size_row machines

-- The size that a number of such a row stands for.
unfoldable pub entry : ℕ → Option ℕ
entry n = cond (eqb n 0) None (Some n)
