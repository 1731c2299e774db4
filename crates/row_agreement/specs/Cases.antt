-- Texts and the sizes of the trees that they are read as, in rows, as one table: 02's cases (N5 and N6), 01's sizes and more where one rule meets another.
-- Beside it the 96 numbers of the table of sizes.
use Rattle.std.specs.Prelude.{ℕ, List, [], ◌∷◌, ◌++◌, ◌≡◌}
use Rattle.kinds.specs.Byte.{bytes}
use Rattle.kinds.specs.Parse.{Whole, tree, refusal, from_str}
use Rattle.kinds.specs.Refusal.{number}
use Rattle.kinds.specs.Tree.{end, node}
use Rattle.helper.specs.Answer.{sized_in}
use Rattle.std.specs.Prelude.{Option, Some, None, Result, Ok, Err}
use Rattle.kinds.specs.declared.Refusal.{Refusal}

-- No size, a size, or a refusal by its number; or the text is not read.
pub data Told : Type 0 where
  unread : Told
  nothing : Told
  size : ℕ → Told
  refused : ℕ → Told

abbrev pub told : Result (Option ℕ) Refusal → Told
told (Err r) = refused (number r)
told (Ok None) = nothing
told (Ok (Some n)) = size n

unfoldable pub told_of : ℕ → Whole → Told
told_of row (tree l cs) = told (sized_in row (node l cs end))
told_of row (refusal e at) = unread

pub data Case : Type 0 where
  -- A text and what is told in rows 0, 1, 2 and 3.
  in_rows : List ℕ → Told → Told → Told → Told → Case
  -- A row number, a text and what is told.
  in_row : ℕ → List ℕ → Told → Case

-- The same in all of them.
abbrev pub in_each : List ℕ → Told → Case
in_each s a = in_rows s a a a a

-- What a case claims.
abbrev pub Holds : Case → Type 0
Holds (in_rows s a b c d) = (told_of 0 (from_str s) ≡ a) × (told_of 1 (from_str s) ≡ b) × (told_of 2 (from_str s) ≡ c) × (told_of 3 (from_str s) ≡ d)
Holds (in_row row s a) = told_of row (from_str s) ≡ a

abbrev pub AllHold : List Case → Type 0
AllHold [] = Unit {0}
AllHold (c ∷ cs) = Holds c × AllHold cs

-- What has a width of the machine's own: long, unsigned long, pointers and long double.
unfoldable pub widths_own : List Case
widths_own =
    in_rows (bytes "l") (size 8) (size 8) (size 4) (size 4)
    ∷ in_rows (bytes "L") (size 8) (size 8) (size 4) (size 8)
    ∷ in_rows (bytes "*") (size 8) (size 8) (size 4) (size 8)
    ∷ in_rows (bytes "@") (size 8) (size 8) (size 4) (size 8)
    ∷ in_rows (bytes "@?") (size 8) (size 8) (size 4) (size 8)
    ∷ in_rows (bytes "#") (size 8) (size 8) (size 4) (size 8)
    ∷ in_rows (bytes ":") (size 8) (size 8) (size 4) (size 8)
    ∷ in_rows (bytes "^v") (size 8) (size 8) (size 4) (size 8)
    ∷ in_rows (bytes "D") (size 8) (size 16) (size 8) (size 8)
    ∷ in_rows (bytes "jD") (size 16) (size 32) (size 16) (size 16)
    -- among fields, members and items, in an atomic, after a qualifier
    ∷ in_rows (bytes "{R=i^v}") (size 12) (size 12) (size 8) (size 12)
    ∷ in_rows (bytes "{R=lD^v}") (size 24) (size 32) (size 16) (size 20)
    ∷ in_rows (bytes "{R=lL}") (size 16) (size 16) (size 8) (size 12)
    ∷ in_rows (bytes "{R=cl}") (size 9) (size 9) (size 5) (size 5)
    ∷ in_rows (bytes "{R=ll}") (size 16) (size 16) (size 8) (size 8)
    ∷ in_rows (bytes "(U=lD)") (size 8) (size 16) (size 8) (size 8)
    ∷ in_rows (bytes "(U=lL)") (size 8) (size 8) (size 4) (size 8)
    ∷ in_rows (bytes "(U=li)") (size 8) (size 8) (size 4) (size 4)
    ∷ in_rows (bytes "(U=lv)") (size 8) (size 8) (size 4) (size 4)
    ∷ in_rows (bytes "(U=l[6c])") (size 8) (size 8) (size 6) (size 6)
    ∷ in_rows (bytes "[3D]") (size 24) (size 48) (size 24) (size 24)
    ∷ in_rows (bytes "[3l]") (size 24) (size 24) (size 12) (size 12)
    ∷ in_rows (bytes "[2{R=l(U=L)}]") (size 32) (size 32) (size 16) (size 24)
    ∷ in_rows (bytes "A^v") (size 8) (size 8) (size 4) (size 8)
    ∷ in_rows (bytes "Al") (size 8) (size 8) (size 4) (size 4)
    ∷ in_rows (bytes "rl") (size 8) (size 8) (size 4) (size 4)
    -- behind pointers
    ∷ in_rows (bytes "^l") (size 8) (size 8) (size 4) (size 8)
    ∷ in_rows (bytes "{R=^{S=l}l}") (size 16) (size 16) (size 8) (size 12)
    ∷ in_rows (bytes "^^{R=i}") (size 8) (size 8) (size 4) (size 8)
    -- a bitfield's type against its bits
    ∷ in_rows (bytes "b0l3") (size 8) (size 8) (size 4) (size 4)
    ∷ in_rows (bytes "b0L3") (size 8) (size 8) (size 4) (size 8)
    ∷ in_rows (bytes "b0l32") (size 8) (size 8) (size 4) (size 4)
    ∷ in_each (bytes "b0l33") (size 8)
    ∷ in_each (bytes "b0L33") (size 8)
    ∷ []

-- What is the same on all machines.
unfoldable pub alike : List Case
alike =
    in_each (bytes "c") (size 1)
    ∷ in_each (bytes "s") (size 2)
    ∷ in_each (bytes "i") (size 4)
    ∷ in_each (bytes "q") (size 8)
    ∷ in_each (bytes "C") (size 1)
    ∷ in_each (bytes "S") (size 2)
    ∷ in_each (bytes "I") (size 4)
    ∷ in_each (bytes "Q") (size 8)
    ∷ in_each (bytes "f") (size 4)
    ∷ in_each (bytes "d") (size 8)
    ∷ in_each (bytes "jf") (size 8)
    ∷ in_each (bytes "jd") (size 16)
    ∷ in_each (bytes "B") (size 1)
    ∷ in_each (bytes "v") nothing
    ∷ in_each (bytes "?") nothing
    ∷ in_each [] nothing
    ∷ in_each (bytes "{x=}") (size 0)
    ∷ in_each (bytes "(x=)") nothing
    ∷ in_each (bytes "(U=vi)") (size 4)
    ∷ in_each (bytes "b0") (size 1)
    ∷ in_each (bytes "b255") (size 32)
    ∷ in_each (bytes "b0i3") (size 4)
    ∷ in_each (bytes "A{R=i}") nothing
    ∷ in_each (bytes "A{R=l}") nothing
    ∷ in_each (bytes "[0v]") nothing
    ∷ in_each (bytes "{R=lv}") nothing
    ∷ in_each (bytes "[0l]") (size 0)
    ∷ []

-- Around the largest size: refusal 6, none before it, and 0 times any size.
unfoldable pub large : List Case
large =
    in_each (bytes "[4294967295c]") (size 4294967295)
    ∷ in_rows (bytes "[4294967296c]") (size 4294967296) (size 4294967296) (refused 6) (size 4294967296)
    ∷ in_rows (bytes "[1073741823l]") (size 8589934584) (size 8589934584) (size 4294967292) (size 4294967292)
    ∷ in_rows (bytes "[1073741824l]") (size 8589934592) (size 8589934592) (refused 6) (size 4294967296)
    ∷ in_rows (bytes "{R=[4294967295c]c}") (size 4294967296) (size 4294967296) (refused 6) (size 4294967296)
    ∷ in_rows (bytes "(U=[4294967296c]v)") (size 4294967296) (size 4294967296) (refused 6) (size 4294967296)
    ∷ in_rows (bytes "[18446744073709551615c]") (size 18446744073709551615) (size 18446744073709551615) (refused 6) (size 18446744073709551615)
    ∷ in_each (bytes "{R=[18446744073709551615c]c}") (refused 6)
    ∷ in_each (bytes "[18446744073709551615q]") (refused 6)
    ∷ in_rows (bytes "[1152921504606846976D]") (size 9223372036854775808) (refused 6) (refused 6) (size 9223372036854775808)
    -- around 2^64 in row 3, where long has 4 bytes and unsigned long 8
    ∷ in_rows (bytes "[2305843009213693951L]") (size 18446744073709551608) (size 18446744073709551608) (refused 6) (size 18446744073709551608)
    ∷ in_each (bytes "[2305843009213693952L]") (refused 6)
    ∷ in_rows (bytes "[2305843009213693952l]") (refused 6) (refused 6) (refused 6) (size 9223372036854775808)
    ∷ in_rows (bytes "[4611686018427387903l]") (refused 6) (refused 6) (refused 6) (size 18446744073709551612)
    ∷ in_each (bytes "[4611686018427387904l]") (refused 6)
    ∷ in_rows (bytes "{R=[4611686018427387903l]sc}") (refused 6) (refused 6) (refused 6) (size 18446744073709551615)
    ∷ in_each (bytes "{R=[4611686018427387903l]i}") (refused 6)
    -- none goes before too large, and 0 times too large is 0
    ∷ in_each (bytes "{R=v[18446744073709551615q]}") nothing
    ∷ in_each (bytes "{R=[18446744073709551615q]v}") nothing
    ∷ in_each (bytes "[0[4294967296c]]") (size 0)
    ∷ in_each (bytes "[0[18446744073709551615q]]") (size 0)
    ∷ in_each (bytes "[0[4611686018427387904l]]") (size 0)
    ∷ in_each (bytes "{R=[0[4294967296c]]i}") (size 4)
    ∷ in_each (bytes "[0{R=v[18446744073709551615q]}]") nothing
    ∷ []

-- Numbers that are no row's: 20 whatever the tree's size is.
unfoldable pub no_row : List Case
no_row =
    in_row 4 (bytes "i") (refused 20)
    ∷ in_row 4 (bytes "v") (refused 20)
    ∷ in_row 4 (bytes "[18446744073709551615q]") (refused 20)
    ∷ in_row 4294967296 (bytes "i") (refused 20)
    ∷ in_row 4294967299 (bytes "l") (refused 20)
    ∷ in_row 18446744073709551615 (bytes "v") (refused 20)
    ∷ []

unfoldable pub cases : List Case
cases = widths_own ++ (alike ++ (large ++ no_row))

-- The four rows of 24 sizes, in the order of `Primitive`; 0 for none.
abbrev pub table : List (List ℕ)
table =
    (1 ∷ 2 ∷ 4 ∷ 8 ∷ 8 ∷ 1 ∷ 2 ∷ 4 ∷ 8 ∷ 8 ∷ 4 ∷ 8 ∷ 8 ∷ 8 ∷ 16 ∷ 16 ∷ 1 ∷ 0 ∷ 8 ∷ 8 ∷ 8 ∷ 8 ∷ 8 ∷ 0 ∷ [])
    ∷ (1 ∷ 2 ∷ 4 ∷ 8 ∷ 8 ∷ 1 ∷ 2 ∷ 4 ∷ 8 ∷ 8 ∷ 4 ∷ 8 ∷ 16 ∷ 8 ∷ 16 ∷ 32 ∷ 1 ∷ 0 ∷ 8 ∷ 8 ∷ 8 ∷ 8 ∷ 8 ∷ 0 ∷ [])
    ∷ (1 ∷ 2 ∷ 4 ∷ 4 ∷ 8 ∷ 1 ∷ 2 ∷ 4 ∷ 4 ∷ 8 ∷ 4 ∷ 8 ∷ 8 ∷ 8 ∷ 16 ∷ 16 ∷ 1 ∷ 0 ∷ 4 ∷ 4 ∷ 4 ∷ 4 ∷ 4 ∷ 0 ∷ [])
    ∷ (1 ∷ 2 ∷ 4 ∷ 4 ∷ 8 ∷ 1 ∷ 2 ∷ 4 ∷ 8 ∷ 8 ∷ 4 ∷ 8 ∷ 8 ∷ 8 ∷ 16 ∷ 16 ∷ 1 ∷ 0 ∷ 8 ∷ 8 ∷ 8 ∷ 8 ∷ 8 ∷ 0 ∷ []) ∷ []
