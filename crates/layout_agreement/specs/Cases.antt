-- Texts and the layouts of the trees that they are read as, in rows, as one table: what 02 (N7) says by words, computed, and more where one rule meets another.
use Rattle.std.specs.Prelude.{ℕ, List, [], ◌∷◌, ◌++◌, ◌≡◌, length, replicate}
use Rattle.std.specs.Prelude.{Option, Some, None}
use Rattle.kinds.specs.Byte.{bytes}
use Rattle.kinds.specs.Parse.{Whole, tree, refusal, from_str}
use Rattle.kinds.specs.Refusal.{number, place}
use Rattle.kinds.specs.Tree.{end, node, count}
use Rattle.layout.specs.Answer.{layout_in, list_in}
use Rattle.std.specs.Prelude.{Result, Ok, Err}
use Rattle.kinds.specs.declared.Refusal.{Refusal}

-- No layout; a padded size, an alignment and the lent list after; or a refusal by its number and place; or the text is not read.
pub data Told : Type 0 where
  unread : Told
  nothing : Told
  laid : ℕ → ℕ → List ℕ → Told
  refused : ℕ → Option ℕ → Told

abbrev pub too_short : Told
too_short = refused 2 None

abbrev pub too_large : Told
too_large = refused 6 None

abbrev pub no_row : Told
no_row = refused 20 None

-- The number of the first bitfield.
abbrev pub bits : ℕ → Told
bits i = refused 21 (Some i)

abbrev pub told : Result (Option (ℕ × ℕ)) Refusal → List ℕ → Told
told (Err r) after = refused (number r) (place r)
told (Ok None) after = nothing
told (Ok (Some (n, a))) after = laid n a after

-- What is told of a text in a row with this list lent, and the list after.
unfoldable pub told_with : ℕ → List ℕ → Whole → Told
told_with row list (tree l cs) = told (layout_in row (length list) (node l cs end)) (list_in row (node l cs end) list)
told_with row list (refusal e at) = unread

unfoldable pub after : ℕ → List ℕ → Whole → List ℕ
after row list (tree l cs) = list_in row (node l cs end) list
after row list (refusal e at) = list

-- The same with as many numbers lent as there are nodes.
unfoldable pub told_of : ℕ → Whole → Told
told_of row (tree l cs) = told_with row (replicate (count (node l cs end)) 0) (tree l cs)
told_of row (refusal e at) = unread

pub data Case : Type 0 where
  -- A text and what is told in rows 0, 1, 2 and 3.
  in_rows : List ℕ → Told → Told → Told → Told → Case
  -- A row number, a text, a lent list, what is told and the list after.
  lent : ℕ → List ℕ → List ℕ → Told → List ℕ → Case

-- The same in all of them.
abbrev pub in_each : List ℕ → Told → Case
in_each s a = in_rows s a a a a

-- What a case claims.
abbrev pub Holds : Case → Type 0
Holds (in_rows s a b c d) = (told_of 0 (from_str s) ≡ a) × (told_of 1 (from_str s) ≡ b) × (told_of 2 (from_str s) ≡ c) × (told_of 3 (from_str s) ≡ d)
Holds (lent row s list a left) = (told_with row list (from_str s) ≡ a) × (after row list (from_str s) ≡ left)

abbrev pub AllHold : List Case → Type 0
AllHold [] = Unit {0}
AllHold (c ∷ cs) = Holds c × AllHold cs

-- What the request's rules decide, a rule or two in each.
unfoldable pub request : List Case
request =
    in_each (bytes "[2{R=ic}]") (laid 16 4 (0 ∷ 0 ∷ 0 ∷ 4 ∷ []))
    ∷ in_each (bytes "(U=vi)") nothing
    ∷ in_each (bytes "[0b3]") (bits 1)
    ∷ in_each (bytes "Ab3") (bits 1)
    ∷ in_each (bytes "A{R=b3}") nothing
    ∷ in_each (bytes "[0[18446744073709551615q]]") (laid 0 8 (0 ∷ 0 ∷ 0 ∷ []))
    ∷ in_each (bytes "[0{R=[18446744073709551615q]i}]") too_large
    ∷ in_each (bytes "{x=}") (laid 0 1 (0 ∷ []))
    ∷ in_each (bytes "(x=)") nothing
    ∷ in_each (bytes "[0v]") nothing
    ∷ in_each [] nothing
    ∷ in_each (bytes "v") nothing
    ∷ in_each (bytes "?") nothing
    ∷ in_each (bytes "{R=cv}") nothing
    ∷ in_each (bytes "{R=c?}") nothing
    ∷ in_each (bytes "(U=(V=)i)") nothing
    ∷ in_each (bytes "{R=A{S=i}c}") nothing
    ∷ in_each (bytes "(U=[0v]i)") nothing
    ∷ in_each (bytes "[0A{R=i}]") nothing
    ∷ in_each (bytes "{R=c[0(U=)]}") nothing
    ∷ []

-- What is laid out in each row: size, alignment and the numbers of the nodes.
unfoldable pub plain : List Case
plain =
    -- codes, and what is as wide as the machine says
    in_each (bytes "c") (laid 1 1 (0 ∷ []))
    ∷ in_each (bytes "s") (laid 2 2 (0 ∷ []))
    ∷ in_each (bytes "i") (laid 4 4 (0 ∷ []))
    ∷ in_rows (bytes "l") (laid 8 8 (0 ∷ [])) (laid 8 8 (0 ∷ [])) (laid 4 4 (0 ∷ [])) (laid 4 4 (0 ∷ []))
    ∷ in_rows (bytes "L") (laid 8 8 (0 ∷ [])) (laid 8 8 (0 ∷ [])) (laid 4 4 (0 ∷ [])) (laid 8 8 (0 ∷ []))
    ∷ in_each (bytes "q") (laid 8 8 (0 ∷ []))
    ∷ in_each (bytes "f") (laid 4 4 (0 ∷ []))
    ∷ in_each (bytes "d") (laid 8 8 (0 ∷ []))
    ∷ in_rows (bytes "D") (laid 8 8 (0 ∷ [])) (laid 16 16 (0 ∷ [])) (laid 8 8 (0 ∷ [])) (laid 8 8 (0 ∷ []))
    ∷ in_each (bytes "jf") (laid 8 4 (0 ∷ []))
    ∷ in_each (bytes "jd") (laid 16 8 (0 ∷ []))
    ∷ in_rows (bytes "jD") (laid 16 8 (0 ∷ [])) (laid 32 16 (0 ∷ [])) (laid 16 8 (0 ∷ [])) (laid 16 8 (0 ∷ []))
    ∷ in_each (bytes "B") (laid 1 1 (0 ∷ []))
    ∷ in_rows (bytes "*") (laid 8 8 (0 ∷ [])) (laid 8 8 (0 ∷ [])) (laid 4 4 (0 ∷ [])) (laid 8 8 (0 ∷ []))
    ∷ in_rows (bytes "@?") (laid 8 8 (0 ∷ [])) (laid 8 8 (0 ∷ [])) (laid 4 4 (0 ∷ [])) (laid 8 8 (0 ∷ []))
    ∷ in_rows (bytes ":") (laid 8 8 (0 ∷ [])) (laid 8 8 (0 ∷ [])) (laid 4 4 (0 ∷ [])) (laid 8 8 (0 ∷ []))
    ∷ in_rows (bytes "^v") (laid 8 8 (0 ∷ 0 ∷ [])) (laid 8 8 (0 ∷ 0 ∷ [])) (laid 4 4 (0 ∷ 0 ∷ [])) (laid 8 8 (0 ∷ 0 ∷ []))
    ∷ in_rows (bytes "^") (laid 8 8 (0 ∷ 0 ∷ [])) (laid 8 8 (0 ∷ 0 ∷ [])) (laid 4 4 (0 ∷ 0 ∷ [])) (laid 8 8 (0 ∷ 0 ∷ []))
    ∷ in_rows (bytes "^(x=)") (laid 8 8 (0 ∷ 0 ∷ [])) (laid 8 8 (0 ∷ 0 ∷ [])) (laid 4 4 (0 ∷ 0 ∷ [])) (laid 8 8 (0 ∷ 0 ∷ []))
    -- structs: holes, the end rounded up, fields in fields, nothing in them
    ∷ in_each (bytes "{R=ci}") (laid 8 4 (0 ∷ 0 ∷ 4 ∷ []))
    ∷ in_each (bytes "{R=ic}") (laid 8 4 (0 ∷ 0 ∷ 4 ∷ []))
    ∷ in_each (bytes "{R=cscicq}") (laid 24 8 (0 ∷ 0 ∷ 2 ∷ 4 ∷ 8 ∷ 12 ∷ 16 ∷ []))
    ∷ in_each (bytes "{R=cqc}") (laid 24 8 (0 ∷ 0 ∷ 8 ∷ 16 ∷ []))
    ∷ in_rows (bytes "{R=c^v}") (laid 16 8 (0 ∷ 0 ∷ 8 ∷ 0 ∷ [])) (laid 16 8 (0 ∷ 0 ∷ 8 ∷ 0 ∷ [])) (laid 8 4 (0 ∷ 0 ∷ 4 ∷ 0 ∷ [])) (laid 16 8 (0 ∷ 0 ∷ 8 ∷ 0 ∷ []))
    ∷ in_rows (bytes "{R=cl}") (laid 16 8 (0 ∷ 0 ∷ 8 ∷ [])) (laid 16 8 (0 ∷ 0 ∷ 8 ∷ [])) (laid 8 4 (0 ∷ 0 ∷ 4 ∷ [])) (laid 8 4 (0 ∷ 0 ∷ 4 ∷ []))
    ∷ in_rows (bytes "{R=cL}") (laid 16 8 (0 ∷ 0 ∷ 8 ∷ [])) (laid 16 8 (0 ∷ 0 ∷ 8 ∷ [])) (laid 8 4 (0 ∷ 0 ∷ 4 ∷ [])) (laid 16 8 (0 ∷ 0 ∷ 8 ∷ []))
    ∷ in_rows (bytes "{R=cD}") (laid 16 8 (0 ∷ 0 ∷ 8 ∷ [])) (laid 32 16 (0 ∷ 0 ∷ 16 ∷ [])) (laid 16 8 (0 ∷ 0 ∷ 8 ∷ [])) (laid 16 8 (0 ∷ 0 ∷ 8 ∷ []))
    ∷ in_rows (bytes "{R=c{S=D}c}") (laid 24 8 (0 ∷ 0 ∷ 8 ∷ 0 ∷ 16 ∷ [])) (laid 48 16 (0 ∷ 0 ∷ 16 ∷ 0 ∷ 32 ∷ [])) (laid 24 8 (0 ∷ 0 ∷ 8 ∷ 0 ∷ 16 ∷ [])) (laid 24 8 (0 ∷ 0 ∷ 8 ∷ 0 ∷ 16 ∷ []))
    ∷ in_rows (bytes "{R=cjDc}") (laid 32 8 (0 ∷ 0 ∷ 8 ∷ 24 ∷ [])) (laid 64 16 (0 ∷ 0 ∷ 16 ∷ 48 ∷ [])) (laid 32 8 (0 ∷ 0 ∷ 8 ∷ 24 ∷ [])) (laid 32 8 (0 ∷ 0 ∷ 8 ∷ 24 ∷ []))
    ∷ in_each (bytes "{R=cjf}") (laid 12 4 (0 ∷ 0 ∷ 4 ∷ []))
    ∷ in_each (bytes "{R=c{S=ci}c}") (laid 16 4 (0 ∷ 0 ∷ 4 ∷ 0 ∷ 4 ∷ 12 ∷ []))
    ∷ in_each (bytes "{R={S=c}{S=s}i}") (laid 8 4 (0 ∷ 0 ∷ 0 ∷ 2 ∷ 0 ∷ 4 ∷ []))
    ∷ in_each (bytes "{R={x=}}") (laid 0 1 (0 ∷ 0 ∷ []))
    ∷ in_each (bytes "{R=c{x=}i}") (laid 8 4 (0 ∷ 0 ∷ 1 ∷ 4 ∷ []))
    ∷ in_each (bytes "{R={x=}cd}") (laid 16 8 (0 ∷ 0 ∷ 0 ∷ 8 ∷ []))
    -- unions, atomics and arrays
    ∷ in_each (bytes "(U=cid)") (laid 8 8 (0 ∷ 0 ∷ 0 ∷ 0 ∷ []))
    ∷ in_each (bytes "(U=[5c]s)") (laid 6 2 (0 ∷ 0 ∷ 0 ∷ 0 ∷ []))
    ∷ in_each (bytes "(U=c{S=ci})") (laid 8 4 (0 ∷ 0 ∷ 0 ∷ 0 ∷ 4 ∷ []))
    ∷ in_each (bytes "{R=c(U=ci)c}") (laid 12 4 (0 ∷ 0 ∷ 4 ∷ 0 ∷ 0 ∷ 8 ∷ []))
    ∷ in_each (bytes "[3(U=[5c]{S=cs})]") (laid 18 2 (0 ∷ 0 ∷ 0 ∷ 0 ∷ 0 ∷ 0 ∷ 2 ∷ []))
    ∷ in_each (bytes "{R=c(U={S=cq}[9c])s}") (laid 32 8 (0 ∷ 0 ∷ 8 ∷ 0 ∷ 0 ∷ 8 ∷ 0 ∷ 0 ∷ 24 ∷ []))
    ∷ in_each (bytes "{R=cAic}") (laid 12 4 (0 ∷ 0 ∷ 4 ∷ 0 ∷ 8 ∷ []))
    ∷ in_each (bytes "A[2i]") (laid 8 4 (0 ∷ 0 ∷ 0 ∷ []))
    ∷ in_rows (bytes "{R=cA^{S=b3}}") (laid 16 8 (0 ∷ 0 ∷ 8 ∷ 0 ∷ 0 ∷ 0 ∷ [])) (laid 16 8 (0 ∷ 0 ∷ 8 ∷ 0 ∷ 0 ∷ 0 ∷ [])) (laid 8 4 (0 ∷ 0 ∷ 4 ∷ 0 ∷ 0 ∷ 0 ∷ []))
    (laid 16 8 (0 ∷ 0 ∷ 8 ∷ 0 ∷ 0 ∷ 0 ∷ []))
    ∷ in_each (bytes "[3[2s]]") (laid 12 2 (0 ∷ 0 ∷ 0 ∷ []))
    ∷ in_each (bytes "{R=c[3s]c}") (laid 10 2 (0 ∷ 0 ∷ 2 ∷ 0 ∷ 8 ∷ []))
    ∷ in_each (bytes "{R=c[0q]c}") (laid 16 8 (0 ∷ 0 ∷ 8 ∷ 0 ∷ 8 ∷ []))
    ∷ in_each (bytes "[0i]") (laid 0 4 (0 ∷ 0 ∷ []))
    ∷ in_each (bytes "[0{R=cq}]") (laid 0 8 (0 ∷ 0 ∷ 0 ∷ 8 ∷ []))
    ∷ in_each (bytes "{S=[2{R=cq}]c}") (laid 40 8 (0 ∷ 0 ∷ 0 ∷ 0 ∷ 8 ∷ 32 ∷ []))
    ∷ in_each (bytes "{R=c[2{x=}]i}") (laid 8 4 (0 ∷ 0 ∷ 1 ∷ 0 ∷ 4 ∷ []))
    ∷ []

-- Pointers, hidden fields and bitfields.
unfoldable pub behind : List Case
behind =
    -- behind a pointer nothing is laid out: no bitfield there, nothing without a size, and each number is 0
    in_rows (bytes "^{R=b3}") (laid 8 8 (0 ∷ 0 ∷ 0 ∷ [])) (laid 8 8 (0 ∷ 0 ∷ 0 ∷ [])) (laid 4 4 (0 ∷ 0 ∷ 0 ∷ [])) (laid 8 8 (0 ∷ 0 ∷ 0 ∷ []))
    ∷ in_rows (bytes "^b3") (laid 8 8 (0 ∷ 0 ∷ [])) (laid 8 8 (0 ∷ 0 ∷ [])) (laid 4 4 (0 ∷ 0 ∷ [])) (laid 8 8 (0 ∷ 0 ∷ []))
    ∷ in_rows (bytes "{R=^b3i}") (laid 16 8 (0 ∷ 0 ∷ 0 ∷ 8 ∷ [])) (laid 16 8 (0 ∷ 0 ∷ 0 ∷ 8 ∷ [])) (laid 8 4 (0 ∷ 0 ∷ 0 ∷ 4 ∷ [])) (laid 16 8 (0 ∷ 0 ∷ 0 ∷ 8 ∷ []))
    ∷ in_rows (bytes "{R=c^{S=ciq}i}") (laid 24 8 (0 ∷ 0 ∷ 8 ∷ 0 ∷ 0 ∷ 0 ∷ 0 ∷ 16 ∷ [])) (laid 24 8 (0 ∷ 0 ∷ 8 ∷ 0 ∷ 0 ∷ 0 ∷ 0 ∷ 16 ∷ [])) (laid 12 4 (0 ∷ 0 ∷ 4 ∷ 0 ∷ 0 ∷ 0 ∷ 0 ∷ 8 ∷ []))
    (laid 24 8 (0 ∷ 0 ∷ 8 ∷ 0 ∷ 0 ∷ 0 ∷ 0 ∷ 16 ∷ []))
    ∷ in_rows (bytes "{R=^v^?^(x=)}") (laid 24 8 (0 ∷ 0 ∷ 0 ∷ 8 ∷ 0 ∷ 16 ∷ 0 ∷ [])) (laid 24 8 (0 ∷ 0 ∷ 0 ∷ 8 ∷ 0 ∷ 16 ∷ 0 ∷ [])) (laid 12 4 (0 ∷ 0 ∷ 0 ∷ 4 ∷ 0 ∷ 8 ∷ 0 ∷ []))
    (laid 24 8 (0 ∷ 0 ∷ 0 ∷ 8 ∷ 0 ∷ 16 ∷ 0 ∷ []))
    ∷ in_rows (bytes "[2^{R=v}]") (laid 16 8 (0 ∷ 0 ∷ 0 ∷ 0 ∷ [])) (laid 16 8 (0 ∷ 0 ∷ 0 ∷ 0 ∷ [])) (laid 8 4 (0 ∷ 0 ∷ 0 ∷ 0 ∷ [])) (laid 16 8 (0 ∷ 0 ∷ 0 ∷ 0 ∷ []))
    ∷ in_rows (bytes "{S=^^{R=ii}c}") (laid 16 8 (0 ∷ 0 ∷ 0 ∷ 0 ∷ 0 ∷ 0 ∷ 8 ∷ [])) (laid 16 8 (0 ∷ 0 ∷ 0 ∷ 0 ∷ 0 ∷ 0 ∷ 8 ∷ [])) (laid 8 4 (0 ∷ 0 ∷ 0 ∷ 0 ∷ 0 ∷ 0 ∷ 4 ∷ []))
    (laid 16 8 (0 ∷ 0 ∷ 0 ∷ 0 ∷ 0 ∷ 0 ∷ 8 ∷ []))
    ∷ in_rows (bytes "{S=^^{R}c}") (laid 16 8 (0 ∷ 0 ∷ 0 ∷ 0 ∷ 8 ∷ [])) (laid 16 8 (0 ∷ 0 ∷ 0 ∷ 0 ∷ 8 ∷ [])) (laid 8 4 (0 ∷ 0 ∷ 0 ∷ 0 ∷ 4 ∷ [])) (laid 16 8 (0 ∷ 0 ∷ 0 ∷ 0 ∷ 8 ∷ []))
    -- hidden containers
    ∷ in_rows (bytes "^^{R=ii}") (laid 8 8 (0 ∷ 0 ∷ 0 ∷ 0 ∷ 0 ∷ [])) (laid 8 8 (0 ∷ 0 ∷ 0 ∷ 0 ∷ 0 ∷ [])) (laid 4 4 (0 ∷ 0 ∷ 0 ∷ 0 ∷ 0 ∷ [])) (laid 8 8 (0 ∷ 0 ∷ 0 ∷ 0 ∷ 0 ∷ []))
    ∷ in_rows (bytes "{R=A^{S=ci}c}") (laid 16 8 (0 ∷ 0 ∷ 0 ∷ 0 ∷ 0 ∷ 0 ∷ 8 ∷ [])) (laid 16 8 (0 ∷ 0 ∷ 0 ∷ 0 ∷ 0 ∷ 0 ∷ 8 ∷ [])) (laid 8 4 (0 ∷ 0 ∷ 0 ∷ 0 ∷ 0 ∷ 0 ∷ 4 ∷ []))
    (laid 16 8 (0 ∷ 0 ∷ 0 ∷ 0 ∷ 0 ∷ 0 ∷ 8 ∷ []))
    ∷ in_each (bytes "A{R=i}") nothing
    ∷ in_each (bytes "A(U=i)") nothing
    ∷ in_each (bytes "{R=A[0{S=i}]}") nothing
    ∷ in_each (bytes "(U=A{S=}i)") nothing
    -- the first bitfield by its number, before nothing
    ∷ in_each (bytes "b3") (bits 0)
    ∷ in_each (bytes "b0i3") (bits 0)
    ∷ in_each (bytes "{R=b3}") (bits 1)
    ∷ in_each (bytes "{R=ib3b4}") (bits 2)
    ∷ in_each (bytes "{R=vb3}") (bits 2)
    ∷ in_each (bytes "{R=b3v}") (bits 1)
    ∷ in_each (bytes "{R={S=ii}b3}") (bits 4)
    ∷ in_each (bytes "(U=(V=)b0i3)") (bits 2)
    ∷ in_each (bytes "{S=^^{R=ii}b3}") (bits 6)
    ∷ in_each (bytes "{S=^^{R}b3}") (bits 4)
    ∷ in_each (bytes "{R=^b3b3}") (bits 3)
    ∷ in_each (bytes "{R=A{S=b3}b4}") (bits 4)
    ∷ in_each (bytes "[0{R=[0b1]}]") (bits 3)
    ∷ in_each (bytes "Ab0i3") (bits 1)
    ∷ in_each (bytes "{R=[18446744073709551615q]b3}") (bits 3)
    ∷ []

-- Around the largest size: refusal 6 comes last.
unfoldable pub large : List Case
large =
    -- at the limits: of the whole size, of an offset inside something of size 0, of what is rounded up
    in_each (bytes "[4294967295c]") (laid 4294967295 1 (0 ∷ 0 ∷ []))
    ∷ in_rows (bytes "[4294967296c]") (laid 4294967296 1 (0 ∷ 0 ∷ [])) (laid 4294967296 1 (0 ∷ 0 ∷ [])) too_large (laid 4294967296 1 (0 ∷ 0 ∷ []))
    ∷ in_each (bytes "[1073741823i]") (laid 4294967292 4 (0 ∷ 0 ∷ []))
    ∷ in_each (bytes "{R=[4294967295c]{x=}}") (laid 4294967295 1 (0 ∷ 0 ∷ 0 ∷ 4294967295 ∷ []))
    ∷ in_rows (bytes "{R=[4294967296c]{x=}}") (laid 4294967296 1 (0 ∷ 0 ∷ 0 ∷ 4294967296 ∷ [])) (laid 4294967296 1 (0 ∷ 0 ∷ 0 ∷ 4294967296 ∷ [])) too_large
    (laid 4294967296 1 (0 ∷ 0 ∷ 0 ∷ 4294967296 ∷ []))
    ∷ in_rows (bytes "{R=[4294967292c]i}") (laid 4294967296 4 (0 ∷ 0 ∷ 0 ∷ 4294967292 ∷ [])) (laid 4294967296 4 (0 ∷ 0 ∷ 0 ∷ 4294967292 ∷ [])) too_large (laid 4294967296 4 (0 ∷ 0 ∷ 0 ∷ 4294967292 ∷ []))
    ∷ in_each (bytes "{R=[4294967288c]i}") (laid 4294967292 4 (0 ∷ 0 ∷ 0 ∷ 4294967288 ∷ []))
    ∷ in_rows (bytes "{R=[4294967293c]s}") (laid 4294967296 2 (0 ∷ 0 ∷ 0 ∷ 4294967294 ∷ [])) (laid 4294967296 2 (0 ∷ 0 ∷ 0 ∷ 4294967294 ∷ [])) too_large (laid 4294967296 2 (0 ∷ 0 ∷ 0 ∷ 4294967294 ∷ []))
    ∷ in_rows (bytes "{R=i[4294967291c]}") (laid 4294967296 4 (0 ∷ 0 ∷ 4 ∷ 0 ∷ [])) (laid 4294967296 4 (0 ∷ 0 ∷ 4 ∷ 0 ∷ [])) too_large (laid 4294967296 4 (0 ∷ 0 ∷ 4 ∷ 0 ∷ []))
    ∷ in_each (bytes "{R=i[4294967288c]}") (laid 4294967292 4 (0 ∷ 0 ∷ 4 ∷ 0 ∷ []))
    ∷ in_each (bytes "(U=[4294967293c]s)") (laid 4294967294 2 (0 ∷ 0 ∷ 0 ∷ 0 ∷ []))
    ∷ in_each (bytes "(U=[4294967292c]i)") (laid 4294967292 4 (0 ∷ 0 ∷ 0 ∷ 0 ∷ []))
    ∷ in_each (bytes "[0{R=[4294967295c]c}]") (laid 0 1 (0 ∷ 0 ∷ 0 ∷ 0 ∷ 4294967295 ∷ []))
    ∷ in_rows (bytes "[0{R=[4294967296c]c}]") (laid 0 1 (0 ∷ 0 ∷ 0 ∷ 0 ∷ 4294967296 ∷ [])) (laid 0 1 (0 ∷ 0 ∷ 0 ∷ 0 ∷ 4294967296 ∷ [])) too_large (laid 0 1 (0 ∷ 0 ∷ 0 ∷ 0 ∷ 4294967296 ∷ []))
    ∷ in_each (bytes "[0{R=[4294967293c]s}]") (laid 0 2 (0 ∷ 0 ∷ 0 ∷ 0 ∷ 4294967294 ∷ []))
    ∷ in_rows (bytes "[0{R=[4294967295c]s}]") (laid 0 2 (0 ∷ 0 ∷ 0 ∷ 0 ∷ 4294967296 ∷ [])) (laid 0 2 (0 ∷ 0 ∷ 0 ∷ 0 ∷ 4294967296 ∷ [])) too_large (laid 0 2 (0 ∷ 0 ∷ 0 ∷ 0 ∷ 4294967296 ∷ []))
    ∷ in_rows (bytes "[18446744073709551615c]") (laid 18446744073709551615 1 (0 ∷ 0 ∷ [])) (laid 18446744073709551615 1 (0 ∷ 0 ∷ [])) too_large (laid 18446744073709551615 1 (0 ∷ 0 ∷ []))
    ∷ in_rows (bytes "{R=[18446744073709551615c]{x=}}") (laid 18446744073709551615 1 (0 ∷ 0 ∷ 0 ∷ 18446744073709551615 ∷ [])) (laid 18446744073709551615 1 (0 ∷ 0 ∷ 0 ∷ 18446744073709551615 ∷ []))
    too_large (laid 18446744073709551615 1 (0 ∷ 0 ∷ 0 ∷ 18446744073709551615 ∷ []))
    ∷ in_each (bytes "{R=[18446744073709551615c]c}") too_large
    ∷ in_each (bytes "(U=[18446744073709551615c]s)") too_large
    ∷ in_rows (bytes "(U=[18446744073709551614c]s)") (laid 18446744073709551614 2 (0 ∷ 0 ∷ 0 ∷ 0 ∷ [])) (laid 18446744073709551614 2 (0 ∷ 0 ∷ 0 ∷ 0 ∷ []))
    too_large (laid 18446744073709551614 2 (0 ∷ 0 ∷ 0 ∷ 0 ∷ []))
    ∷ in_rows (bytes "{R=[18446744073709551608c]c}") (laid 18446744073709551609 1 (0 ∷ 0 ∷ 0 ∷ 18446744073709551608 ∷ [])) (laid 18446744073709551609 1 (0 ∷ 0 ∷ 0 ∷ 18446744073709551608 ∷ []))
    too_large (laid 18446744073709551609 1 (0 ∷ 0 ∷ 0 ∷ 18446744073709551608 ∷ []))
    ∷ in_each (bytes "{R=[18446744073709551608c]q}") too_large
    ∷ in_rows (bytes "{R=[18446744073709551600c]q}") (laid 18446744073709551608 8 (0 ∷ 0 ∷ 0 ∷ 18446744073709551600 ∷ [])) (laid 18446744073709551608 8 (0 ∷ 0 ∷ 0 ∷ 18446744073709551600 ∷ []))
    too_large (laid 18446744073709551608 8 (0 ∷ 0 ∷ 0 ∷ 18446744073709551600 ∷ []))
    ∷ in_rows (bytes "{R=q[18446744073709551600c]}") (laid 18446744073709551608 8 (0 ∷ 0 ∷ 8 ∷ 0 ∷ [])) (laid 18446744073709551608 8 (0 ∷ 0 ∷ 8 ∷ 0 ∷ []))
    too_large (laid 18446744073709551608 8 (0 ∷ 0 ∷ 8 ∷ 0 ∷ []))
    ∷ in_rows (bytes "[2305843009213693951q]") (laid 18446744073709551608 8 (0 ∷ 0 ∷ [])) (laid 18446744073709551608 8 (0 ∷ 0 ∷ [])) too_large (laid 18446744073709551608 8 (0 ∷ 0 ∷ []))
    ∷ in_each (bytes "[2305843009213693952q]") too_large
    ∷ in_rows (bytes "[1152921504606846975D]") (laid 9223372036854775800 8 (0 ∷ 0 ∷ [])) (laid 18446744073709551600 16 (0 ∷ 0 ∷ [])) too_large (laid 9223372036854775800 8 (0 ∷ 0 ∷ []))
    ∷ in_rows (bytes "[1152921504606846976D]") (laid 9223372036854775808 8 (0 ∷ 0 ∷ [])) too_large too_large (laid 9223372036854775808 8 (0 ∷ 0 ∷ []))
    ∷ in_rows (bytes "[0{R=[18446744073709551615c]c}]") (laid 0 1 (0 ∷ 0 ∷ 0 ∷ 0 ∷ 18446744073709551615 ∷ [])) (laid 0 1 (0 ∷ 0 ∷ 0 ∷ 0 ∷ 18446744073709551615 ∷ []))
    too_large (laid 0 1 (0 ∷ 0 ∷ 0 ∷ 0 ∷ 18446744073709551615 ∷ []))
    ∷ in_each (bytes "[0{R=[18446744073709551615c]s}]") too_large
    ∷ in_each (bytes "[0(U=[18446744073709551615q])]") (laid 0 8 (0 ∷ 0 ∷ 0 ∷ 0 ∷ []))
    ∷ in_each (bytes "[0{R=[18446744073709551615q]}]") (laid 0 8 (0 ∷ 0 ∷ 0 ∷ 0 ∷ []))
    ∷ in_each (bytes "{S=c[0{R=[18446744073709551615q]}]i}") (laid 16 8 (0 ∷ 0 ∷ 8 ∷ 0 ∷ 0 ∷ 0 ∷ 8 ∷ []))
    ∷ in_each (bytes "{S=c[0{R=[18446744073709551615q]c}]i}") too_large
    ∷ in_each (bytes "[0[0{R=[18446744073709551615q]c}]]") too_large
    ∷ in_rows (bytes "^{R=[18446744073709551615q]i}") (laid 8 8 (0 ∷ 0 ∷ 0 ∷ 0 ∷ 0 ∷ [])) (laid 8 8 (0 ∷ 0 ∷ 0 ∷ 0 ∷ 0 ∷ [])) (laid 4 4 (0 ∷ 0 ∷ 0 ∷ 0 ∷ 0 ∷ []))
    (laid 8 8 (0 ∷ 0 ∷ 0 ∷ 0 ∷ 0 ∷ []))
    ∷ in_each (bytes "{R=[18446744073709551615q]v}") nothing
    ∷ in_each (bytes "{R=[18446744073709551615q]A{S=}}") nothing
    ∷ in_each (bytes "[0{R=[18446744073709551615q]v}]") nothing
    ∷ []

-- With a lent list: what is told, and the list after.
unfoldable pub lent_lists : List Case
lent_lists =
    -- numbers that are no row's: 20 before all that follows
    lent 4 (bytes "i") (7 ∷ 7 ∷ 7 ∷ 7 ∷ 7 ∷ 7 ∷ 7 ∷ 7 ∷ 7 ∷ []) no_row (7 ∷ 7 ∷ 7 ∷ 7 ∷ 7 ∷ 7 ∷ 7 ∷ 7 ∷ 7 ∷ [])
    ∷ lent 4 (bytes "v") (7 ∷ 7 ∷ 7 ∷ 7 ∷ 7 ∷ 7 ∷ 7 ∷ 7 ∷ 7 ∷ []) no_row (7 ∷ 7 ∷ 7 ∷ 7 ∷ 7 ∷ 7 ∷ 7 ∷ 7 ∷ 7 ∷ [])
    ∷ lent 4 (bytes "b3") (7 ∷ 7 ∷ 7 ∷ 7 ∷ 7 ∷ 7 ∷ 7 ∷ 7 ∷ 7 ∷ []) no_row (7 ∷ 7 ∷ 7 ∷ 7 ∷ 7 ∷ 7 ∷ 7 ∷ 7 ∷ 7 ∷ [])
    ∷ lent 4 (bytes "[18446744073709551615q]") (7 ∷ 7 ∷ 7 ∷ 7 ∷ 7 ∷ 7 ∷ 7 ∷ 7 ∷ 7 ∷ []) no_row (7 ∷ 7 ∷ 7 ∷ 7 ∷ 7 ∷ 7 ∷ 7 ∷ 7 ∷ 7 ∷ [])
    ∷ lent 4294967296 (bytes "i") (7 ∷ 7 ∷ 7 ∷ 7 ∷ 7 ∷ 7 ∷ 7 ∷ 7 ∷ 7 ∷ []) no_row (7 ∷ 7 ∷ 7 ∷ 7 ∷ 7 ∷ 7 ∷ 7 ∷ 7 ∷ 7 ∷ [])
    ∷ lent 18446744073709551615 (bytes "{R=ci}") (7 ∷ 7 ∷ 7 ∷ 7 ∷ 7 ∷ 7 ∷ 7 ∷ 7 ∷ 7 ∷ []) no_row (7 ∷ 7 ∷ 7 ∷ 7 ∷ 7 ∷ 7 ∷ 7 ∷ 7 ∷ 7 ∷ [])
    ∷ lent 4 (bytes "{R=ci}") [] no_row []
    -- 2 before what the tree is; as many numbers as nodes are written, and nothing beyond them
    ∷ lent 0 (bytes "{R=ci}") [] too_short []
    ∷ lent 0 (bytes "{R=ci}") (7 ∷ 8 ∷ []) too_short (7 ∷ 8 ∷ [])
    ∷ lent 0 (bytes "{R=ci}") (7 ∷ 8 ∷ 9 ∷ []) (laid 8 4 (0 ∷ 0 ∷ 4 ∷ [])) (0 ∷ 0 ∷ 4 ∷ [])
    ∷ lent 0 (bytes "{R=ci}") (7 ∷ 8 ∷ 9 ∷ 10 ∷ 11 ∷ []) (laid 8 4 (0 ∷ 0 ∷ 4 ∷ 10 ∷ 11 ∷ [])) (0 ∷ 0 ∷ 4 ∷ 10 ∷ 11 ∷ [])
    ∷ lent 0 (bytes "b3") [] too_short []
    ∷ lent 0 (bytes "v") [] too_short []
    ∷ lent 2 (bytes "[18446744073709551615q]") (7 ∷ []) too_short (7 ∷ [])
    ∷ lent 0 (bytes "{R=^{S=ii}b3}") (7 ∷ 8 ∷ 9 ∷ 10 ∷ 11 ∷ []) too_short (7 ∷ 8 ∷ 9 ∷ 10 ∷ 11 ∷ [])
    ∷ lent 0 (bytes "{R=^{S=ii}b3}") (7 ∷ 8 ∷ 9 ∷ 10 ∷ 11 ∷ 12 ∷ []) (bits 5) (7 ∷ 8 ∷ 9 ∷ 10 ∷ 11 ∷ 12 ∷ [])
    ∷ lent 1 (bytes "{R=cD}") (7 ∷ 8 ∷ 9 ∷ 10 ∷ []) (laid 32 16 (0 ∷ 0 ∷ 16 ∷ 10 ∷ [])) (0 ∷ 0 ∷ 16 ∷ 10 ∷ [])
    ∷ lent 2 (bytes "{R=cl}") (7 ∷ 8 ∷ 9 ∷ 10 ∷ []) (laid 8 4 (0 ∷ 0 ∷ 4 ∷ 10 ∷ [])) (0 ∷ 0 ∷ 4 ∷ 10 ∷ [])
    ∷ lent 3 (bytes "{R=cl}") (7 ∷ 8 ∷ 9 ∷ 10 ∷ []) (laid 8 4 (0 ∷ 0 ∷ 4 ∷ 10 ∷ [])) (0 ∷ 0 ∷ 4 ∷ 10 ∷ [])
    ∷ lent 0 (bytes "i") [] too_short []
    ∷ lent 0 (bytes "i") (7 ∷ []) (laid 4 4 (0 ∷ [])) (0 ∷ [])
    ∷ lent 0 (bytes "v") (7 ∷ 8 ∷ []) nothing (7 ∷ 8 ∷ [])
    ∷ lent 0 (bytes "b3") (7 ∷ 8 ∷ []) (bits 0) (7 ∷ 8 ∷ [])
    ∷ lent 0 (bytes "{R=[18446744073709551615q]i}") (7 ∷ 8 ∷ 9 ∷ 10 ∷ 11 ∷ []) too_large (7 ∷ 8 ∷ 9 ∷ 10 ∷ 11 ∷ [])
    ∷ lent 0 (bytes "{R=c^{S=ii}q}") (7 ∷ 8 ∷ 9 ∷ 10 ∷ 11 ∷ 12 ∷ 13 ∷ 14 ∷ []) (laid 24 8 (0 ∷ 0 ∷ 8 ∷ 0 ∷ 0 ∷ 0 ∷ 16 ∷ 14 ∷ [])) (0 ∷ 0 ∷ 8 ∷ 0 ∷ 0 ∷ 0 ∷ 16 ∷ 14 ∷ [])
    ∷ []

unfoldable pub cases : List Case
cases = request ++ (plain ++ (behind ++ (large ++ lent_lists)))
