-- Two texts and the reason of the trees that they are read as, as one table: the header's examples and more where one rule meets another.
use Rattle.std.specs.Prelude.{ℕ, ◌≡◌, Bool, true, false, List, [], ◌∷◌, ◌++◌}
use Rattle.std.specs.Prelude.{Option, Some, None}
use Rattle.kinds.specs.Byte.{bytes}
use Rattle.kinds.specs.Parse.{Whole, tree, refusal, from_str}
use Rattle.kinds.specs.Tree.{end, node}
use Rattle.kinds.specs.declared.NestingLevel.TheVariants.{Top}
use Rattle.reason.specs.Reason.{Reason, first_difference, reason_text}

-- A yes, or the bytes of the reason for a no; or a text is not read.
pub data Told : Type 0 where
  unread : Told
  yes : Told
  no : List ℕ → Told

unfoldable pub told : Option Reason → Told
told None = yes
told (Some r) = no (reason_text r)

-- By levels, or with `all` fields.
unfoldable pub told_of : Bool → Whole → Whole → Told
told_of all (tree l cs) (tree m ds) = told (first_difference all Top (node l cs end) (node m ds end))
told_of all (tree l cs) (refusal e at) = unread
told_of all (refusal e at) w = unread

-- Two texts, whether with all fields, and what is told.
abbrev pub Case : Type 0
Case = List ℕ × List ℕ × Bool × Told

abbrev pub AllHold : List Case → Type 0
AllHold [] = Unit {0}
AllHold (c ∷ cs) = (told_of c.2 (from_str c.0) (from_str c.1) ≡ c.3) × AllHold cs

-- By levels a yes and a no.
abbrev pub same : List ℕ → List ℕ → Case
same s t = (s, t, false, yes)

abbrev pub differ : List ℕ → List ℕ → List ℕ → Case
differ s t r = (s, t, false, no r)

-- The header's examples, and one behind a pointer.
unfoldable pub named : List Case
named =
    differ (bytes "i") (bytes "d") (bytes ":kind 1:2 2:11")
    ∷ differ (bytes "{R=i^v}") (bytes "{R=i^i}") (bytes "1.0:kind 2:17 1:2")
    ∷ differ (bytes "{R=i}") (bytes "{S=i}") (bytes ":name 1:R 1:S")
    ∷ differ (bytes "[3c]") (bytes "[12c]") (bytes ":length 1:3 2:12")
    ∷ differ (bytes "{R=ii}") (bytes "{R=i}") (bytes ":count 1:2 1:1")
    ∷ differ (bytes "^i") (bytes "^d") (bytes "0:kind 1:2 2:11")
    ∷ []

-- No reason.
unfoldable pub alike : List Case
alike =
    same (bytes "{R=i}") (bytes "{R}")
    ∷ same (bytes "{R}") (bytes "{R=i}")
    ∷ (bytes "{R=ii}", bytes "{R}", true, yes)
    ∷ same (bytes "@") (bytes "#")
    ∷ same (bytes "@?") (bytes "@")
    ∷ same [] []
    -- hidden fields
    ∷ same (bytes "^^{R=i}") (bytes "^^{R=d}")
    ∷ same (bytes "A{R=i}") (bytes "A{R=d}")
    ∷ same (bytes "{R=^{S=i}}") (bytes "{R=^{S=d}}")
    ∷ []

-- With all fields hidden ones are compared too.
unfoldable pub hidden : List Case
hidden =
    (bytes "^^{R=i}", bytes "^^{R=d}", true, no (bytes "0.0.0:kind 1:2 2:11"))
    ∷ (bytes "A{R=i}", bytes "A{R=d}", true, no (bytes "0.0:kind 1:2 2:11"))
    ∷ (bytes "{R=^{S=i}}", bytes "{R=^{S=di}}", true, no (bytes "0.0:count 1:1 1:2"))
    ∷ []

-- One node.
unfoldable pub nodes : List Case
nodes =
    differ (bytes "@") (bytes "i") (bytes ":kind 2:19 1:2")
    ∷ differ [] (bytes "i") (bytes ":kind 2:31 1:2")
    ∷ differ (bytes "i") (bytes "^i") (bytes ":kind 1:2 2:26")
    ∷ differ (bytes "{R=i}") (bytes "(R=i)") (bytes ":kind 2:29 2:30")
    -- a bitfield: its kind, its size, its offset, its type
    ∷ differ (bytes "b3") (bytes "b0i3") (bytes ":kind 2:24 2:25")
    ∷ differ (bytes "b3") (bytes "b4") (bytes ":size 1:3 1:4")
    ∷ differ (bytes "b0i3") (bytes "b8i4") (bytes ":size 1:3 1:4")
    ∷ differ (bytes "b0i3") (bytes "b8q3") (bytes ":offset 1:0 1:8")
    ∷ differ (bytes "b0i3") (bytes "b0q3") (bytes "0:kind 1:2 1:4")
    -- an array's length before its item
    ∷ differ (bytes "[2i]") (bytes "[3d]") (bytes ":length 1:2 1:3")
    ∷ differ (bytes "[18446744073709551615c]") (bytes "[0c]") (bytes ":length 20:18446744073709551615 1:0")
    -- a container's name before its count, and that before its items
    ∷ differ (bytes "{?=i}") (bytes "{R=i}") (bytes ":name 1:? 1:R")
    ∷ differ (bytes "{abcdefghijkl=i}") (bytes "{R=d}") (bytes ":name 12:abcdefghijkl 1:R")
    ∷ differ (bytes "{R=ii}") (bytes "{S=i}") (bytes ":name 1:R 1:S")
    ∷ differ (bytes "{R=ii}") (bytes "{R=d}") (bytes ":count 1:2 1:1")
    ∷ []

-- Items.
unfoldable pub below : List Case
below =
    differ (bytes "{R=ii}") (bytes "{R=dd}") (bytes "0:kind 1:2 2:11")
    ∷ differ (bytes "(R=i[3c]b4)") (bytes "(R=i[3c]b5)") (bytes "2:size 1:4 1:5")
    ∷ differ (bytes "{R=iiiiiiiiiii}") (bytes "{R=iiiiiiiiiid}") (bytes "10:kind 1:2 2:11")
    ∷ differ (bytes "[2{R=i}]") (bytes "[2{R=d}]") (bytes "0.0:kind 1:2 2:11")
    ∷ differ (bytes "{R={S=i}i}") (bytes "{R={S=d}d}") (bytes "0.0:kind 1:2 2:11")
    ∷ differ (bytes "{R={S}^i}") (bytes "{R={S=d}^^i}") (bytes "1.0:kind 1:2 2:26")
    -- the name of a container at bottom still counts
    ∷ differ (bytes "^^{R=i}") (bytes "^^{S=d}") (bytes "0.0:name 1:R 1:S")
    ∷ differ (bytes "[2^i]") (bytes "[2Ai]") (bytes "0:kind 2:26 2:27")
    ∷ []

unfoldable pub cases : List Case
cases = named ++ (alike ++ (hidden ++ (nodes ++ below)))
