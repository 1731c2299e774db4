use native.Mathlib.Omega.{arith}
use Prim.Native.Nat.{ℕ, ◌<◌}
use mathlib.Core.Path.{◌≡◌, subst}
use mathlib.Core.List.{[]}
use lib.ListN.{get_or}
use Rattle.kinds.specs.Primitive.{size_in, size_rows, entry}
use Rattle.kinds.proofs.PrimitiveLaws.{table-size}
use Rattle.kinds.proofs.table_entry.Goals as goal

-- The number in the row that the tests have found.
in_row : (row i k : ℕ) → row ≡ i → row < 4 → k < 24 → entry (get_or (get_or size_rows i []) k 0) ≡ size_in row k
in_row row i k e g h = subst (λ x. entry (get_or (get_or size_rows x []) k 0) ≡ size_in row k) e (table-size row k g h)

pub returns-then-row-eq0 : goal.returns-then-row-eq0
returns-then-row-eq0 c = in_row c.args.row 0 c.args.kind c.if-row-eq0.true c.requires.0 c.requires.1

pub returns-then-row-eq1 : goal.returns-then-row-eq1
returns-then-row-eq1 c = in_row c.args.row 1 c.args.kind c.if-row-eq1.true c.requires.0 c.requires.1

pub returns-then-row-eq2 : goal.returns-then-row-eq2
returns-then-row-eq2 c = in_row c.args.row 2 c.args.kind c.if-row-eq2.true c.requires.0 c.requires.1

pub returns : goal.returns
returns c =
    let a = c.if-row-eq0.false in
    let d = c.if-row-eq1.false in
    let e = c.if-row-eq2.false in
    let p = c.requires.0 in
    in_row c.args.row 3 c.args.kind (omega arith) p c.requires.1
