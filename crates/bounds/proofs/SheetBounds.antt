-- The bounds that the header gives for a sheet: the statements, over the header that a sheet begins with.
use Prim.Native.Nat.{ℕ, ◌≤◌}
use native.Mathlib.Omega.{arith}
use mathlib.Core.Path.{◌≡◌}
use mathlib.Core.Bool.{true}
use mathlib.Core.List.{List}
use lib.ListN.{get_or}
use Rattle.kinds.specs.Sheet.{header_for, sheet_of, names_of, is_sheet}
use Rattle.kinds.proofs.HoldsLaws.{holds_test}
use Rattle.kinds.proofs.NodeLaws.{sheet-says}
use Rattle.bounds.specs.Extremes.{longest}
use Rattle.bounds.specs.Limits.{max_nodes, max_words, max_names}
use Rattle.bounds.proofs.SheetPrints.{longest-holds, longest-count, longest-names}

-- No sheet has more nodes, words or name bytes.
pub sheet-bounded : (words names : List ℕ) → is_sheet words names ≡ true → (get_or words 0 0 ≤ max_nodes) × (get_or words 3 0 ≤ max_words) × (get_or words 2 0 ≤ max_names)
sheet-bounded words names h =
    let r = (sheet-says words names h).head in
    (omega (arith, r.few-nodes), omega (arith, r.used, r.few-nodes), omega (arith, r.few_bytes))

-- And one has as many of each.
pub sheet-reached : (is_sheet (sheet_of longest) (names_of longest) ≡ true)
    × (get_or (sheet_of longest) 0 0 ≡ max_nodes) × (get_or (sheet_of longest) 3 0 ≡ max_words) × (get_or (sheet_of longest) 2 0 ≡ max_names)
unfolding sheet_of header_for
sheet-reached = (holds_test (sheet_of longest) (names_of longest) longest longest-holds, longest-count, omega (arith, longest-count), longest-names)
