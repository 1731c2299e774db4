-- The answer of tree against text (encoding.rs, `equivalent_to_str`), with 01's refusals 1, 3 and 4 in this order.
use Rattle.std.specs.Prelude.{ℕ, cond, List, ltb, length}
use Rattle.kinds.specs.Expect.{equivalent_to_str}
use Rattle.kinds.specs.Sheet.{max_text}
use Rattle.kinds.specs.declared.Refusal.TheVariants as R
use Rattle.sheet.specs.Answer.{of_sheet}
use Rattle.std.specs.Prelude.{Result, Ok, Err}
use Rattle.kinds.specs.declared.Refusal.{Refusal}
use Rattle.std.specs.Prelude.{Bool}

-- A refusal, or whether the tree that the two lists begin with is equivalent to the text.
unfoldable pub compared : List ℕ → List ℕ → List ℕ → Result Bool Refusal
compared words names text = cond (ltb max_text (length text)) (Err R.TextTooLong) (of_sheet Err (λ t. Ok (equivalent_to_str t text)) words names)
