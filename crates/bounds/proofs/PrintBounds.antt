-- The bound that the header gives for a print: the statements over the definitions that the calls are proved to equal.
use Prim.Native.Nat.{ℕ, ◌≤◌}
use mathlib.Core.Path.{◌≡◌}
use mathlib.Core.List.{List}
use Rattle.kinds.specs.Sheet.{names_of, sheet_of}
use Rattle.kinds.specs.declared.Refusal.TheVariants.{OutputTooShort}
use Rattle.static_str.specs.Answer.{encoding_len, encoding_array}
use Rattle.std.specs.Prelude.{Ok, Err}
use Rattle.bounds.specs.Limits.{max_print}
use Rattle.bounds.specs.Extremes.{longest}
use Rattle.bounds.proofs.SheetPrints.{most, enough, never-short, reaches}

-- No sheet prints more than 50,003 bytes.
pub print-bounded : (words names : List ℕ) (n : ℕ) → encoding_len words names ≡ Ok n → n ≤ max_print
print-bounded = most

-- With an output of that length printing answers what the length answers, and is never refused by 5.
pub print-has-room : (words names : List ℕ) (room : ℕ) → max_print ≤ room → encoding_array words names room ≡ encoding_len words names
print-has-room = enough

pub print-never-short : (words names : List ℕ) (room : ℕ) → max_print ≤ room → encoding_array words names room ≡ Err OutputTooShort → ⊥
print-never-short = never-short

-- And one sheet prints as many.
pub print-reached : encoding_len (sheet_of longest) (names_of longest) ≡ Ok max_print
print-reached = reaches
