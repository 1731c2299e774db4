use Prim.Native.Nat.{ℕ, ◌≤◌, ◌-◌}
use mathlib.Core.Path.{◌≡◌, ap}
use mathlib.Core.List.{List}
use native.Mathlib.Omega.{arith}
use lib.ListN.{length}
use Rattle.kinds.specs.Parse.{strip_leading_qualifiers}
use Rattle.kinds.proofs.ParseLaws.{strip-shorter}
use Rattle.parser.specs.Place.{end_of}
use Rattle.parser.specs.Answer.{skip_qualifiers}
use Rattle.parser.proofs.strip_leading_qualifiers.Goals as goal

-- Of two places in memory with bytes, the bytes.
bytes_same : (x y : (ℕ × ℕ) × List ℕ) → x ≡ y → x.1 ≡ y.1
bytes_same x y e = ap (λ (z : (ℕ × ℕ) × List ℕ). z.1) e

shorter : (s r : List ℕ) → r ≡ strip_leading_qualifiers s → length r ≤ length s
shorter s r e = let same : length r ≡ length (strip_leading_qualifiers s) = ap length e in omega (arith, same, strip-shorter s)

placed : (s r : List ℕ) → r ≡ strip_leading_qualifiers s → length s - length r ≡ length s - length (strip_leading_qualifiers s)
placed s r e = ap (λ (t : List ℕ). length s - length t) e

pub overflow_sub-result : goal.overflow_sub-result
unfolding skip_qualifiers end_of
overflow_sub-result c = shorter _ _ (bytes_same _ _ c.skip_qualifiers-rest.ensures)

pub returns : goal.returns
unfolding skip_qualifiers end_of
returns c = let e = placed _ _ (bytes_same _ _ c.skip_qualifiers-rest.ensures) in omega (arith, e)
