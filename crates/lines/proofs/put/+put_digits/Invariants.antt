-- `lines::put::put_digits` meets its contract. Assumes nothing.
use Prim.Native.Nat.{ℕ}
use Rattle.lines.proofs.put.+put_digits.Given as goal

abbrev pub decreases-put_digits : goal.decreases-put_digits
decreases-put_digits l = l.n
