-- `static_str::put_number` meets its contract. Assumes nothing.
use Prim.Native.Nat.{ℕ}
use Rattle.static_str.proofs.+put_number.Given as goal

abbrev pub decreases-put_number : goal.decreases-put_number
decreases-put_number l = l.n
