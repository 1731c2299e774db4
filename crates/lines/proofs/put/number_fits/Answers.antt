-- `lines::put::number_fits` meets its contract. Assumes nothing.
use Prim.Native.Nat.{ℕ}
use mathlib.Core.Path.{sym, ap}
use native.Mathlib.Omega.{arith}
use borrow.Author.Tests.{le-leb}
use lib.Dec.{leb}
use lib.ListN.{length}
use Rattle.kinds.specs.Print.{decimal}
use Rattle.static_str.proofs.NumberLaws.{decimal-fits}
use Rattle.lines.proofs.put.number_fits.Goals as goal

pub returns-then-room-ge20 : goal.returns-then-room-ge20
returns-then-room-ge20 c =
    sym (le-leb (length (decimal c.args.n)) c.args.room (omega (arith, decimal-fits c.args.n (omega arith))))

pub returns : goal.returns
returns c = ap (λ (d : ℕ). leb d c.args.room) c.static_int_str_len.ensures
