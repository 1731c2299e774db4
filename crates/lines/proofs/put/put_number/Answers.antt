-- `lines::put::put_number` meets its contract. Assumes nothing.
use Prim.Native.Nat.{◌-◌}
use mathlib.Core.Path.{sym, ◌∙◌}
use native.Mathlib.Omega.{arith}
use borrow.Author.Tests.{leb-true}
use lib.ListN.{length}
use Rattle.kinds.specs.Print.{decimal}
use Rattle.kinds.proofs.DecimalLaws.{decimal-low}
use Rattle.lines.proofs.PutLaws.{put_same}
use Rattle.lines.proofs.put.put_number.Goals as goal

pub returns-then-n-lt10 : goal.returns-then-n-lt10
returns-then-n-lt10 c =
    put_same (sym (decimal-low _ c.if-n-lt10.true)) c.put_byte.ensures

pub put_any-requires : goal.put_any-requires
put_any-requires c =
    let f = leb-true (length (decimal c.args.n)) (length c.args.out.now - c.args.at) (sym c.number_fits.ensures ∙ c.if-number_fits.true)
    in omega arith
