-- `lines::put::put_digits` meets its contract. Assumes nothing.
use mathlib.Core.Path.{sym, ◌∙◌}
use Rattle.kinds.proofs.DecimalLaws.{decimal-low, decimal-high}
use Rattle.lines.proofs.PutLaws.{put_same, put-append}
use Prim.Native.Nat.{ℕ}
use Rattle.lines.proofs.put.+put_digits.Goals as goal

pub returns-then-n-lt10 : goal.returns-then-n-lt10
returns-then-n-lt10 t c =
    put_same (sym (decimal-low _ c.if-n-lt10.true)) c.put_byte.ensures

pub shape_of-out : goal.shape_of-out
shape_of-out t c =
    c.put_byte-2.auto.out ∙ c.put_digits-next.auto.out

pub returns : goal.returns
returns t c =
    put_same (sym (decimal-high _ c.if-n-lt10.false)) (put-append _ _ c.put_digits-next.ensures c.put_byte-2.ensures)
