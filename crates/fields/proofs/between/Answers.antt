use Rattle.fields.proofs.FieldLaws.{gap-none, gap-some}
use native.Mathlib.Omega.{arith}
use Rattle.fields.proofs.between.Goals as goal

pub returns-then-next-offset : goal.returns-then-next-offset
returns-then-next-offset c =
    let a = c.args in
    gap-none a.offset a.bytes a.next (omega arith)

pub returns-then-next-offset-2 : goal.returns-then-next-offset-2
returns-then-next-offset-2 c =
    let a = c.args in
    gap-none a.offset a.bytes a.next (omega arith)

pub returns : goal.returns
returns c =
    let a = c.args in
    gap-some a.offset a.bytes a.next (omega arith)
