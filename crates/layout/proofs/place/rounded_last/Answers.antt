use native.Mathlib.Omega.{arith}
use Rattle.layout.proofs.ExtentLaws.{rounded-there, rounded-up, rounded-over}
use native.Mathlib.Nat.{mod-lt}
use Rattle.layout.proofs.place.rounded_last.Goals as goal

pub returns-then-over-eq0 : goal.returns-then-over-eq0
returns-then-over-eq0 c =
    rounded-there c.args.alignment c.args.n c.requires (omega arith) c.remainder-over.ensures c.if-over-eq0.true

pub overflow_sub-padding : goal.overflow_sub-padding
overflow_sub-padding c =
    let l = mod-lt c.args.n c.requires in
    let e = c.remainder-over.ensures in
    let w = c.from.ensures in
    omega arith

pub returns-then-n-padding : goal.returns-then-n-padding
returns-then-n-padding c =
    rounded-up c.args.alignment c.args.n c.requires c.remainder-over.ensures c.from.ensures c.if-over-eq0.false c.if-n-padding.true (omega arith)

pub returns : goal.returns
returns c =
    rounded-over c.args.alignment c.args.n c.requires c.remainder-over.ensures c.from.ensures c.if-over-eq0.false c.if-n-padding.false
