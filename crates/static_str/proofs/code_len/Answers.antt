-- `static_str::code_len` meets its contract. Assumes nothing.
use native.Mathlib.Omega.{arith}
use Rattle.static_str.proofs.PartLaws.{code-simple, code-complex, code-block, code_other}
use Rattle.static_str.proofs.code_len.Goals as goal

pub returns-then-kind-lt13 : goal.returns-then-kind-lt13
returns-then-kind-lt13 c =
    (code-simple c.args.kind c.requires c.if-kind-lt13.true, omega arith)

pub returns-then-kind-lt16 : goal.returns-then-kind-lt16
returns-then-kind-lt16 c =
    (code-complex c.args.kind c.requires c.if-kind-lt13.false c.if-kind-lt16.true, omega arith)

pub returns-then-kind-eq20 : goal.returns-then-kind-eq20
returns-then-kind-eq20 c =
    (code-block c.args.kind c.requires c.if-kind-eq20.true, omega arith)

pub returns : goal.returns
returns c =
    (code_other c.args.kind c.requires c.if-kind-lt16.false c.if-kind-eq20.false, omega arith)
