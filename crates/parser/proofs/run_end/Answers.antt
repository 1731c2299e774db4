use Rattle.std.proofs.Common.{◌≡◌, sym, ◌∙◌, arith}
use Rattle.parser.proofs.RunLaws.{run_more, run-stop, run_end_lem}
use Rattle.parser.proofs.run_end.Goals as goal

pub returns-then-not-passes : goal.returns-then-not-passes
returns-then-not-passes g c = sym (c.loop-i.invariant.0 ∙ run-stop _ _ _ c.loop-i-test.true (sym c.passes.ensures ∙ c.if-not-passes.true))

pub loop-i-preserved : goal.loop-i-preserved
loop-i-preserved g c = (
  c.loop-i.invariant.0 ∙ run_more _ _ _ c.loop-i-test.true (sym c.passes.ensures ∙ c.if-not-passes.false),
  omega arith,
)

pub returns : goal.returns
returns g c =
    let last : c.max.result ≡ c.loop-i.i = omega (arith, c.loop-i.invariant.1) in
    last ∙ sym (c.loop-i.invariant.0 ∙ run_end_lem _ _ _ c.loop-i-test.false)
