use borrow.Author.Rules.{rules}
-- `lines::advance` meets its contract. Assumes nothing.
use mathlib.Core.Path.{sym, ◌∙◌}
use Rattle.lines.specs.Steps.{step_grown}
use Rattle.std.specs.Prelude.{Some, None}
use Rattle.lines.proofs.DecimalLaws.{step-comma, step-grown, words-comma, words-kept}
use Rattle.lines.proofs.advance.Goals as goal

pub returns-then-b-eq44 : goal.returns-then-b-eq44
returns-then-b-eq44 c = record { answers = step-comma _ _ _ c.if-b-eq44.true; fills = c.put_word.ensures ∙ words-comma _ _ _ _ c.if-b-eq44.true }

pub returns-in_err-v : goal.returns-in_err-v
unfolding step_grown
returns-in_err-v c =
    let k = step-grown c.args.n c.args.value c.args.b None c.if-b-eq44.false (sym c.in_err-v.was ∙ c.grow.ensures) in
    record { answers = search rules; fills = words-kept _ _ _ _ c.if-b-eq44.false }

pub returns : goal.returns
unfolding step_grown
returns c = record {
  answers = step-grown _ _ _ (Some c.in_ok-v.v) c.if-b-eq44.false (sym c.in_ok-v.was ∙ c.grow.ensures);
  fills = words-kept _ _ _ _ c.if-b-eq44.false;
}
