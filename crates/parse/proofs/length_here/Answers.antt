use mathlib.Core.Path.{ap, ◌∙◌}
use mathlib.Core.Bool.{true}
use Rattle.kinds.proofs.ListLaws.{whole}
use Rattle.parse.specs.Strictly.{judged_number}
use Rattle.parse.proofs.length_here.Goals as goal

pub returns-then-strict : goal.returns-then-strict
returns-then-strict c = rw c.if-strict.true (c.judged_number.ensures ∙ ap (judged_number true c.args.at)
    (rw whole at c.parse_u64-number.ensures))

pub returns : goal.returns
returns c = rw c.if-strict.false (rw whole at c.parse_u64-number.ensures)
