-- `tool::show::part` meets its contract. Assumes nothing.
use mathlib.Core.Path.{ap, ◌∙◌}
use lib.ListN.{take}
use Rattle.kinds.proofs.ListLaws.{part-rest}
use Rattle.show.proofs.ShowLaws.{take_none}
use Rattle.lines.proofs.FieldLaws.{front_bytes}
use Rattle.show.proofs.part.Goals as goal

pub returns-then-from-s : goal.returns-then-from-s
returns-then-from-s c =
    front_bytes _ _ c.front.ensures ∙ ap (take c.args.n) (part-rest c.args.s.now c.args.from)

pub returns : goal.returns
returns c =
    front_bytes _ _ c.front-2.ensures ∙ take_none c.args.n c.args.from c.args.s.now c.if-from-s.false
