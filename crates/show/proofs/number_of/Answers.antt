-- `tool::show::number_of` meets its contract. Assumes nothing.
use Prim.Native.Nat.{ℕ}
use mathlib.Core.Path.{ap, ◌∙◌}
use mathlib.Core.List.{List}
use lib.ListN.{get_or}
use Rattle.lines.specs.Answer.{decimals}
use Rattle.show.proofs.ShowLaws.{first-number}
use Rattle.show.proofs.number_of.Goals as goal

pub returns : goal.returns
returns c =
    ap (λ (l : List ℕ). get_or l 0 0) c.decode_words.ensures.fills ∙ first-number (decimals 0 c.args.s.now)
