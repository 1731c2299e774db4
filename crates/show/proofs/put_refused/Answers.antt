-- `tool::show::put_refused` meets its contract. Assumes nothing.
use Prim.Native.Nat.{ℕ}
use mathlib.Core.Path.{ap}
use mathlib.Core.List.{List}
use Rattle.lines.proofs.PutLaws.{put_same}
use Rattle.show.specs.Answer.{refusals, refused_by, refused_text}
use Rattle.show.proofs.put_refused.Goals as goal

pub returns : goal.returns
unfolding refusals refused_text
returns c =
    put_same (ap (λ (l : List ℕ). refused_by l c.args.text.now c.args.why.now) c.line_of.ensures) c.put_refused_by.ensures
