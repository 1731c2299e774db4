-- `tool::show::put_size_line` meets its contract. Assumes nothing.
use mathlib.Core.Path.{ap}
use Prim.Native.Nat.{ℕ}
use mathlib.Core.List.{List, ◌++◌}
use Rattle.lines.proofs.PutLaws.{put_same, put-append}
use Rattle.show.specs.Answer.{right_text, machine_names, size_text, size_line}
use Rattle.show.proofs.put_size_line.Goals as goal

pub returns : goal.returns
unfolding size_line machine_names
returns c =
    put_same (ap (λ (s : List ℕ). right_text c.args.row 100 ++ (s ++ size_text c.args.row c.args.size)) c.line_of.ensures)
    (put-append _ _ c.put_right-number.ensures (put-append _ _ c.put_bytes-machine.ensures c.put_size.ensures))
