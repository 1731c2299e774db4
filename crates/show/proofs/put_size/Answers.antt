-- `tool::show::put_size` meets its contract. Assumes nothing.
use mathlib.Core.Path.{ap, sym, ◌∙◌}
use Rattle.std.specs.Prelude.{Ok}
use Rattle.lines.proofs.PutLaws.{put_same}
use Rattle.show.specs.Answer.{size_text}
use Rattle.show.proofs.put_size.Goals as goal

pub returns-in-Err : goal.returns-in-Err
unfolding size_text
returns-in-Err c =
    put_same (sym (ap (size_text c.args.row) c.in-Err.is)) c.put_limit.ensures

pub returns-in-Ok-None : goal.returns-in-Ok-None
unfolding size_text
returns-in-Ok-None c =
    let e = rw c.in-Ok-None.is at c.in-Ok-None.field-0-is in
    put_same (sym (ap (size_text c.args.row) (c.in-Ok-None.is ∙ ap Ok e))) c.put_bytes.ensures

pub returns-in-Ok-Some : goal.returns-in-Ok-Some
unfolding size_text
returns-in-Ok-Some c =
    let e = rw c.in-Ok-Some.is at c.in-Ok-Some.field-0-is in
    put_same (sym (ap (size_text c.args.row) (c.in-Ok-Some.is ∙ ap Ok e))) c.put_count.ensures
