-- `tool::show::put_extent` meets its contract. Assumes nothing.
use mathlib.Core.Path.{ap, sym, ◌∙◌}
use Rattle.std.specs.Prelude.{Ok}
use Rattle.lines.proofs.PutLaws.{put_same, put-append}
use Rattle.show.specs.Answer.{extent_text}
use Rattle.show.proofs.put_extent.Goals as goal

pub returns-in-Err : goal.returns-in-Err
unfolding extent_text
returns-in-Err c =
    put_same (sym (ap extent_text c.in-Err.is)) c.put_bytes.ensures

pub returns-in-Ok-None : goal.returns-in-Ok-None
unfolding extent_text
returns-in-Ok-None c =
    let e = rw c.in-Ok-None.is at c.in-Ok-None.field-0-is in
    put_same (sym (ap extent_text (c.in-Ok-None.is ∙ ap Ok e))) c.put_bytes-in-Ok-None.ensures

pub returns-in-Ok-Some : goal.returns-in-Ok-Some
unfolding extent_text
returns-in-Ok-Some c =
    let e = rw c.in-Ok-Some.is at c.in-Ok-Some.field-0-is in
    put_same (sym (ap extent_text (c.in-Ok-Some.is ∙ ap Ok e))) (put-append _ _ c.put_column-to.ensures c.put_column.ensures)
