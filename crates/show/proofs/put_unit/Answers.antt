-- `tool::show::put_unit` meets its contract. Assumes nothing.
use Rattle.lines.proofs.PutLaws.{put_same, put-none}
use Rattle.show.proofs.ShowLaws.{unit_size, unit-count, unit-none}
use Rattle.show.proofs.put_unit.Goals as goal

pub returns-then-word-eq115 : goal.returns-then-word-eq115
returns-then-word-eq115 c =
    put_same (unit_size c.args.word c.if-word-eq115.true) c.put_bytes.ensures

pub returns-then-word-eq99 : goal.returns-then-word-eq99
returns-then-word-eq99 c =
    put_same (unit-count c.args.word c.if-word-eq115.false c.if-word-eq99.true) c.put_bytes-then-word-eq99.ensures

pub returns : goal.returns
returns c =
    put_same (unit-none c.args.word c.if-word-eq115.false c.if-word-eq99.false) (put-none _ _)
