-- `tool::show::put_value` meets its contract. Assumes nothing.
use Rattle.lines.proofs.PutLaws.{put_same}
use Rattle.show.proofs.ShowLaws.{value-kind, value-itself}
use Rattle.show.proofs.put_value.Goals as goal

pub returns-then-word-eq107 : goal.returns-then-word-eq107
returns-then-word-eq107 c =
    put_same (value-kind c.args.word c.number_of.result c.args.value.now c.if-word-eq107.true c.number_of.ensures)
    c.put_kind_alone.ensures

pub returns : goal.returns
returns c =
    put_same (value-itself c.args.word c.args.value.now c.if-word-eq107.false) c.put_bytes.ensures
