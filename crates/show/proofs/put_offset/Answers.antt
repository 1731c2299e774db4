-- `tool::show::put_offset` meets its contract. Assumes nothing.
use Rattle.lines.proofs.PutLaws.{put_same}
use Rattle.show.proofs.ShowLaws.{offset-shown, offset-none}
use Rattle.show.proofs.put_offset.Goals as goal

pub returns-then-field : goal.returns-then-field
returns-then-field c =
    put_same (offset-shown c.args.field c.args.offset c.if-field.true) c.put_column.ensures

pub returns : goal.returns
returns c =
    put_same (offset-none c.args.field c.args.offset c.if-field.false) c.put_bytes.ensures
