use Rattle.lines.proofs.PutLaws.{put_same}
use Rattle.reason.proofs.PathLaws.{item-first, item-later, item-digit}
use Rattle.reason.proofs.words.put_item.Goals as goal

pub returns-then-first : goal.returns-then-first
returns-then-first c =
    put_same (item-first _ c.if-first.true) c.put_number.ensures

pub returns-then-number-lt10 : goal.returns-then-number-lt10
returns-then-number-lt10 c =
    put_same (item-digit _ c.if-first.false c.if-number-lt10.true) c.put_bytes.ensures

pub returns : goal.returns
returns c =
    put_same (item-later _ c.if-first.false) c.put_marked.ensures
