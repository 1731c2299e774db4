-- `tool::show::put_text` meets its contract. Assumes nothing.
use Rattle.lines.proofs.PutLaws.{put_same, put-append}
use Rattle.show.proofs.ShowLaws.{text-whole, text-cut}
use Rattle.lines.proofs.FieldLaws.{front_bytes}
use Rattle.show.proofs.put_text.Goals as goal

pub returns-then-text-le-MAX_TEXT : goal.returns-then-text-le-MAX_TEXT
returns-then-text-le-MAX_TEXT c =
    put_same (text-whole c.args.text.now c.if-text-le-MAX_TEXT.true) c.put_shown.ensures

pub returns : goal.returns
returns c =
    put_same (text-cut c.args.text.now _ (front_bytes _ _ c.front.ensures) c.if-text-le-MAX_TEXT.false)
    (put-append _ _ c.put_shown-to.ensures c.put_bytes.ensures)
