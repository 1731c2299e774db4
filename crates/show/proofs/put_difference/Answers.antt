-- `tool::show::put_difference` meets its contract. Assumes nothing.
use Rattle.lines.proofs.FieldLaws.{front_bytes}
use Rattle.parser.proofs.PlaceLaws.{remains-bytes}
use Rattle.lines.proofs.PutLaws.{put_same}
use Rattle.show.proofs.ShowLaws.{difference-is}
use Rattle.show.proofs.put_difference.Goals as goal

pub returns : goal.returns
returns c =
    put_same (difference-is c.args.reason.now c.field-path.result.now c.rest-said.result.now c.field-word.result.now c.rest-values.result.now
    c.field.result.now c.rest-first.result.now c.rest.result.now c.rest-second.result.now
    (front_bytes _ _ c.field-path.ensures) (remains-bytes _ _ c.rest-said.ensures) (front_bytes _ _ c.field-word.ensures)
    (remains-bytes _ _ c.rest-values.ensures)
    (front_bytes _ _ c.field.ensures) (remains-bytes _ _ c.rest-first.ensures) (remains-bytes _ _ c.rest.ensures)
    (remains-bytes _ _ c.rest-second.ensures)) c.put_sentence.ensures
