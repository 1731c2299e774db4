-- `tool::show::put_refused_by` meets its contract. Assumes nothing.
use mathlib.Core.Path.{◌∙◌}
use Rattle.parser.proofs.PlaceLaws.{remains-bytes}
use Rattle.lines.proofs.PutLaws.{put_same, put-append}
use Rattle.show.proofs.ShowLaws.{refused-is}
use Rattle.show.proofs.put_refused_by.Goals as goal

pub shape_of-out : goal.shape_of-out
shape_of-out c =
    c.put_named.auto.out ∙ c.put_bytes-named.auto.out ∙ c.put_bytes-words.auto.out ∙ c.put_number-number.auto.out ∙ c.put_bytes-to.auto.out ∙ c.put_mark-mark.auto.out
    ∙ c.put_text-shown.auto.out

pub returns : goal.returns
returns c =
    put_same (refused-is c.args.line.now c.args.text.now c.args.why.now c.rest.result.now c.first_byte-carried.result
    c.first_byte-carried.ensures (remains-bytes _ _ c.rest.ensures))
    (put-append _ _ c.put_text-shown.ensures (put-append _ _ c.put_mark-mark.ensures
    (put-append _ _ c.put_bytes-to.ensures (put-append _ _ c.put_number-number.ensures
    (put-append _ _ c.put_bytes-words.ensures (put-append _ _ c.put_bytes-named.ensures c.put_named.ensures))))))
