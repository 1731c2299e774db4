-- `tool::show::put_sentence` meets its contract. Assumes nothing.
use mathlib.Core.Path.{◌∙◌}
use Rattle.lines.proofs.PutLaws.{put_same, put-append}
use Rattle.show.proofs.ShowLaws.{difference-by}
use Rattle.show.proofs.put_sentence.Goals as goal

pub shape_of-out : goal.shape_of-out
shape_of-out c =
    c.put_bytes.auto.out ∙ c.put_value-end.auto.out ∙ c.put_bytes-other.auto.out ∙ c.put_value-between.auto.out ∙ c.put_bytes-one.auto.out ∙ c.put_unit-verb.auto.out
    ∙ c.put_bytes-unit.auto.out ∙ c.put_bytes-noun.auto.out ∙ c.put_place-colon.auto.out ∙ c.put_bytes-place.auto.out

pub returns : goal.returns
returns c =
    put_same (difference-by c.args.path.now c.args.word.now c.args.first.now c.args.second.now c.first_byte-letter.result
    c.first_byte-letter.ensures)
    (put-append _ _ c.put_bytes-place.ensures (put-append _ _ c.put_place-colon.ensures
    (put-append _ _ c.put_bytes-noun.ensures (put-append _ _ c.put_bytes-unit.ensures
    (put-append _ _ c.put_unit-verb.ensures (put-append _ _ c.put_bytes-one.ensures
    (put-append _ _ c.put_value-between.ensures (put-append _ _ c.put_bytes-other.ensures
    (put-append _ _ c.put_value-end.ensures c.put_bytes.ensures)))))))))
