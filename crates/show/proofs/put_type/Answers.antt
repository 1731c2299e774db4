-- `tool::show::put_type` meets its contract. Assumes nothing.
use Rattle.lines.proofs.PutLaws.{put_same, put-append}
use Rattle.show.proofs.ShowLaws.{type-is}
use Rattle.show.proofs.put_type.Goals as goal

pub returns : goal.returns
returns c =
    put_same (type-is c.args.nodes.now c.args.names.now c.args.i c.depth.result c.word_at-kind.result c.word_at-first.result
    c.word_at-second.result c.depth.ensures c.word_at-kind.ensures c.word_at-first.ensures c.word_at-second.ensures)
    (put-append _ _ c.put_times-to.ensures (put-append _ _ c.put_kind-values.ensures c.put_values.ensures))
