-- `tool::show::put_padding` meets its contract. Assumes nothing.
use Rattle.lines.proofs.PutLaws.{put_same, put-append}
use Rattle.show.proofs.ShowLaws.{padding-is}
use Rattle.show.proofs.put_padding.Goals as goal

pub returns : goal.returns
returns c =
    put_same (padding-is c.args.nodes.now c.args.i c.args.begin c.args.bytes c.depth.result c.depth.ensures)
    (put-append _ _ c.put_bytes-blank.ensures (put-append _ _ c.put_column-first.ensures
    (put-append _ _ c.put_column-second.ensures (put-append _ _ c.put_bytes-space.ensures
    (put-append _ _ c.put_times-to.ensures c.put_bytes.ensures)))))
