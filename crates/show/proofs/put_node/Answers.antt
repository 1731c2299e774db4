-- `tool::show::put_node` meets its contract. Assumes nothing.
use Rattle.lines.proofs.PutLaws.{put-append}
use Rattle.show.specs.Answer.{node_text}
use Rattle.show.proofs.put_node.Goals as goal

pub returns : goal.returns
unfolding node_text
returns c =
    put-append _ _ c.put_right-number.ensures (put-append _ _ c.put_bytes-to.ensures c.put_type.ensures)
