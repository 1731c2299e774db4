-- `tool::show::put_kind` meets its contract. Assumes nothing.
use Rattle.lines.proofs.PutLaws.{put_same}
use Rattle.show.specs.Answer.{kind_names}
use Rattle.show.proofs.put_kind.Goals as goal

pub returns : goal.returns
unfolding kind_names
returns c =
    put_same c.line_of.ensures c.put_bytes.ensures
