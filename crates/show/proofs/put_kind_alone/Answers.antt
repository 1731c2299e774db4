-- `tool::show::put_kind_alone` meets its contract. Assumes nothing.
use mathlib.Core.Path.{◌∙◌}
use Rattle.lines.proofs.PutLaws.{put_same}
use Rattle.show.specs.Answer.{compound_names}
use Rattle.show.proofs.ShowLaws.{kind-primitive, kind-compound}
use Rattle.show.proofs.put_kind_alone.Goals as goal

pub returns-then-kind-lt-PRIMITIVES : goal.returns-then-kind-lt-PRIMITIVES
returns-then-kind-lt-PRIMITIVES c =
    put_same (kind-primitive c.args.kind c.if-kind-lt-PRIMITIVES.true) c.put_kind.ensures

pub returns : goal.returns
unfolding compound_names
returns c =
    put_same (c.line_of.ensures ∙ kind-compound c.args.kind c.if-kind-lt-PRIMITIVES.false) c.put_bytes.ensures
