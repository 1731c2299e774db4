-- `tool::show::put_mark` meets its contract. Assumes nothing.
use Rattle.lines.proofs.PutLaws.{put_same, put-append, put-none}
use Rattle.show.proofs.ShowLaws.{mark-none, mark-node, mark-under}
use Rattle.show.proofs.put_mark.Goals as goal

pub returns-then-carried-eq45 : goal.returns-then-carried-eq45
returns-then-carried-eq45 c =
    put_same (mark-none c.args.carried c.args.place c.if-carried-eq45.true) (put-none _ _)

pub returns-then-carried-eq110 : goal.returns-then-carried-eq110
returns-then-carried-eq110 c =
    put_same (mark-node c.args.carried c.args.place c.if-carried-eq45.false c.if-carried-eq110.true) (put-none _ _)

pub returns : goal.returns
returns c =
    put_same (mark-under c.args.carried c.args.place c.if-carried-eq45.false c.if-carried-eq110.false)
    (put-append _ _ c.put_bytes-line.ensures (put-append _ _ c.put_times-to.ensures c.put_bytes.ensures))
