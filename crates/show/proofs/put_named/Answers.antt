-- `tool::show::put_named` meets its contract. Assumes nothing.
use Rattle.lines.proofs.PutLaws.{put_same, put-none}
use Rattle.show.proofs.ShowLaws.{named-byte, named-container, named-node, named_none}
use Rattle.show.proofs.put_named.Goals as goal

pub returns-then-carried-eq98 : goal.returns-then-carried-eq98
returns-then-carried-eq98 c =
    put_same (named-byte c.args.carried c.args.place c.args.byte c.args.container c.if-carried-eq98.true) c.put_byte.ensures

pub returns-then-carried-eq99 : goal.returns-then-carried-eq99
returns-then-carried-eq99 c =
    put_same (named-container c.args.carried c.args.place c.args.byte c.args.container c.if-carried-eq98.false c.if-carried-eq99.true)
    c.put_container.ensures

pub returns-then-carried-eq110 : goal.returns-then-carried-eq110
returns-then-carried-eq110 c =
    put_same (named-node c.args.carried c.args.place c.args.byte c.args.container c.if-carried-eq98.false c.if-carried-eq99.false c.if-carried-eq110.true)
    c.put_number.ensures

pub returns : goal.returns
returns c =
    put_same (named_none c.args.carried c.args.place c.args.byte c.args.container c.if-carried-eq98.false c.if-carried-eq99.false c.if-carried-eq110.false)
    (put-none _ _)
