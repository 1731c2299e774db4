-- `tool::show::put_byte` meets its contract. Assumes nothing.
use mathlib.Core.Logic.{⊎_elim}
use Rattle.lines.proofs.PutLaws.{put_same, put-append}
use Rattle.show.proofs.ShowLaws.{byte-itself, byte_low, byte_high}
use borrow.Author.Tests.{ltb-true, ltb-false}
use Rattle.show.proofs.put_byte.Goals as goal
use Rattle.show.proofs.put_byte.Goals.{else-byte-gt32-via-then-byte-gt32+else-byte-lt127, else-byte-gt32-via-else-byte-gt32}

pub returns-then-byte-lt127 : goal.returns-then-byte-lt127
returns-then-byte-lt127 c =
    put_same (byte-itself c.args.byte c.if-byte-gt32.true c.if-byte-lt127.true) c.put_bytes.ensures

pub returns : goal.returns
returns c =
    put_same
    (elim c.else-byte-gt32.branch [ else-byte-gt32-via-then-byte-gt32+else-byte-lt127 w ↦ byte_high c.args.byte w.if-byte-gt32.true w.if-byte-lt127.false | else-byte-gt32-via-else-byte-gt32 w ↦ byte_low c.args.byte w.if-byte-gt32.false ])
    (put-append _ _ c.put_bytes-to.ensures c.put_number.ensures)
