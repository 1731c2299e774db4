use mathlib.Core.Path.{ap, sym}
use Rattle.lines.proofs.PutLaws.{put_same}
use Rattle.reason.specs.Spot.{word_of}
use Rattle.reason.proofs.words.put_word.Goals as goal

pub returns-in-Kind : goal.returns-in-Kind
unfolding word_of
returns-in-Kind c =
    put_same (ap word_of (sym c.in-Kind.is)) c.put_bytes.ensures

pub returns-in-Size : goal.returns-in-Size
unfolding word_of
returns-in-Size c =
    put_same (ap word_of (sym c.in-Size.is)) c.put_bytes-in-Size.ensures

pub returns-in-Offset : goal.returns-in-Offset
unfolding word_of
returns-in-Offset c =
    put_same (ap word_of (sym c.in-Offset.is)) c.put_bytes-in-Offset.ensures

pub returns-in-Length : goal.returns-in-Length
unfolding word_of
returns-in-Length c =
    put_same (ap word_of (sym c.in-Length.is)) c.put_bytes-in-Length.ensures

pub returns-in-Name : goal.returns-in-Name
unfolding word_of
returns-in-Name c =
    put_same (ap word_of (sym c.in-Name.is)) c.put_bytes-in-Name.ensures

pub returns-in-Count : goal.returns-in-Count
unfolding word_of
returns-in-Count c =
    put_same (ap word_of (sym c.in-Count.is)) c.put_bytes-in-Count.ensures
