use lib.ListN.{length}
use Rattle.lines.proofs.HexLaws.{Read}
use Rattle.lines.proofs.decode_hex.Given as goal

abbrev pub invariant-loop-unread : goal.invariant-loop-unread
invariant-loop-unread l = Read l.hex l.initial.out l.out l.unread l.n

abbrev pub decreases-loop-unread : goal.decreases-loop-unread
decreases-loop-unread l = length l.unread
