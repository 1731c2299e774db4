use Prim.Native.Nat.{ℕ, ◌+◌}
use native.Mathlib.Omega.{arith}
use mathlib.Core.Path.{sym, ap₂}
use borrow.Author.Tests.{le-leb}
use lib.ListN.{length}
use lib.Dec.{leb}
use Rattle.reason.specs.Reason.{path_text}
use Rattle.reason.specs.Spot.{path_from, difference_length}
use Rattle.reason.proofs.PathLaws.{path-half}
use Rattle.reason.proofs.words.reason_fits.Goals as goal

pub most_len-requires : goal.most_len-requires
most_len-requires c =
    (c.requires.1, c.requires.2)

pub returns-then-at-most_len : goal.returns-then-at-most_len
returns-then-at-most_len c =
    let h = path-half c.requires.0 in
    let m = c.most_len.ensures.0 in
    let t = c.if-at-most_len.true in
    sym (le-leb (length (path_text (path_from c.args.nodes.now 0 c.args.at)) + difference_length c.args.aspect c.args.k c.args.j)
    c.args.room (omega arith))

pub difference_len-requires : goal.difference_len-requires
difference_len-requires c =
    (c.requires.1, c.requires.2)

pub returns : goal.returns
returns c =
    ap₂ (λ (n m : ℕ). leb (n + m) c.args.room) c.path_len.ensures.0 c.difference_len.ensures.0
