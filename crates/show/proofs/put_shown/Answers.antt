use Prim.Native.Nat.{◌+◌}
use mathlib.Core.Path.{refl, ◌∙◌}
use lib.ListN.{drop, get_or}
use Rattle.lines.specs.Answer.{each}
use Rattle.lines.proofs.PutLaws.{to-put, then-put, all-put, put_same, each_more, each-end}
use Rattle.show.specs.Answer.{shown_byte, shown_text}
use Rattle.show.proofs.put_shown.Goals as goal

pub loop-b-init : goal.loop-b-init
unfolding shown_text
loop-b-init c = (to-put _ _ _, refl)

pub loop-b-preserved : goal.loop-b-preserved
loop-b-preserved c = (
  then-put (shown_byte (get_or c.args.s.now c.loop-b.b-index 0)) (each shown_byte (drop (c.loop-b.b-index + 1) c.args.s.now))
      (each_more shown_byte c.args.s.now c.loop-b.b-index c.loop-b-test.true) c.loop-b.invariant.0 (put_same c.glyph.ensures c.put_bytes-to.ensures),
  c.put_bytes-to.auto.out ∙ c.loop-b.invariant.1,
)

pub returns : goal.returns
returns c =
    all-put (each-end shown_byte c.args.s.now c.loop-b.b-index c.loop-b-test.false) c.loop-b.invariant.0
