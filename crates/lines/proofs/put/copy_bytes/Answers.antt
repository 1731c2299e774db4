use mathlib.Core.Path.{refl, ap, ◌∙◌}
use native.Mathlib.Omega.{arith}
use lib.Seq.{sets, length-sets, take_all}
use borrow.Author.Rules.{rules}
use Rattle.kinds.proofs.StoreLaws.{sets_more}
use Rattle.lines.proofs.put.copy_bytes.Goals as goal

pub loop-i-init : goal.loop-i-init
loop-i-init c = (refl, search rules)

pub bounds-out-at : goal.bounds-out-at
bounds-out-at c = rw c.loop-i.invariant.0 (rw length-sets (omega arith))

pub loop-i-preserved : goal.loop-i-preserved
loop-i-preserved c = (rw c.loop-i.invariant.0 (sets_more _ _ _ _ c.loop-i-test.true), omega arith)

pub shape_of-out : goal.shape_of-out
shape_of-out c = rw c.loop-i.invariant.0 (simp length-sets)

pub returns : goal.returns
returns c = c.loop-i.invariant.0 ∙ ap (sets _ _) (take_all _ _ c.loop-i-test.false)
