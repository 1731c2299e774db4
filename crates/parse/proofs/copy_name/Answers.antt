use mathlib.Core.Path.{refl, ap, ◌∙◌}
use native.Mathlib.Omega.{arith}
use lib.Seq.{sets, length-sets, take_all}
use borrow.Author.Rules.{rules}
use Rattle.kinds.proofs.StoreLaws.{sets_more}
use Rattle.parse.proofs.copy_name.Goals as goal

pub loop-i-init : goal.loop-i-init
loop-i-init c = (refl, search rules)

pub bounds-names-m : goal.bounds-names-m
bounds-names-m c = rw c.loop-i.invariant.0 (rw length-sets (omega arith))

pub loop-i-preserved : goal.loop-i-preserved
loop-i-preserved c = (rw c.loop-i.invariant.0 (sets_more _ _ _ _ c.loop-i-test.true), omega arith)

pub shape_of-names : goal.shape_of-names
shape_of-names c = rw c.loop-i.invariant.0 (simp length-sets)

pub returns : goal.returns
returns c = c.loop-i.invariant.0 ∙ ap (sets _ _) (take_all _ _ c.loop-i-test.false)
