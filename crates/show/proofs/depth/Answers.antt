use Prim.Native.Nat.{ℕ, ◌+◌, ◌-◌, ◌≤◌, ◌<◌}
use mathlib.Core.Path.{ap, subst, ◌∙◌}
use native.Mathlib.Omega.{arith}
use Rattle.std.proofs.Common.{rules}
use Rattle.show.specs.Answer.{holders, depth_of}
use Rattle.show.proofs.ShowLaws.{holds, holds_not}
use Rattle.show.proofs.depth.Goals as goal
use Rattle.show.proofs.depth.Goals.{then-i-j, else-i-j}

pub loop-j-init : goal.loop-j-init
unfolding holders
loop-j-init c = search rules

pub loop-j-preserved : goal.loop-j-preserved
loop-j-preserved c =
    let a = c.args in
    let l = c.loop-j in
    elim c.if-i-j.branch [
      | then-i-j w ↦ (
        w.n-is ∙ ap (λ (k : ℕ). k + 1) l.invariant.0 ∙ holds a.nodes.now a.i l.j
            (subst (λ (k : ℕ). a.i - l.j < k) c.word_at-count.ensures w.if-i-j.true),
        omega arith,
      )
      | else-i-j w ↦ (
        w.n-is ∙ l.invariant.0 ∙ holds_not a.nodes.now a.i l.j (subst (λ (k : ℕ). k ≤ a.i - l.j) c.word_at-count.ensures w.if-i-j.false),
        omega arith,
      )
    ]

pub returns : goal.returns
unfolding depth_of
returns c =
    c.loop-j.invariant.0 ∙ ap (holders c.args.nodes.now c.args.i) (omega arith)
