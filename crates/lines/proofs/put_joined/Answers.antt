use Prim.Native.Nat.{ℕ, ◌+◌}
use mathlib.Core.Path.{sym, ◌∙◌}
use mathlib.Core.List.{List, ◌∷◌}
use lib.ListN.{drop, get_or}
use Rattle.kinds.specs.Print.{decimal}
use Rattle.lines.specs.Answer.{each}
use Rattle.lines.proofs.PutLaws.{then-put, all-put, put-none, put_same, put-append, each_more, each-end, joined-none, joined-some}
use Rattle.lines.proofs.put_joined.Goals as goal

pub returns-in_default : goal.returns-in_default
returns-in_default c = put_same (sym (joined-none _ _ c.in_default.ensures.cases)) (put-none _ _)

pub loop-n-preserved : goal.loop-n-preserved
loop-n-preserved c =
    let s = c.in-Some.others.now in
    let f : ℕ → List ℕ = λ k. c.args.mark ∷ decimal k in (
      then-put (f (get_or s c.loop-n.n-index 0)) (each f (drop (c.loop-n.n-index + 1) s))
          (each_more f s c.loop-n.n-index c.loop-n-test.true) c.loop-n.invariant.0 c.put_marked-to.ensures,
      c.put_marked-to.auto.out ∙ c.loop-n.invariant.1,
    )

pub returns : goal.returns
returns c =
    let s = c.in-Some.others.now in
    let f : ℕ → List ℕ = λ k. c.args.mark ∷ decimal k in
    put_same (sym (joined-some c.args.mark c.args.words.now c.in-Some.first.now s c.in-Some.ensures.cases.0))
    (put-append (decimal c.in-Some.first.now) (each f s) c.put_number-to.ensures
    (all-put (each-end f s c.loop-n.n-index c.loop-n-test.false) c.loop-n.invariant.0))
