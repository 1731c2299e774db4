use Prim.Native.Nat.{ℕ, ◌+◌}
use mathlib.Core.Path.{◌≡◌, refl, sym, ap, subst, ◌∙◌}
use mathlib.Core.List.{List}
use native.Mathlib.Omega.{arith}
use lib.ListN.{length, get_or, set, length-set}
use Rattle.static_str.specs.Output.{Wrote}
use Rattle.static_str.proofs.OutputLaws.{written_none, written-more, wrote-whole}
use Rattle.static_str.proofs.put_bytes.Goals as goal

pub loop-i-init : goal.loop-i-init
loop-i-init c = (omega arith, refl, sym (written_none _ _))

pub loop-i-preserved : goal.loop-i-preserved
loop-i-preserved c =
    let a = c.args in let h = c.loop-i.invariant in (
      omega arith,
      simp length-set h.1,
      ap
          (λ (o : List ℕ). set o (a.at + c.loop-i.i) (get_or a.s.now c.loop-i.i 0)) h.2
          ∙ written-more a.out.now a.s.now a.at c.loop-i.i _ c.requires c.loop-i-test.true refl,
    )

pub returns : goal.returns
returns c =
    let a = c.args in
    let h = c.loop-i.invariant in
    let ended : c.loop-i.i ≡ length a.s.now = omega (arith, h.0) in
    subst (λ (n : ℕ). Wrote a.out.now a.at a.s.now c.loop-i.out (a.at + n)) ended
    (wrote-whole a.out.now _ a.s.now a.at c.loop-i.i h.0 c.loop-i-test.false h.2)
