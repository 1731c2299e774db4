use mathlib.Core.Path.{◌≡◌, refl, sym, ap, ◌∙◌}
use native.Mathlib.Nat.{zero-add}
use native.Mathlib.Omega.{arith}
use Prim.Native.Nat.{ℕ}
use mathlib.Core.List.{List}
use lib.ListN.{get_or, set, take}
use lib.Seq.{sets, length-sets, take_all}
use borrow.Author.Rules.{rules}
use Rattle.kinds.proofs.StoreLaws.{sets_more}
use Rattle.layout.proofs.EndLaws.{copied-whole}
use Rattle.layout.proofs.place.copy_numbers.Goals as goal

pub loop-i-init : goal.loop-i-init
loop-i-init c = (refl, search rules)

pub loop-i-preserved : goal.loop-i-preserved
loop-i-preserved c =
    let w = c.args.offsets.now in
    let s = c.args.numbers.now in
    let i = c.loop-i.i in (
      ap
          (λ (o : List ℕ). set o i (get_or s i 0)) c.loop-i.invariant.0
          ∙ ap (λ (k : ℕ). set (sets w 0 (take i s)) k (get_or s i 0)) (sym (zero-add i))
          ∙ sets_more w 0 s i c.loop-i-test.true,
      omega arith,
    )

pub shape_of-offsets : goal.shape_of-offsets
shape_of-offsets c = rw c.loop-i.invariant.0 (simp length-sets)

pub bounds-offsets-i : goal.bounds-offsets-i
bounds-offsets-i c = rw c.loop-i.invariant.0 (rw length-sets (omega arith))

pub returns : goal.returns
returns c = copied-whole _ _ _ c.requires (c.loop-i.invariant.0 ∙ ap (sets _ _) (take_all _ _ c.loop-i-test.false))
