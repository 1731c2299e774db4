use mathlib.Core.Path.{ap, sym, ◌∙◌}
use Prim.Native.Nat.{ℕ}
use Rattle.fields.specs.Answer.{hole_in, hole_after}
use Rattle.fields.proofs.hole_after.Goals as goal

pub returns-then-is_laid_out_field : goal.returns-then-is_laid_out_field
unfolding hole_after
returns-then-is_laid_out_field c =
    let a = c.args in
    c.hole_in.ensures ∙ ap (λ (p : ℕ). hole_in a.nodes.now a.offsets.now a.extents.now p a.i) c.holder.ensures
    ∙ sym (rw (sym c.is_laid_out_field.ensures ∙ c.if-is_laid_out_field.true))

pub returns : goal.returns
unfolding hole_after
returns c = c.between.ensures ∙ sym (rw (sym c.is_laid_out_field.ensures ∙ c.if-is_laid_out_field.false))
