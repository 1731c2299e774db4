use mathlib.Core.Path.{ap, ◌∙◌}
use Prim.Native.Nat.{ℕ}
use Rattle.fields.specs.Answer.{is_field_of, is_field}
use Rattle.fields.proofs.is_field.Goals as goal

pub returns : goal.returns
unfolding is_field
returns c =
    let a = c.args in
    c.is_field_of.ensures ∙ ap (λ (p : ℕ). is_field_of a.nodes.now p a.i) c.holder.ensures
