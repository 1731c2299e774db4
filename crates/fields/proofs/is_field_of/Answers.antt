use mathlib.Core.Path.{ap, sym, ◌∙◌}
use borrow.Author.Tests.{lt-ltb, le-ltb, eq-eqb, ne_eqb}
use Rattle.fields.specs.Answer.{is_field_of}
use Rattle.kinds.specs.Sheet.{is_container_kind}
use Rattle.fields.proofs.is_field_of.Goals as goal

pub returns-then-j-p : goal.returns-then-j-p
unfolding is_field_of
returns-then-j-p c = sym (rw (le-ltb _ _ c.if-j-p.true))

pub returns-then-holder-p : goal.returns-then-holder-p
unfolding is_field_of
returns-then-holder-p c = c.is_container.ensures ∙ ap is_container_kind c.kind_of.ensures
    ∙ sym (rw (
      lt-ltb _ _ c.if-j-p.false,
      eq-eqb _ _
          (sym c.holder.ensures ∙ c.if-holder-p.true),
    ))

pub returns : goal.returns
unfolding is_field_of
returns c = sym (rw (lt-ltb _ _ c.if-j-p.false, ne_eqb _ _ (λ e. c.if-holder-p.false (c.holder.ensures ∙ e))))
