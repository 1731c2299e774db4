use mathlib.Core.Path.{sym, ◌∙◌, ap₂}
use borrow.Author.Tests.{eq-eqb, ne_eqb}
use Prim.Native.Nat.{ℕ}
use Rattle.fields.specs.Answer.{extent_of}
use Rattle.std.specs.Prelude.{Some, Ok}
use Rattle.fields.proofs.extent_of.Goals as goal

pub returns-then-alignment-eq0 : goal.returns-then-alignment-eq0
unfolding extent_of
returns-then-alignment-eq0 c = sym (rw (eq-eqb _ _ (sym c.word_at-alignment.ensures ∙ c.if-alignment-eq0.true)))

pub returns : goal.returns
unfolding extent_of
returns c = ap₂ (λ (b a : ℕ). Ok (Some (b, a))) c.bytes_of.ensures c.word_at-alignment.ensures
    ∙ sym (rw (ne_eqb _ _ (λ e. c.if-alignment-eq0.false (c.word_at-alignment.ensures ∙ e))))
