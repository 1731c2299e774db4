use mathlib.Core.Path.{ap, ◌∙◌}
use Prim.Native.Nat.{ℕ, ◌+◌}
use lib.ListN.{get_or}
use Rattle.fields.proofs.FieldLaws.{past_end}
use native.Mathlib.Omega.{arith}
use Rattle.fields.proofs.next_offset.Goals as goal

pub overflow_add-i : goal.overflow_add-i
overflow_add-i c = let h = c.if-count-offsets.true in omega arith

pub returns-then-count-offsets : goal.returns-then-count-offsets
returns-then-count-offsets c =
    let a = c.args in
    c.word_at.ensures ∙ ap (λ (k : ℕ). get_or a.offsets.now (a.i + k) 0) c.count_of-count.ensures

pub returns : goal.returns
returns c =
    let a = c.args in
    past_end a.offsets.now a.i _ c.count_of-count.ensures c.if-count-offsets.false
