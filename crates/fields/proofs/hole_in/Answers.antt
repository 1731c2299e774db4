use mathlib.Core.Path.{ap₂, sym, ◌∙◌}
use Prim.Native.Nat.{max}
use Rattle.fields.proofs.FieldLaws.{union-last, union-other, struct-hole}
use Rattle.fields.proofs.hole_in.Goals as goal

pub returns-then-is_last : goal.returns-then-is_last
returns-then-is_last c =
    let a = c.args in
    union-last a.nodes.now a.offsets.now a.extents.now a.p a.i
    (sym c.kind_of.ensures ∙ c.if-kind_of-eq-UNION.true)
    (sym c.is_last.ensures ∙ c.if-is_last.true)
    (c.max-most.ensures ∙ ap₂ max c.largest.ensures
    c.bytes_of-bytes.ensures) c.bytes_of.ensures c.between.ensures

pub returns-then-kind_of-eq-UNION : goal.returns-then-kind_of-eq-UNION
returns-then-kind_of-eq-UNION c =
    let a = c.args in
    union-other a.nodes.now a.offsets.now a.extents.now a.p a.i
    (sym c.kind_of.ensures ∙ c.if-kind_of-eq-UNION.true)
    (sym c.is_last.ensures ∙ c.if-is_last.false) c.between-then-kind_of-eq-UNION.ensures

pub returns : goal.returns
returns c =
    let a = c.args in
    struct-hole a.nodes.now a.offsets.now a.extents.now a.p a.i
    (λ e. c.if-kind_of-eq-UNION.false (c.kind_of.ensures ∙ e)) c.word_at.ensures
    c.bytes_of-bytes.ensures c.room_end.ensures c.between-2.ensures
