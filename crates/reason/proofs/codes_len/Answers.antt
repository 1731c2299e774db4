use Rattle.reason.proofs.ReasonLaws.{yes-measured, bytes-measured, codes_reason, codes_same, codes-differ, codes-length}
use Rattle.reason.proofs.codes_len.Goals as goal

pub returns-then-equivalent_kinds : goal.returns-then-equivalent_kinds
returns-then-equivalent_kinds c = λ all. yes-measured (codes_same all _ _ c.equivalent_kinds.ensures c.if-equivalent_kinds.true)

pub returns : goal.returns
returns c =
    let a = c.args in
    λ all. bytes-measured (codes_reason a.k a.j) (codes-differ all _ _ c.equivalent_kinds.ensures c.if-equivalent_kinds.false)
    (codes-length _ _ c.number_len.ensures.0 c.number_len-2.ensures.0)
