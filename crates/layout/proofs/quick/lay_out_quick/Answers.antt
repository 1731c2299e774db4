use Rattle.layout.proofs.AnswerLaws.{walked-answer, walked-list, answer-by, list-by, listed}
use native.Mathlib.Omega.{arith}
use mathlib.Core.Path.{refl, ◌∙◌}
use Rattle.layout.proofs.quick.lay_out_quick.Goals as goal

pub returns-in-Ok : goal.returns-in-Ok
returns-in-Ok c =
    let a = c.args in
    let g = c.in-Ok.ensures.settles in
    let f = c.finish.ensures in
    let t = a.tree in
    let n = t.stands.some-node in
    let w = t.nodes.now in record {
      answers = λ m o s. answer-by m s w t.limit refl (g.sized m o s)
          (walked-answer m s w _ refl (omega arith) g.first _ g.long g.zeros _ (g.laid.below m o s) t.limit (omega arith) f.answers);
      fills = λ m o s. list-by m s w t.limit refl (g.sized m o s) a.offsets.now
          (walked-list m s w _ refl (omega arith) g.first _ g.long g.zeros _ (g.laid.below m o s) t.limit (omega arith) a.offsets.now f.fills
          ∙ listed m s w _ _);
    }
