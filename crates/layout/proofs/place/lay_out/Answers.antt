use Rattle.layout.proofs.AnswerLaws.{walked-answer, walked-list, zeros-lent, back-within, back-taken}
use Rattle.layout.specs.Answer.{list_after}
use Rattle.layout.specs.Placing.{finished}
use native.Mathlib.Omega.{arith}
use mathlib.Core.Path.{ap, ◌∙◌}
use lib.ListN.{get_or, take, drop, replicate}
use Prim.Native.Nat.{◌+◌, ◌-◌}
use Rattle.layout.proofs.place.lay_out.Goals as goal

pub place-whole-requires : goal.place-whole-requires
place-whole-requires c =
    let t = c.args.tree in
    let n = t.n in
    let z = zeros-lent 2001 n t.few in
    let l = z.0 in
    let e = t.counted in
    (t.stands, omega arith, λ k h. ap (λ j. get_or (take (n - 0) (replicate 2001 0)) j 0) (omega arith) ∙ z.1 (1 + k) (omega arith))

pub slice_bounds-finish-end : goal.slice_bounds-finish-end
slice_bounds-finish-end c =
    let n = c.args.tree.n in
    back-within n c.place-whole.new.offsets (drop (n - 0) (replicate 2001 0))
    (c.place-whole.ensures.as_long ∙ (zeros-lent 2001 n c.args.tree.few).0)

pub returns : goal.returns
returns c = let a = c.args in
    let r = a.tree in
    let x = c.place-whole.result in
    let l = c.place-whole.ensures in
    let z = zeros-lent 2001 r.n r.few in
    let f = c.finish.ensures in
    let t = back-taken r.n _ _ (c.place-whole.ensures.as_long ∙ z.0) in
    let n = r.stands.some-node in record {
      answers = λ m o s. walked-answer m s r.nodes.now r.n r.counted (omega arith) _ _ z.0 z.1 _ (l.below m o s) r.limit (omega arith)
          (f.answers ∙ ap (finished r.limit x) t);
      fills = λ m o s. walked-list m s r.nodes.now r.n r.counted (omega arith) _ _ z.0 z.1 _ (l.below m o s) r.limit (omega arith)
          a.offsets.now (f.fills ∙ ap (λ v. list_after (finished r.limit x v) v a.offsets.now) t);
    }
