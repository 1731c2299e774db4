use Rattle.layout.proofs.AnswerLaws.{zeros-lent}
use Rattle.layout.proofs.quick.lay_out_in.Goals as goal

pub lay_out_quick-requires : goal.lay_out_quick-requires
lay_out_quick-requires g c =
    let p = c.requires in
    let z = zeros-lent _ c.args.tree.n p.0 in
    (p.2, z.0, z.1)
