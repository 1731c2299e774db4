use Rattle.codes.proofs.CodeLaws.{begun-object, begun-no-object}
use Rattle.skip.proofs.SkipLaws.{alone-not, alone-end, alone-more}
use Rattle.skip.proofs.object_alone.Goals as goal

pub returns-in_default : goal.returns-in_default
returns-in_default c = alone-not c.args.text.now c.args.at (begun-no-object _ _ c.start.ensures c.in_default.not-Object)

pub returns-then-text-next : goal.returns-then-text-next
returns-then-text-next c = alone-end c.args.text.now c.args.at (begun-object _ _ c.start.ensures c.in-Object.is) c.if-text-next.true

pub returns : goal.returns
returns c = alone-more c.args.text.now c.args.at _ (begun-object _ _ c.start.ensures c.in-Object.is) c.if-text-next.false c.ends_object.ensures
