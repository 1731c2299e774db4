use Rattle.kinds.proofs.ListLaws.{whole}
use Rattle.skip.proofs.SkipLaws.{answer-fields, answer-ended}
use Rattle.skip.proofs.skip_fields.Goals as goal

pub returns-then-text-at : goal.returns-then-text-at
returns-then-text-at c = answer-ended _ _ _ c.if-text-at.true

pub returns : goal.returns
returns c = answer-fields _ _ _ _ _ (rw (whole c.args.text.now) at c.skip_items.ensures) c.ok.ensures.value
