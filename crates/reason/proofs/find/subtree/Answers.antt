use mathlib.Core.Path.{sym}
use Rattle.kinds.proofs.NodeLaws.{leaf-count}
use Rattle.reason.proofs.find.subtree.Goals as goal

pub returns-then-nodes-at-lt-TYPED_BIT_FIELD : goal.returns-then-nodes-at-lt-TYPED_BIT_FIELD
returns-then-nodes-at-lt-TYPED_BIT_FIELD c = let a = c.args in let p = c.requires in sym (leaf-count a.nodes.now a.at p c.if-nodes-at-lt-TYPED_BIT_FIELD.true)
