use mathlib.Core.Path.{sym}
use mathlib.Core.List.{[], ◌∷◌}
use native.Mathlib.Omega.{arith}
use native.Mathlib.Numerals.{towards_suc}
use lib.ListN.{length-set}
use Rattle.sheet.proofs.PutLaws.{node-put, node_kept}
use Rattle.sheet.proofs.put_node.Goals as goal

pub returns-then-nodes-n : goal.returns-then-nodes-n
returns-then-nodes-n c = sym (node_kept _ _ _ (omega arith))

pub bounds-nodes-at-2 : goal.bounds-nodes-at-2
bounds-nodes-at-2 c = simp length-set (omega arith)

pub bounds-nodes-at-3 : goal.bounds-nodes-at-3
bounds-nodes-at-3 c = simp length-set (omega arith)

pub bounds-nodes-at-4 : goal.bounds-nodes-at-4
bounds-nodes-at-4 c = simp length-set (omega arith)

pub returns : goal.returns
returns c =
    let a = c.args in
    simp towards_suc (sym (node-put a.n (a.kind ∷ a.first ∷ a.second ∷ a.count ∷ []) a.nodes.now (omega arith)))
