use Prim.Native.Nat.{ℕ, ◌+◌, ◌*◌, ◌-◌, ◌≤◌}
use mathlib.Core.Path.{◌≡◌, ap, ◌∙◌}
use mathlib.Core.List.{List, [], ◌∷◌}
use native.Mathlib.Nat.{add-zero}
use native.Mathlib.Omega.{arith}
use lib.ListN.{length}
use lib.Seq.{sets}
use borrow.Rule.Slice.PartMut.{mid_of, put_mid, mid_len}
use Rattle.kinds.proofs.StoreLaws.{sets-middle}
use Rattle.sheet.proofs.PutLaws.{node-put}
use Rattle.parse.proofs.put_node.Goals as goal

pub returns : goal.returns
returns c =
    let a = c.args in
    let w : List ℕ = a.words.now in
    let from : ℕ = 4 * a.n in
    let node : List ℕ = a.kind ∷ a.first ∷ a.second ∷ a.count ∷ [] in
    let room : from + 4 ≤ length w = c.requires in
    let n : length (mid_of from (from + 4 - from) w) ≡ from + 4 - from = mid_len from (from + 4) w room in
    let put = c.put_node.ensures ∙ node-put 0 node (mid_of from (from + 4 - from) w) (omega arith) in
    ap (put_mid from (from + 4 - from) w) put ∙ sets-middle from (from + 4) w 0 node (omega arith) room (omega arith) ∙ ap (λ (k : ℕ). sets w k node) (add-zero from)
