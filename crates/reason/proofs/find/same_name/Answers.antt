use mathlib.Core.Path.{ap₂, ◌∙◌}
use lib.ListN.{take, drop}
use Prim.Native.Nat.{ℕ}
use native.Mathlib.Nat.{add-sub_cancel_left}
use Rattle.kinds.specs.Byte.{same_bytes}
use Rattle.kinds.specs.Sheet.{first_at, second_at}
use Rattle.helper.proofs.CompareLaws.{bytes-pointwise}
use Rattle.reason.specs.Spot.{name_at}
use Rattle.reason.proofs.find.same_name.Goals as goal

pub returns : goal.returns
unfolding name_at
returns c =
    let a = c.args in
    c.eq.ensures ∙ bytes-pointwise _ _ ∙ ap₂ (λ (i j : ℕ). same_bytes (take i (drop (first_at a.a.now a.at) a.an.now)) (take j (drop (first_at a.b.now a.bt) a.bn.now)))
    (add-sub_cancel_left (first_at a.a.now a.at) (second_at a.a.now a.at)) (add-sub_cancel_left (first_at a.b.now a.bt) (second_at a.b.now a.bt))
