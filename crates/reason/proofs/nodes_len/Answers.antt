use Prim.Native.Nat.{ℕ, ◌+◌}
use mathlib.Core.Path.{ap, ◌∙◌}
use Rattle.reason.proofs.ReasonLaws.{yes-measured, bytes-measured, found-same, found_at, numbers-short, counted}
use Rattle.reason.proofs.nodes_len.Goals as goal

pub path_len-requires : goal.path_len-requires
path_len-requires c =
    let d = found_at c.args.all _ c.new.ensures _ _ _ _ _ _ c.requires.0 c.requires.1 c.first_difference.ensures c.in-Some.is in
    d.places.0

pub difference_len-requires : goal.difference_len-requires
difference_len-requires c =
    let d = found_at c.args.all _ c.new.ensures _ _ _ _ _ _ c.requires.0 c.requires.1 c.first_difference.ensures c.in-Some.is in
    numbers-short d

pub returns-in-None : goal.returns-in-None
returns-in-None c =
    yes-measured (found-same c.args.all _ c.new.ensures _ _ _ _ _ _ c.requires.0 c.requires.1 c.first_difference.ensures
    c.in-None.is)

pub returns-in-Some : goal.returns-in-Some
returns-in-Some c =
    let d = found_at c.args.all _ c.new.ensures _ _ _ _ _ _ c.requires.0 c.requires.1 c.first_difference.ensures c.in-Some.is in
    bytes-measured _ d.reason (ap (λ (n : ℕ). n + c.difference_len.result) c.path_len.ensures.0 ∙ counted d c.difference_len.ensures.0)
