use Prim.Native.Nat.{ℕ}
use native.Mathlib.Nat.{add-sub_cancel_left}
use mathlib.Core.Path.{ap, ◌∙◌}
use lib.ListN.{take, drop}
use Rattle.kinds.specs.Name.{verify_name}
use Rattle.sheet.proofs.name_good.Goals as goal

pub returns-then-not-good : goal.returns-then-not-good
returns-then-not-good c = rw c.if-not-good.true

pub returns : goal.returns
returns c = rw c.if-not-good.false
    (c.verify_name.ensures ∙ ap (λ (n : ℕ). verify_name (take n (drop c.args.from c.args.names.now)))
    (add-sub_cancel_left c.args.from c.args.size))
