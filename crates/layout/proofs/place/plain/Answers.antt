use mathlib.Core.Path.{ap, ◌∙◌}
use native.Mathlib.Omega.{arith}
use Rattle.layout.proofs.ExtentLaws.{placed-code, placed-pointer, placed-none, part-below}
use Prim.Native.Nat.{max}
use lib.ListN.{get_or}
use Rattle.layout.proofs.place.plain.Goals as goal

pub bounds-sizes-part_kind : goal.bounds-sizes-part_kind
bounds-sizes-part_kind c =
    part-below c.args.kind c.if-kind-lt-PRIMITIVES.true c.part_kind.ensures

pub returns-then-kind-lt-PRIMITIVES : goal.returns-then-kind-lt-PRIMITIVES
returns-then-kind-lt-PRIMITIVES c =
    let a = c.args in
    placed-code a.sizes.now a.kind (omega arith) (omega arith) c.from.ensures
    (let e = ap (λ k. max 1 (get_or a.sizes.now k 0)) c.part_kind.ensures in omega arith)

pub returns-then-kind-eq-POINTER : goal.returns-then-kind-eq-POINTER
returns-then-kind-eq-POINTER c =
    let a = c.args in
    placed-pointer a.sizes.now a.kind (omega arith) (omega arith) c.from-then-kind-eq-POINTER.ensures (omega arith)

pub returns : goal.returns
returns c =
    c.new.ensures ∙ placed-none c.args.sizes.now c.args.kind c.if-kind-lt-PRIMITIVES.false c.if-kind-eq-POINTER.false
