-- `static_str::close_node` meets its contract. Assumes nothing.
use Prim.Native.Nat.{ℕ}
use mathlib.Core.Path.{ap, sym, ◌∙◌}
use mathlib.Core.List.{[], ◌∷◌}
use native.Mathlib.Omega.{arith}
use lib.ListN.{length}
use Rattle.kinds.specs.Container.{end_byte}
use Rattle.static_str.proofs.PartLaws.{closing-typed, closing-array, closing-container, closing-none}
use Rattle.static_str.proofs.OutputLaws.{wrote-same, wrote_none}
use Rattle.static_str.proofs.close_node.Goals as goal

pub put-requires : goal.put-requires
put-requires c =
    omega (arith, ap length (closing-array c.args.kind c.args.second c.if-kind-eq-ARRAY.true), c.requires)

pub returns-then-kind-eq-ARRAY : goal.returns-then-kind-eq-ARRAY
returns-then-kind-eq-ARRAY c =
    wrote-same (sym (closing-array c.args.kind c.args.second c.if-kind-eq-ARRAY.true)) c.put.ensures

pub put-requires-then-is_container : goal.put-requires-then-is_container
put-requires-then-is_container c =
    omega (
      arith,
      ap length (closing-container c.args.kind c.args.second (sym c.is_container.ensures ∙ c.if-is_container.true)),
      c.requires,
    )

pub returns-then-is_container : goal.returns-then-is_container
returns-then-is_container c =
    wrote-same (ap (λ (x : ℕ). x ∷ []) (c.end_byte.ensures ∙ ap end_byte c.container_of.ensures)
    ∙ sym (closing-container c.args.kind c.args.second (sym c.is_container.ensures ∙ c.if-is_container.true)))
    c.put-then-is_container.ensures

pub put_number-requires : goal.put_number-requires
put_number-requires c =
    omega (arith, ap length (closing-typed c.args.kind c.args.second c.if-kind-eq-TYPED_BIT_FIELD.true), c.requires)

pub returns-then-kind-eq-TYPED_BIT_FIELD : goal.returns-then-kind-eq-TYPED_BIT_FIELD
returns-then-kind-eq-TYPED_BIT_FIELD c =
    wrote-same (sym (closing-typed c.args.kind c.args.second c.if-kind-eq-TYPED_BIT_FIELD.true)) c.put_number.ensures

pub returns : goal.returns
returns c =
    let a = c.args in wrote-same (sym (closing-none a.kind a.second c.if-kind-eq-TYPED_BIT_FIELD.false c.if-kind-eq-ARRAY.false
    (sym c.is_container.ensures ∙ c.if-is_container.false))) (wrote_none a.out.now a.at)
