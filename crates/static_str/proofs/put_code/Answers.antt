-- `static_str::put_code` meets its contract. Assumes nothing.
use mathlib.Core.Path.{ap, sym, ◌∙◌}
use mathlib.Core.List.{[], ◌∷◌}
use native.Mathlib.Omega.{arith}
use lib.ListN.{length}
use Rattle.kinds.specs.Primitive.{code_bytes}
use Rattle.static_str.proofs.OutputLaws.{wrote-same, wrote_none, wrote-append}
use Rattle.static_str.proofs.put_code.Goals as goal

pub put-requires : goal.put-requires
put-requires c =
    omega (arith, ap length (ap code_bytes (sym c.in-One.is) ∙ c.primitive_code.ensures))

pub put-next-requires : goal.put-next-requires
put-next-requires c =
    omega (arith, ap length (ap code_bytes (sym c.in-Two.is) ∙ c.primitive_code.ensures))

pub put-requires-in-Two : goal.put-requires-in-Two
put-requires-in-Two c =
    omega (arith, ap length (ap code_bytes (sym c.in-Two.is) ∙ c.primitive_code.ensures), c.put-next.ensures.place, c.put-next.auto.out)

pub returns-in-Empty : goal.returns-in-Empty
returns-in-Empty c =
    wrote-same (ap code_bytes (sym c.in-Empty.is) ∙ c.primitive_code.ensures) (wrote_none c.args.out.now c.args.at)

pub returns-in-One : goal.returns-in-One
returns-in-One c =
    wrote-same (ap code_bytes (sym c.in-One.is) ∙ c.primitive_code.ensures) c.put.ensures

pub returns-in-Two : goal.returns-in-Two
returns-in-Two c =
    let l = ap length (ap code_bytes (sym c.in-Two.is) ∙ c.primitive_code.ensures)
    in wrote-same (ap code_bytes (sym c.in-Two.is) ∙ c.primitive_code.ensures)
    (wrote-append (_ ∷ []) (_ ∷ []) (omega arith) c.put-next.ensures c.put-in-Two.ensures)
