-- `tool::show::put_values` meets its contract. Assumes nothing.
use mathlib.Core.Path.{◌∙◌}
use native.Mathlib.Omega.{arith}
use Rattle.lines.proofs.PutLaws.{put_same, put-append, put-none}
use Rattle.show.proofs.ShowLaws.{bits-values, typed-values, array-values, name-values, no-values}
use Rattle.show.proofs.put_values.Goals as goal

pub returns-in-24 : goal.returns-in-24
returns-in-24 c =
    put_same (bits-values c.args.names.now c.args.kind c.args.first c.args.second c.in-24.is) c.put_count.ensures

pub returns-in-25 : goal.returns-in-25
returns-in-25 c =
    put_same (typed-values c.args.names.now c.args.kind c.args.first c.args.second c.in-25.is)
    (put-append _ _ c.put_number-offset.ensures (put-append _ _ c.put_bytes-of.ensures c.put_count-in-25.ensures))

pub returns-in-28 : goal.returns-in-28
returns-in-28 c =
    put_same (array-values c.args.names.now c.args.kind c.args.first c.args.second c.in-28.is) c.put_number.ensures

pub returns-in-29 : goal.returns-in-29
returns-in-29 c =
    put_same (c.part.ensures ∙ name-values c.args.names.now c.args.kind c.args.first c.args.second (omega arith) (omega arith))
    c.put_bytes.ensures

pub returns-in_default : goal.returns-in_default
returns-in_default c =
    put_same (no-values c.args.names.now c.args.kind c.args.first c.args.second c.in_default.in_default-own.rest.0.0.1
    c.in_default.in_default-own.rest.0.1 c.in_default.in_default-own.rest.1 (λ e. absurd (omega (arith, e))) (λ e. absurd (omega (arith, e)))) (put-none _ _)

pub returns-in_default-2 : goal.returns-in_default-2
returns-in_default-2 c =
    put_same (no-values c.args.names.now c.args.kind c.args.first c.args.second c.in_default.in_default-own.rest.0.0.1 c.in_default.in_default-own.rest.0.1
    c.in_default.in_default-own.rest.1 (λ e. absurd (omega (arith, e))) (λ e. absurd (omega (arith, e)))) (put-none _ _)
