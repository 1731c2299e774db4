-- `static_str::container_len` meets its contract. Assumes nothing.
use mathlib.Core.Path.{ap, sym, ◌∙◌}
use native.Mathlib.Omega.{arith}
use lib.ListN.{length}
use Rattle.static_str.proofs.PartLaws.{fields-shown, fields-hidden}
use Rattle.static_str.proofs.container_len.Goals as goal

pub returns-in-Some : goal.returns-in-Some
returns-in-Some c =
    let e = ap length (fields-shown c.args.level _ (sym c.container_include_fields.ensures ∙ c.in-Some.is)) in (omega arith, omega arith)

pub returns-in-None : goal.returns-in-None
returns-in-None c =
    let e = ap length (fields-hidden c.args.level (sym c.container_include_fields.ensures ∙ c.in-None.is)) in (omega arith, omega arith)
