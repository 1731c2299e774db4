-- `static_str::put_equals` meets its contract. Assumes nothing.
use mathlib.Core.Path.{ap, sym, ◌∙◌}
use native.Mathlib.Omega.{arith}
use lib.ListN.{length}
use Rattle.static_str.proofs.PartLaws.{fields-shown, fields-hidden}
use Rattle.static_str.proofs.OutputLaws.{wrote-same, wrote_none}
use Rattle.static_str.proofs.put_equals.Goals as goal

pub put-requires : goal.put-requires
put-requires c =
    omega (arith, ap length (fields-shown c.args.level _ (sym c.container_include_fields.ensures ∙ c.in-Some.is)))

pub returns-in-Some : goal.returns-in-Some
returns-in-Some c =
    wrote-same (sym (fields-shown c.args.level _ (sym c.container_include_fields.ensures ∙ c.in-Some.is))) c.put.ensures

pub returns-in-None : goal.returns-in-None
returns-in-None c =
    let a = c.args in wrote-same (sym (fields-hidden a.level (sym c.container_include_fields.ensures ∙ c.in-None.is)))
    (wrote_none a.out.now a.at)
