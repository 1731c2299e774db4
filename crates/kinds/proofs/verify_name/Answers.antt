-- `kinds::verify_name` meets its contract. Assumes nothing.
use Rattle.std.proofs.Common.{sym, ◌∙◌, arith, rules, tests}
use Rattle.std.proofs.lemmas.Iterator.{YieldsList-from_slice}
use Rattle.std.proofs.lemmas.Iterator.Search.{all_from_yields_List}
use Rattle.kinds.specs.Name.{is_name_byte}
use Rattle.kinds.proofs.NameLaws.{all-bytes, name-empty, name-unknown, name-one, name-more}
use Rattle.kinds.proofs.verify_name.Goals as goal
use Rattle.kinds.proofs.verify_name.Goals.{in_default-via-then-name-lt2+in_default-1, in_default-via-else-name-lt2}

pub returns-in-empty : goal.returns-in-empty
returns-in-empty c = sym (name-empty _ (omega arith))

pub returns-in-63 : goal.returns-in-63
returns-in-63 c = sym (name-unknown _ (omega arith) (omega arith))

pub returns-in_default : goal.returns-in_default
returns-in_default c =
    let name = c.args.name.now in
    let by_all = all_from_yields_List is_name_byte _ _ c.all.result c.all.ensures.ran (YieldsList-from_slice name cc) (λ x b q k. search (rules, tests)) in
    elim c.in_default.branch [
      | in_default-via-then-name-lt2+in_default-1 w ↦ by_all ∙ all-bytes name ∙ sym (name-one _ (grind arith) (λ e. grind arith))
      | in_default-via-else-name-lt2 w ↦ by_all ∙ all-bytes name ∙ sym (name-more _ (grind arith))
    ]
