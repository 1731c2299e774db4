use borrow.Enum.Refused.{opened}
use Prim.Native.Nat.{ℕ}
use native.Mathlib.Omega.{arith}
use mathlib.Core.Path.{ap, sym, ◌∙◌}
use Rattle.kinds.specs.Print.{decimal}
use Rattle.lines.proofs.PutLaws.{put_same}
use Rattle.reason.specs.Reason.{value_text}
use Rattle.reason.proofs.ValueLaws.{name-end, name-part, value-number}
use Rattle.reason.proofs.words.put_value.Goals as goal

pub overflow_add-end : goal.overflow_add-end
overflow_add-end c =
    let h = name-end _ _ _ c.in-Name.is c.requires.1 c.requires.2 in
    omega arith

pub slice_bounds-put_bytes_value-end : goal.slice_bounds-put_bytes_value-end
slice_bounds-put_bytes_value-end c =
    let h = name-end _ _ _ c.in-Name.is c.requires.1 c.requires.2 in
    omega arith

pub returns-in-Name : goal.returns-in-Name
returns-in-Name c =
    put_same (ap value_text (name-part _ _ _ c.in-Name.is c.requires.2)) c.put_bytes_value.ensures

pub returns : goal.returns
returns c =
    put_same (ap (λ (n : ℕ). value_text (decimal n)) c.requires.2 ∙ ap value_text (sym (value-number _ _ _ _ (opened c.in_default.in_default-own.keys2)))) c.put_number_value.ensures
