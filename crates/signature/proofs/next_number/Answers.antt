use mathlib.Core.Path.{sym, ◌∙◌}
use Rattle.kinds.specs.Parse.{max_u32}
use Rattle.numbers.proofs.NumberLaws.{number_is, number_digits}
use Rattle.signature.proofs.EntryLaws.{number_read, number-large, number-missing}
use Rattle.signature.proofs.next_number.Goals as goal

pub returns-in-Ok : goal.returns-in-Ok
returns-in-Ok c =
    let r = rw c.in-Ok.is at (number_is c.args.text.now max_u32 c.args.at _ c.requires.1 c.parse_u32-offset.ensures) in
    let d = (number_digits c.args.text.now max_u32 c.args.at _ c.parse_u32-offset.ensures) in
    number_read _ _ c.requires.1 _ _ _ _ r.1.1 r.0 d

pub returns-then-starts_digit : goal.returns-then-starts_digit
returns-then-starts_digit c =
    let r = rw c.in-Err.is at (number_is c.args.text.now max_u32 c.args.at _ c.requires.1 c.parse_u32-offset.ensures) in
    number-large _ _ c.requires.1 _ _ r.1.1 r.0 (sym c.starts_digit.ensures ∙ c.if-starts_digit.true)

pub returns-else-starts_digit : goal.returns-else-starts_digit
returns-else-starts_digit c =
    let r = rw c.in-Err.is at (number_is c.args.text.now max_u32 c.args.at _ c.requires.1 c.parse_u32-offset.ensures) in
    number-missing _ _ c.requires.1 _ _ r.1.1 r.0 (sym c.starts_digit.ensures ∙ c.if-starts_digit.false)
