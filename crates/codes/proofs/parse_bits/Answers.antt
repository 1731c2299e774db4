use Rattle.numbers.proofs.NumberLaws.{number_is, number_digits}
use Rattle.codes.proofs.TokenLaws.{answer-number, refused-number}
use Rattle.codes.proofs.parse_bits.Goals as goal

pub parse_bit_field-requires : goal.parse_bit_field-requires
parse_bit_field-requires c =
    let n = rw c.in-Ok.is at (number_is _ _ _ _ c.requires c.parse_u64-number.ensures) in
    n.1.1

pub returns-in-Err : goal.returns-in-Err
returns-in-Err c =
    let a = c.args in
    let n = rw c.in-Err.is at (number_is _ _ _ _ c.requires c.parse_u64-number.ensures) in
    let shows = (number_digits a.text.now _ a.at _ c.parse_u64-number.ensures) in
    rw c.first_digits.ensures (refused-number a.text.now a.at _ shows _ _ n.1.1 n.0)

pub returns-in-Ok : goal.returns-in-Ok
returns-in-Ok c =
    let a = c.args in
    let n = rw c.in-Ok.is at (number_is _ _ _ _ c.requires c.parse_u64-number.ensures) in
    let shows = (number_digits a.text.now _ a.at _ c.parse_u64-number.ensures) in
    answer-number a.text.now a.at _ shows c.in-Ok.first c.in-Ok.to n.0 c.parse_bit_field.ensures
