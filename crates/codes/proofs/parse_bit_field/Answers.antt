use Prim.Native.Nat.{◌+◌}
use mathlib.Core.Path.{sym, ap, ◌∙◌}
use native.Mathlib.Omega.{arith}
use lib.ListN.{length-drop}
use Rattle.kinds.specs.Parse as R
use Rattle.numbers.proofs.NumberLaws.{number_is, number_digits}
use Rattle.codes.proofs.CodeLaws.{integral-is, integral_code, single-code}
use Rattle.codes.proofs.TokenLaws.{numbers-short, numbers-no-type, numbers-no-digit, numbers-typed, answer-first, answer-both, refused-both, bits-short, bits-no-type, bits-no-digit, bits-typed, typed-is, typed-none}
use borrow.Author.Rules.{rules}
use Rattle.codes.proofs.parse_bit_field.Goals as goal

pub returns-then-text-to-lt2 : goal.returns-then-text-to-lt2
returns-then-text-to-lt2 c =
    let a = c.args in
    c.untyped.ensures ∙ answer-first a.text.now a.to a.first a.digits (search rules) (numbers-short _ (simp length-drop (omega arith)))
    (bits-short _ _ (simp length-drop (omega arith)))

pub returns-in_default : goal.returns-in_default
returns-in_default c =
    let a = c.args in
    let no = integral-is _ ∙ ap integral_code (sym c.single_kind.ensures ∙ c.in_default.is) in
    c.untyped-in_default.ensures ∙ answer-first a.text.now a.to a.first a.digits (search rules) (numbers-no-type a.text.now a.to (omega arith) no)
    (bits-no-type a.text.now a.to (omega arith) _ no)

pub returns-then-not-is_integral : goal.returns-then-not-is_integral
returns-then-not-is_integral c =
    let a = c.args in
    let no = integral-is _ ∙ ap integral_code (sym c.single_kind.ensures ∙ c.in-Some.is) ∙ sym c.is_integral.ensures ∙ c.if-not-is_integral.true in
    c.untyped-then-not-is_integral.ensures ∙ answer-first a.text.now a.to a.first a.digits (search rules) (numbers-no-type a.text.now a.to (omega arith) no)
    (bits-no-type a.text.now a.to (omega arith) _ no)

pub returns-then-not-is_digit : goal.returns-then-not-is_digit
returns-then-not-is_digit c =
    let a = c.args in
    let no = sym c.is_digit.ensures ∙ c.if-not-is_digit.true in
    c.untyped-then-not-is_digit.ensures ∙ answer-first a.text.now a.to a.first a.digits (search rules) (numbers-no-digit a.text.now a.to (omega arith) no)
    (bits-no-digit a.text.now a.to (omega arith) _ no)

pub returns-in-Ok : goal.returns-in-Ok
returns-in-Ok c =
    let a = c.args in
    let n = rw c.in-Ok.is at (number_is a.text.now _ (a.to + 1) _ (omega arith) c.parse_u8-number.ensures) in
    let shows = (number_digits a.text.now _ (a.to + 1) _ c.parse_u8-number.ensures) in
    let kind = sym c.in-Some.is ∙ c.single_kind.ensures in
    let yes = sym c.is_integral.ensures ∙ c.if-not-is_integral.false in
    let typable = integral-is _ ∙ ap integral_code (sym kind) ∙ yes in
    let known = single-code _ _ kind in
    let digit = sym c.is_digit.ensures ∙ c.if-not-is_digit.false in
    let second = numbers-typed a.text.now a.to (omega arith) typable digit in
    let e = bits-typed a.text.now a.to (omega arith) a.first _ typable digit known in
    answer-both a.text.now a.to a.first a.digits _ n.1.1 _ shows second _ _ (e ∙ ap (R.typed _ _) n.0 ∙ typed-is _ _ _ _)

pub returns-in-Err : goal.returns-in-Err
returns-in-Err c =
    let a = c.args in
    let n = rw c.in-Err.is at (number_is a.text.now _ (a.to + 1) _ (omega arith) c.parse_u8-number.ensures) in
    let shows = (number_digits a.text.now _ (a.to + 1) _ c.parse_u8-number.ensures) in
    let kind = sym c.in-Some.is ∙ c.single_kind.ensures in
    let yes = sym c.is_integral.ensures ∙ c.if-not-is_integral.false in
    let typable = integral-is _ ∙ ap integral_code (sym kind) ∙ yes in
    let known = single-code _ _ kind in
    let digit = sym c.is_digit.ensures ∙ c.if-not-is_digit.false in
    let second = numbers-typed a.text.now a.to (omega arith) typable digit in
    let e = bits-typed a.text.now a.to (omega arith) a.first _ typable digit known in
    refused-both a.text.now a.to a.first a.digits _ n.1.1 _ shows second _ (e ∙ ap (R.typed _ _) n.0 ∙ typed-none _ _ _ _)
