use Prim.Native.Nat.{ℕ, ◌+◌, ◌*◌, ◌-◌}
use mathlib.Core.Path.{◌≡◌, refl, sym, ap, ◌∙◌}
use native.Mathlib.Omega.{arith}
use lib.ListN.{length, drop, length-drop}
use borrow.Author.Rules.{rules}
use borrow.Author.Tests.{ltb-true, ltb-false}
use Rattle.kinds.specs.Parse.{bounded, no_number, value}
use Rattle.kinds.specs.declared.ErrorKind.TheVariants.{IntegerTooLarge}
use Rattle.kinds.specs.Byte.{is_digit}
use Rattle.kinds.specs.Strict.{digit_count}
use Rattle.parser.proofs.RunLaws.{run-to}
use Rattle.kinds.proofs.ParseLaws.{within-limit}
use Rattle.numbers.proofs.NumberLaws.{digit-range, digits-more-at, digits-stop-at, digits-end-at, number-starts-at, number-none-at, too_large_lem, answer-value}
use Rattle.numbers.proofs.NumberLaws.{answer-refused, answer-ended, no-digits, all_digits_lem, count-more-at, count-stop-at, count-end-at, count-run}
use Rattle.numbers.proofs.parse_number.Goals as goal

pub returns-then-text-at : goal.returns-then-text-at
returns-then-text-at c = c.refused.ensures ∙ rw c.digits_taken.ensures (answer-ended _ _ _ c.if-text-at.true)

pub returns-then-not-is_digit : goal.returns-then-not-is_digit
returns-then-not-is_digit c =
    let h = c.if-text-at.false in
    let no = sym c.is_digit.ensures ∙ c.if-not-is_digit.true in
    c.refused-then-not-is_digit.ensures ∙ answer-refused _ _ _ _ _ _ (omega arith) (c.digits_taken-then-not-is_digit.ensures ∙ no-digits _ (count-stop-at _ _ h no)) (number-none-at _ _ _ h no)

pub loop-i-init : goal.loop-i-init
loop-i-init c =
    let h = c.if-text-at.false in
    record { read = number-starts-at _ _ _ h (sym c.is_digit.ensures ∙ c.if-not-is_digit.false); within = omega arith; bound = omega arith; counted = omega arith }

pub returns-then-not-is_digit-2 : goal.returns-then-not-is_digit-2
returns-then-not-is_digit-2 c =
    let l = c.loop-i in
    let h = c.loop-i-test.true in
    let no = sym c.is_digit-in-loop-i.ensures ∙ c.if-not-is_digit-2.true in
    let stop = digits-stop-at _ _ _ h no in
    let a = c.args in
    let all = all_digits_lem a.text.now a.at (l.i - a.at) (omega (arith, l.invariant.counted, count-stop-at a.text.now l.i h no)) c.if-text-at.false in
    answer-value _ _ _ _ _ _ (omega arith) (c.digits_taken-taken.ensures ∙ all) (l.invariant.read ∙ ap (bounded _) stop ∙ within-limit _ _ _ l.invariant.bound)

pub overflow_sub-b : goal.overflow_sub-b
overflow_sub-b c = omega (arith, digit-range _ (sym c.is_digit-in-loop-i.ensures ∙ c.if-not-is_digit-2.false))

pub is_above-requires : goal.is_above-requires
is_above-requires c =
    (omega (arith, c.from-d.ensures, digit-range _ (sym c.is_digit-in-loop-i.ensures ∙ c.if-not-is_digit-2.false)), search rules)

pub overflow_sub-to : goal.overflow_sub-to
overflow_sub-to c =
    let end = run-to is_digit c.args.text.now (c.loop-i.i + 1) c.chomp_digits-to.result (omega arith) c.chomp_digits-to.ensures in
    omega (arith, end.onward, c.loop-i.auto.i)

pub returns-then-is_above : goal.returns-then-is_above
returns-then-is_above c =
    let l = c.loop-i in
    let a = c.args in
    let w = c.from-d.ensures in
    let digit = sym c.is_digit-in-loop-i.ensures ∙ c.if-not-is_digit-2.false in
    let range = digit-range _ digit in
    let here = digits-more-at _ _ _ c.loop-i-test.true digit in
    let more = count-more-at a.text.now l.i c.loop-i-test.true digit in
    let end = run-to is_digit a.text.now (l.i + 1) c.chomp_digits-to.result (omega arith) c.chomp_digits-to.ensures in
    let above = rw w at (ltb-true a.limit (l.acc * 10 + c.from-d.result) (sym c.is_above.ensures ∙ c.if-is_above.true)) in
    let passed = ap length end.left in
    let run = count-run (drop (l.i + 1) a.text.now) in
    let count : c.chomp_digits-to.result - a.at ≡ digit_count (drop a.at a.text.now) =
    omega (
      arith,
      l.invariant.counted,
      more,
      run,
      passed,
      length-drop (l.i + 1) a.text.now,
      length-drop c.chomp_digits-to.result a.text.now,
      end.onward,
      end.within,
    ) in
    let all = all_digits_lem a.text.now a.at (c.chomp_digits-to.result - a.at) count c.if-text-at.false in
    c.refused-then-is_above.ensures ∙ answer-refused _ _ _ _ _ _ end.within (c.digits_taken-digits.ensures ∙ all)
    (l.invariant.read ∙ ap (bounded _) here ∙ too_large_lem _ _ _ above ∙ ap (no_number IntegerTooLarge) end.left)

pub overflow_mul-acc : goal.overflow_mul-acc
overflow_mul-acc c =
    omega (arith, ltb-false c.args.limit (c.loop-i.acc * 10 + c.from-d.result) (sym c.is_above.ensures ∙ c.if-is_above.false))

pub overflow_add-acc : goal.overflow_add-acc
overflow_add-acc c =
    omega (arith, ltb-false c.args.limit (c.loop-i.acc * 10 + c.from-d.result) (sym c.is_above.ensures ∙ c.if-is_above.false))

pub loop-i-preserved : goal.loop-i-preserved
loop-i-preserved c =
    let l = c.loop-i in
    let a = c.args in
    let digit = sym c.is_digit-in-loop-i.ensures ∙ c.if-not-is_digit-2.false in
    let below = ltb-false a.limit (l.acc * 10 + c.from-d.result) (sym c.is_above.ensures ∙ c.if-is_above.false) in
    record {
      read = l.invariant.read ∙ ap (bounded _) (digits-more-at _ _ _ c.loop-i-test.true digit) ∙ rw c.from-d.ensures refl;
      within = omega arith;
      bound = omega arith;
      counted = omega (arith, count-more-at a.text.now l.i c.loop-i-test.true digit);
    }

pub returns : goal.returns
returns c =
    let l = c.loop-i in
    let a = c.args in
    let ended : l.i ≡ length a.text.now = omega (arith, l.invariant.within) in
    let all = all_digits_lem a.text.now a.at (length a.text.now - a.at) (omega (arith, l.invariant.counted, count-end-at a.text.now l.i c.loop-i-test.false)) c.if-text-at.false in
    answer-value _ _ _ _ _ _ (omega arith) (c.digits_taken-taken-2.ensures ∙ all)
    (l.invariant.read ∙ ap (bounded _) (digits-end-at _ _ _ c.loop-i-test.false) ∙ within-limit _ _ _ l.invariant.bound ∙ ap (λ (k : ℕ). value l.acc (drop k a.text.now)) ended)
