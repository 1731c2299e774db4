use native.Mathlib.Omega.{arith}
use mathlib.Core.Path.{sym, ◌∙◌}
use Rattle.lines.proofs.HexLaws.{first-pair, read_more, pair-bad-first, digit-is, digit-not, pair-bad-second, stopped-end, stopped-bad, answer-bad, answer-short, answer-items}
use Rattle.lines.proofs.decode_hex.Goals as goal

pub returns-in_err-high : goal.returns-in_err-high
returns-in_err-high c =
    let t = first-pair c.loop-unread.unread.now c.in-len2-up.len_at_least in
    let p = answer-bad _ c.loop-unread.invariant (stopped-bad _ _ _ t (pair-bad-first _ _ (digit-not _ (sym c.in_err-high.was ∙ c.digit_of.ensures)))) in
    record { answers = c.from_residual.ensures ∙ p.0; fills = p.1 }

pub returns-in_err-low : goal.returns-in_err-low
returns-in_err-low c =
    let t = first-pair c.loop-unread.unread.now c.in-len2-up.len_at_least in
    let p = answer-bad _ c.loop-unread.invariant (stopped-bad _ _ _ t (pair-bad-second _ _ (digit-not _ (sym c.in_err-low.was ∙ c.digit_of-in-len2-up.ensures)))) in
    record { answers = c.from_residual-in_err-low.ensures ∙ p.0; fills = p.1 }

pub loop-unread-preserved : goal.loop-unread-preserved
loop-unread-preserved c =
    let t = first-pair c.loop-unread.unread.now c.in-len2-up.len_at_least in
    let high = digit-is _ _ (sym c.in_ok-high.was ∙ c.digit_of.ensures) in
    let low = digit-is _ _ (sym c.in_ok-low.was ∙ c.digit_of-in-len2-up.ensures) in
    read_more _ _ _ _ _ t c.loop-unread.invariant high.is low.is high.low low.low _ c.put_byte.ensures.text

pub overflow_mul-high : goal.overflow_mul-high
overflow_mul-high c = omega (arith, (digit-is _ _ (sym c.in_ok-high.was ∙ c.digit_of.ensures)).low)

pub overflow_add-high : goal.overflow_add-high
overflow_add-high c =
    omega (arith, (digit-is _ _ (sym c.in_ok-high.was ∙ c.digit_of.ensures)).low, (digit-is _ _ (sym c.in_ok-low.was ∙ c.digit_of-in-len2-up.ensures)).low)

pub returns-then-unread-eq1 : goal.returns-then-unread-eq1
returns-then-unread-eq1 c = let p = answer-bad _ c.loop-unread.invariant (stopped-end _ c.if-unread-eq1.true) in record { answers = p.0; fills = p.1 }

pub returns-then-out-n : goal.returns-then-out-n
returns-then-out-n c = let p = answer-short (omega arith) c.loop-unread.invariant c.if-out-n.true in record { answers = p.0; fills = p.1 }

pub returns : goal.returns
returns c = let p = answer-items (omega arith) c.loop-unread.invariant c.if-out-n.false in record { answers = p.0; fills = p.1 }
