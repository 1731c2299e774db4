use native.Mathlib.Omega.{arith}
use Rattle.signature.proofs.AnswerLaws.{too_long, too_short_lem, answer-away, answer-empty, few-entries, all-answered, refused-answered}
use Rattle.signature.proofs.parse_signature.Goals as goal

pub returns-then-n-gt-MAX_TEXT : goal.returns-then-n-gt-MAX_TEXT
returns-then-n-gt-MAX_TEXT c = let p = answer-away _ _ _ (too_long _ _ c.if-n-gt-MAX_TEXT.true) in record { answers = p.0; fills = p.1 }

pub returns-then-list-part : goal.returns-then-list-part
returns-then-list-part c = let p = answer-away _ _ _ (too_short_lem _ _ (omega (arith, c.if-n-gt-MAX_TEXT.false)) c.if-list-part.true) in record { answers = p.0; fills = p.1 }

pub returns-then-n-eq0 : goal.returns-then-n-eq0
returns-then-n-eq0 c = let p = answer-empty _ _ c.if-n-eq0.true in record { answers = p.0; fills = p.1 }

pub overflow_mul-from : goal.overflow_mul-from
overflow_mul-from c =
    let r = rw c.in-Ok.is at c.read_entries.ensures in
    omega (arith, few-entries _ _ _ _ r, c.if-n-gt-MAX_TEXT.false)

pub offset_bounds-list-from : goal.offset_bounds-list-from
offset_bounds-list-from c =
    let r = rw c.in-Ok.is at c.read_entries.ensures in
    omega (arith, few-entries _ _ _ _ r, c.if-n-gt-MAX_TEXT.false)

pub slice_bounds-clear_words-count-in-Ok : goal.slice_bounds-clear_words-count-in-Ok
slice_bounds-clear_words-count-in-Ok c =
    let r = rw c.in-Ok.is at c.read_entries.ensures in
    omega (arith, few-entries _ _ _ _ r)

pub slice_bounds-clear_words-start-in-Ok : goal.slice_bounds-clear_words-start-in-Ok
slice_bounds-clear_words-start-in-Ok c =
    let r = rw c.in-Ok.is at c.read_entries.ensures in
    omega (arith, few-entries _ _ _ _ r)

pub returns-in-Err : goal.returns-in-Err
returns-in-Err c = let r = rw c.in-Err.is at c.read_entries.ensures in let p = refused-answered _ _ _ (omega (arith, c.if-n-eq0.false)) (omega (arith, c.if-n-gt-MAX_TEXT.false)) (omega (arith, c.if-list-part.false)) r.0 _ _ r.1
    c.clear_words.ensures in record { answers = p.0; fills = p.1 }

pub returns-in-Ok : goal.returns-in-Ok
returns-in-Ok c = let r = rw c.in-Ok.is at c.read_entries.ensures in let p = all-answered _ _ _ (omega (arith, c.if-n-eq0.false)) (omega (arith, c.if-n-gt-MAX_TEXT.false)) (omega (arith, c.if-list-part.false)) r.0 _ _ r.1.0 r.1.1
    c.clear_words-in-Ok.ensures in record { answers = p.0; fills = p.1 }
