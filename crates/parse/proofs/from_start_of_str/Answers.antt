use mathlib.Core.Path.{sym, ◌∙◌}
use native.Mathlib.Omega.{arith}
use Rattle.parse.proofs.FromStr.{start-tree, start-away, start-digit, start-refused, end-part, end_whole}
use Rattle.parse.proofs.from_start_of_str.Goals as goal

pub slice_bounds-result-count : goal.slice_bounds-result-count
slice_bounds-result-count c =
    let r = rw c.in-Ok.is at c.parse_encoding_or_none.ensures in
    omega (arith, r.within)

pub slice_bounds-result-start : goal.slice_bounds-result-start
slice_bounds-result-start c =
    let r = rw c.in-Ok.is at c.parse_encoding_or_none.ensures in
    omega (arith, r.within)

pub put_none-requires : goal.put_none-requires
put_none-requires c =
    let r = rw (c.in-Err-Refused.is, c.in-Err-Refused.field-0-is) at c.parse_encoding_or_none.ensures in
    omega (arith, r.words-room, c.parse_encoding_or_none.auto.words)

pub slice_bounds-result-count-then-unknown_digit : goal.slice_bounds-result-count-then-unknown_digit
slice_bounds-result-count-then-unknown_digit c =
    let r = rw (c.in-Err-Refused.is, c.in-Err-Refused.field-0-is) at c.parse_encoding_or_none.ensures in
    omega (arith, r.within)

pub slice_bounds-result-start-then-unknown_digit : goal.slice_bounds-result-start-then-unknown_digit
slice_bounds-result-start-then-unknown_digit c =
    let r = rw (c.in-Err-Refused.is, c.in-Err-Refused.field-0-is) at c.parse_encoding_or_none.ensures in
    omega (arith, r.within)

pub returns-in-Ok : goal.returns-in-Ok
returns-in-Ok c = let r = rw c.in-Ok.is at c.parse_encoding_or_none.ensures in
    let s = start-tree _ _ _ _ _ r in record { rest = s.0; part = end-part _ _ r.within; answers = s.1.0; fills = s.1.1.0; names = s.1.1.1 }

pub returns-in-Err-Away : goal.returns-in-Err-Away
returns-in-Err-Away c = let r = rw (c.in-Err-Away.is, c.in-Err-Away.field-0-is) at c.parse_encoding_or_none.ensures in
    let s = start-away _ _ _ _ _ _ _ r.0 r.1.words-kept r.1.names-kept c.refusal_words.ensures in record { rest = s.0; part = end_whole _; answers = s.1.0; fills = s.1.1.0; names = s.1.1.1 }

pub returns-then-unknown_digit : goal.returns-then-unknown_digit
returns-then-unknown_digit c = let r = rw (c.in-Err-Refused.is, c.in-Err-Refused.field-0-is) at c.parse_encoding_or_none.ensures in
    let s = start-digit _ _ _ _ _ _ _ r (sym c.unknown_digit.ensures ∙ c.if-unknown_digit.true) c.put_none.ensures in record { rest = s.0; part = end-part _ _ r.within; answers = s.1.0; fills = s.1.1.0; names = s.1.1.1 }

pub returns-else-unknown_digit : goal.returns-else-unknown_digit
returns-else-unknown_digit c = let r = rw (c.in-Err-Refused.is, c.in-Err-Refused.field-0-is) at c.parse_encoding_or_none.ensures in
    let s = start-refused _ _ _ _ _ _ _ r (sym c.unknown_digit.ensures ∙ c.if-unknown_digit.false) c.refusal_words-else-unknown_digit.ensures in record { rest = s.0; part = end_whole _; answers = s.1.0; fills = s.1.1.0; names = s.1.1.1 }
