use borrow.Author.Tests.{lt-leb}
use Rattle.layout.proofs.EndLaws.{end-unfit, end_none, end-over, end-above, end_fits, refused-both, written_both}
use mathlib.Core.Path.{ap, sym, ◌∙◌}
use mathlib.Core.Bool.{◌&&◌, and-false}
use lib.Dec.{leb}
use Rattle.layout.proofs.place.finish.Goals as goal

pub returns-then-not-whole : goal.returns-then-not-whole
returns-then-not-whole c = let a = c.args in let p = refused-both a.limit a.whole a.numbers.now a.offsets.now (end-unfit a.limit a.whole a.numbers.now c.if-not-whole.true) in record { answers = p.0; fills = p.1 }

pub returns-then-limit-bytes : goal.returns-then-limit-bytes
returns-then-limit-bytes c = let a = c.args in let p = refused-both a.limit a.whole a.numbers.now a.offsets.now
    (end-above a.limit a.whole a.numbers.now _ c.in-Bytes.is (rw (lt-leb _ _ c.if-limit-bytes.true))) in record { answers = p.0; fills = p.1 }

pub returns-then-not-within_limit : goal.returns-then-not-within_limit
returns-then-not-within_limit c = let a = c.args in let p = refused-both a.limit a.whole a.numbers.now a.offsets.now
    (end-above a.limit a.whole a.numbers.now c.in-Bytes.bytes c.in-Bytes.is
    (ap (λ b. leb c.in-Bytes.bytes a.limit && b) (sym c.within_limit.ensures ∙ c.if-not-within_limit.true)
    ∙ and-false (leb c.in-Bytes.bytes a.limit))) in record { answers = p.0; fills = p.1 }

pub returns-in-Nothing : goal.returns-in-Nothing
returns-in-Nothing c = let a = c.args in let p = refused-both a.limit a.whole a.numbers.now a.offsets.now (end_none a.limit a.whole a.numbers.now c.in-Nothing.is) in record { answers = p.0; fills = p.1 }

pub returns-in-TooLarge : goal.returns-in-TooLarge
returns-in-TooLarge c = let a = c.args in let p = refused-both a.limit a.whole a.numbers.now a.offsets.now (end-over a.limit a.whole a.numbers.now c.in-TooLarge.is) in record { answers = p.0; fills = p.1 }

pub returns-else-not-within_limit : goal.returns-else-not-within_limit
returns-else-not-within_limit c = let a = c.args in let p = written_both a.limit a.whole a.numbers.now a.offsets.now _ _ _
    (end_fits a.limit a.whole a.numbers.now _ c.in-Bytes.is c.if-not-whole.false c.if-limit-bytes.false
    (sym c.within_limit.ensures ∙ c.if-not-within_limit.false))
    c.from.ensures c.copy_numbers.ensures in record { answers = p.0; fills = p.1 }
