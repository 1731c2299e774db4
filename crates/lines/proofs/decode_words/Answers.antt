use borrow.Author.Rules.{rules}
use lib.ListN.{length}
use mathlib.Core.Path.{sym, ◌∙◌}
use Rattle.lines.proofs.DecimalLaws.{scan-more, scan-bad, scan-short, scan-items}
use Rattle.lines.proofs.decode_words.Goals as goal

pub returns-in_err-m : goal.returns-in_err-m
returns-in_err-m c =
    let p = scan-bad (length c.args.words.now) c.advance.new.words c.loop-b-test.true c.loop-b.invariant (sym c.in_err-m.was ∙ c.advance.ensures.answers) c.advance.ensures.fills in
    let k = p.0 in
    record { answers = search rules; fills = p.1 }

pub loop-b-preserved : goal.loop-b-preserved
loop-b-preserved c =
    scan-more _ _ _ c.loop-b-test.true c.loop-b.invariant (sym c.in_ok-m.was ∙ c.advance.ensures.answers) c.advance.ensures.fills

pub returns-then-words-n : goal.returns-then-words-n
returns-then-words-n c = let p = scan-short _ c.loop-b-test.false c.loop-b.invariant c.put_word.ensures c.if-words-n.true in record { answers = p.0; fills = p.1 }

pub returns : goal.returns
returns c = let p = scan-items _ c.loop-b-test.false c.loop-b.invariant c.put_word.ensures c.if-words-n.false in record { answers = p.0; fills = p.1 }
