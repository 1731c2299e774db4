use Rattle.parse.specs.Agree.{lists}
use mathlib.Core.Path.{◌≡◌}
use borrow.Author.Rules.{rules}
use Rattle.std.specs.Prelude.{Err}
use Rattle.parse.specs.Out.{refusal_of}
use Rattle.parse.specs.Strictly.{whole_answer}
use native.Mathlib.Omega.{arith}
use Rattle.parse.proofs.FromStr.{whole-not-read, whole-rest, whole-tree}
use Rattle.parse.proofs.read_whole.Goals as goal

pub clear_sheet-requires : goal.clear_sheet-requires
clear_sheet-requires c =
    let r = rw c.in_ok-to.was at c.parse_encoding_or_none.ensures in
    omega (arith, r.words-room, r.names-room, c.parse_encoding_or_none.auto.words, c.parse_encoding_or_none.auto.names)

pub returns-in_err-to : goal.returns-in_err-to
returns-in_err-to c =
    let p = whole-not-read c.args.strict c.args.text.now c.args.words.now c.args.names.now (lists c.parse_encoding_or_none.new.words c.parse_encoding_or_none.new.names) _ (rw c.in_err-to.was at c.parse_encoding_or_none.ensures) in
    let k : Err (refusal_of c.in_err-to.field-0.0) ≡ whole_answer c.args.strict c.args.text.now c.args.words.now c.args.names.now = p.0 in
    record { answers = search rules; fills = p.1.0; names = p.1.1 }

pub returns-then-to-n : goal.returns-then-to-n
returns-then-to-n c = let p = whole-rest _ _ _ _ _ _ _ _ (rw c.in_ok-to.was at c.parse_encoding_or_none.ensures) c.if-to-n.true c.clear_sheet.ensures.0
    c.clear_sheet.ensures.1 in record { answers = p.0; fills = p.1.0; names = p.1.1 }

pub returns-else-to-n : goal.returns-else-to-n
returns-else-to-n c = let p = whole-tree _ _ _ _ _ _ (rw c.in_ok-to.was at c.parse_encoding_or_none.ensures) c.if-to-n.false in record { answers = p.0; fills = p.1.0; names = p.1.1 }
