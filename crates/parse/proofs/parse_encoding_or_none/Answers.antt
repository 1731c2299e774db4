use mathlib.Core.Path.{refl, ap, sym, ◌∙◌}
use native.Mathlib.Omega.{arith}
use lib.ListN.{length, length-drop}
use Prim.Native.Nat.{ℕ}
use mathlib.Core.List.{List}
use Rattle.parser.proofs.PlaceLaws.{strip-place}
use Rattle.codes.proofs.CodeLaws.{single-code}
use Rattle.kinds.specs.Sheet.{header_words}
use Rattle.parse.specs.Agree.{lists, Lists}
use Rattle.parse.proofs.Entry.{too_long, few_words, few-names, ready-whole, joined-fits, one_code, entered, mid-rest}
use Rattle.kinds.proofs.ListLaws.{whole}
use Rattle.parse.proofs.parse_encoding_or_none.Goals as goal

pub returns-then-n-gt-MAX_TEXT : goal.returns-then-n-gt-MAX_TEXT
returns-then-n-gt-MAX_TEXT c = (too_long _ _ _ c.if-n-gt-MAX_TEXT.true, record { words-kept = refl; names-kept = refl })

pub returns-then-words-n : goal.returns-then-words-n
returns-then-words-n c = (few_words _ _ _ c.if-n-gt-MAX_TEXT.false c.if-words-n.true, record { words-kept = refl; names-kept = refl })

pub returns-then-names-n : goal.returns-then-names-n
returns-then-names-n c = (few-names _ _ _ c.if-n-gt-MAX_TEXT.false c.if-names-n.true, record { words-kept = refl; names-kept = refl })

pub returns-in-Some : goal.returns-in-Some
returns-in-Some c =
    let a = c.args in
    let code = single-code _ _ (sym c.in-Some.is ∙ c.single_kind.ensures) in
    let put = c.put_code.ensures in
    one_code a.strict a.text.now a.words.now a.names.now _ c.if-n-eq1.true c.if-words-n.false c.if-names-n.false code _ _
    put.0 put.1

pub parse_inner-p-requires : goal.parse_inner-p-requires
parse_inner-p-requires c =
    let T : List ℕ = c.args.text.now in
    let clear = c.clear_sheet in
    let w : List ℕ = clear.new.words in
    let at = (strip-place T _ c.strip_leading_qualifiers-at.ensures).1 in
    rw (whole T) (ready-whole T _ _ _ at
    (omega (arith, c.if-words-n.false, clear.auto.words, ap length (mid-rest header_words w), length-drop header_words w))
    (omega (arith, c.if-names-n.false, clear.auto.names)))

pub encoding_or_none-requires : goal.encoding_or_none-requires
encoding_or_none-requires c =
    let a = c.args in
    let strip = c.strip_leading_qualifiers-at in
    let clear = c.clear_sheet in
    let i = c.parse_inner-p in
    let T : List ℕ = a.text.now in
    let z : Lists = lists i.new.words i.new.names in
    joined-fits T strip.result a.words.now clear.new.words a.names.now clear.new.names _ z i.result c.if-words-n.false c.if-names-n.false
    (strip-place T _ strip.ensures).1 clear.auto.words i.auto.words clear.auto.names i.auto.names
    (rw (whole T) at i.ensures).bound

pub returns : goal.returns
returns c =
    let a = c.args in
    let i = c.parse_inner-p in
    let T : List ℕ = a.text.now in
    let z : Lists = lists i.new.words i.new.names in
    let strip = strip-place T _ c.strip_leading_qualifiers-at.ensures in
    let clear = c.clear_sheet.ensures in
    let ends = c.encoding_or_none.ensures in
    entered a.strict T a.words.now a.names.now c.strip_leading_qualifiers-at.result _ _ z i.result _ _ _ c.if-n-gt-MAX_TEXT.false c.if-words-n.false
    c.if-names-n.false
    strip.1 strip.0 clear.0 clear.1 (rw (whole T) at i.ensures) ends.0.0 ends.0.1 ends.1
