use Prim.Native.Nat.{ℕ}
use mathlib.Core.Path.{ap, sym, ◌∙◌}
use lib.ListN.{drop}
use Rattle.kinds.proofs.ListLaws.{whole}
use Rattle.kinds.specs.Expect.{expect_byte}
use Rattle.kinds.specs.Tree.{end, node, primitive}
use Rattle.parser.proofs.PlaceLaws.{strip-place}
use Rattle.expect.proofs.AnswerLaws.{decided, code-walk}
use Rattle.expect.proofs.FieldLaws.{code-taken}
use Rattle.expect.proofs.TextLaws.{same_outcome}
use Rattle.expect.proofs.code_matches.Goals as goal

pub returns-then-byte-ne0 : goal.returns-then-byte-ne0
returns-then-byte-ne0 c =
    let text = c.args.text.now in
    let k = c.args.kind in
    let start = c.strip_leading_qualifiers-start.result in
    let r = c.expect_byte.result in
    let p = strip-place text start c.strip_leading_qualifiers-start.ensures in
    let e = code-taken k (λ d. c.if-byte-ne0.true (c.code_byte-byte.ensures ∙ d)) (drop start text)
    ∙ ap (λ (b : ℕ). expect_byte b (drop start text)) (sym c.code_byte-byte.ensures) in
    decided text (node (primitive k) end end) start r p.0
    (code-walk text k (drop start text) r (same_outcome text r _ _ e c.expect_byte.ensures))
    c.decide.ensures

pub returns : goal.returns
returns c =
    let text = c.args.text.now in
    let k = c.args.kind in
    let start = c.strip_leading_qualifiers-start.result in
    let r = c.expect_primitive.result in
    let p = strip-place text start c.strip_leading_qualifiers-start.ensures in
    decided text (node (primitive k) end end) start r p.0 (code-walk text k (drop start text) r (rw whole at c.expect_primitive.ensures))
    c.decide-2.ensures
