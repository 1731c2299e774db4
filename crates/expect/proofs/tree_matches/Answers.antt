use lib.ListN.{drop}
use Rattle.kinds.proofs.ListLaws.{whole}
use Rattle.kinds.specs.Sheet.{trees}
use Rattle.parser.proofs.PlaceLaws.{strip-place}
use Rattle.expect.proofs.AnswerLaws.{decided, at_top}
use Rattle.expect.proofs.tree_matches.Goals as goal

pub expect_encoding-walked-requires : goal.expect_encoding-walked-requires
expect_encoding-walked-requires c = let p = strip-place c.args.text.now _ c.strip_leading_qualifiers-start.ensures in
    rw (whole, whole, whole) (record { trees_at = (c.requires.0, p.1); kinds_and_names = c.requires.1 })

pub returns : goal.returns
returns c =
    let a = c.args in
    let text = a.text.now in
    let t = trees a.names.now a.nodes.now a.n 0 in
    let start = c.strip_leading_qualifiers-start.result in
    let r = c.expect_encoding-walked.result in
    let p = strip-place text start c.strip_leading_qualifiers-start.ensures in
    decided text t start r p.0 (at_top text (drop start text) t r c.new-top.ensures (rw (whole, whole, whole) at c.expect_encoding-walked.ensures))
    c.decide.ensures
