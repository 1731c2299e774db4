use borrow.Author.Rules.{part_to_end}
use Rattle.expect.proofs.TextLaws.{bytes-stand, bytes-differ}
use Rattle.expect.proofs.expect_bytes.Goals as goal

pub returns-then-starts_with : goal.returns-then-starts_with
returns-then-starts_with c =
    let a = c.args in
    let s = bytes-stand a.bytes.now a.text.now a.at _ (rw part_to_end at c.starts_with.ensures.value) c.if-starts_with.true in
    (s.0, s.1 c.requires)

pub returns : goal.returns
returns c =
    let a = c.args in
    bytes-differ a.bytes.now a.text.now a.at _ (rw part_to_end at c.starts_with.ensures.value) c.if-starts_with.false
