use mathlib.Core.List.{List}
use Prim.Native.Nat.{ℕ, ◌-◌}
use lib.ListN.{length}
use borrow.Rule.Slice.PartMut.{same_len_mid}
use Rattle.kinds.specs.Sheet.{header_words}
use Rattle.parse.proofs.Entry.{code_put, first-cleared}
use Rattle.parse.proofs.put_code.Goals as goal

pub returns : goal.returns
returns c =
    let a = c.args in
    let w : List ℕ = a.words.now in
    let x = c.put_node in
    let y = c.put_node-2 in
    let same = same_len_mid header_words (length w - header_words) w x.new.words x.auto.words in
    (code_put a.p w x.new.words y.new.words _ c.requires.0 x.ensures same y.ensures c.put_header.ensures, first-cleared a.names.now c.requires.1)
