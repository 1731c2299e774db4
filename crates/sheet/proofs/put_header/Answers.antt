use mathlib.Core.Path.{sym}
use native.Mathlib.Omega.{arith}
use lib.ListN.{length-set}
use Rattle.kinds.specs.Sheet.{header_for}
use Rattle.sheet.proofs.PutLaws.{header-put, header-kept}
use Rattle.sheet.proofs.put_header.Goals as goal

pub returns-then-words-lt-HEADER : goal.returns-then-words-lt-HEADER
returns-then-words-lt-HEADER c = sym (header-kept c.args.nodes _ _ (omega arith))

pub returns-then-words-nodes : goal.returns-then-words-nodes
returns-then-words-nodes c = sym (header-kept c.args.nodes _ _ (omega arith))

pub bounds-words-1 : goal.bounds-words-1
bounds-words-1 c = simp length-set (omega arith)

pub bounds-words-2 : goal.bounds-words-2
bounds-words-2 c = simp length-set (omega arith)

pub returns : goal.returns
unfolding header_for
returns c = sym (header-put c.args.nodes _ _ (omega arith))
