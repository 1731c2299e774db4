use native.Mathlib.Omega.{arith}
use Rattle.parse.proofs.Entry.{none-put}
use Rattle.parse.proofs.put_none.Goals as goal

pub returns : goal.returns
returns c =
    none-put c.args.words.now _ _ (omega (arith, c.requires)) c.put_node.ensures c.put_header.ensures
