use native.Mathlib.Omega.{arith}
use Rattle.skip.proofs.RestLaws.{encoding-is}
use Rattle.signature.proofs.EntryLaws.{type-refused, entry-is}
use Rattle.signature.proofs.next_entry.Goals as goal

pub next_number-requires : goal.next_number-requires
next_number-requires c =
    let h = c.requires in
    let r = rw c.in-Ok.is at (encoding-is c.args.text.now c.args.at _ (omega arith) c.skip_encoding_or_none.ensures) in
    let on = r.onward h in
    (omega arith, r.within)

pub returns-in-Ok : goal.returns-in-Ok
returns-in-Ok c =
    let h = c.requires in
    let r = rw c.in-Ok.is at (encoding-is c.args.text.now c.args.at _ (omega arith) c.skip_encoding_or_none.ensures) in
    entry-is _ _ h _ r c.next_number.result c.next_number.ensures

pub returns-in-Err : goal.returns-in-Err
returns-in-Err c =
    let h = c.requires in
    let r = rw c.in-Err.is at (encoding-is c.args.text.now c.args.at _ (omega arith) c.skip_encoding_or_none.ensures) in
    rw c.own_place.ensures (type-refused _ _ h _ _ r.1 r.0)
