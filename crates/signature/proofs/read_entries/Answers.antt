use mathlib.Core.Path.{◌≡◌}
use borrow.Author.Rules.{rules}
use Rattle.std.specs.Prelude.{Err}
use Prim.Native.Nat.{◌-◌}
use native.Mathlib.Omega.{arith}
use Rattle.signature.proofs.AnswerLaws.{read-start, read_more, read-refused, read_all, read_length}
use Rattle.signature.proofs.read_entries.Goals as goal

pub loop-at-init : goal.loop-at-init
loop-at-init c = read-start _ _

pub next_entry-requires : goal.next_entry-requires
next_entry-requires c = c.loop-at-test.true

pub shape_of-list-in_err-entry : goal.shape_of-list-in_err-entry
shape_of-list-in_err-entry c = read_length _ _ _ _ _ c.loop-at.invariant

pub returns-in_err-entry : goal.returns-in_err-entry
returns-in_err-entry c =
    let l = c.loop-at in
    let q : c.from_residual.result ≡ Err c.in_err-entry.field-0.0 = search rules in
    rw q (read-refused _ _ _ _ _ l.invariant _ c.loop-at-test.true (rw c.in_err-entry.was at c.next_entry.ensures))

pub put_entry-requires : goal.put_entry-requires
put_entry-requires c =
    let l = c.loop-at in
    let e = rw c.in_ok-entry.was at c.next_entry.ensures in
    omega (arith, read_length _ _ _ _ _ l.invariant, l.invariant.few, e.onward, e.within, c.requires)

pub overflow_add-k : goal.overflow_add-k
overflow_add-k c =
    let l = c.loop-at in
    omega (arith, l.invariant.few, l.invariant.within, c.well_formed.0)

pub loop-at-smaller : goal.loop-at-smaller
loop-at-smaller c =
    let e = rw c.in_ok-entry.was at c.next_entry.ensures in
    omega (arith, e.onward, e.within)

pub loop-at-preserved : goal.loop-at-preserved
loop-at-preserved c =
    let l = c.loop-at in
    let e = rw c.in_ok-entry.was at c.next_entry.ensures in
    read_more _ _ _ _ _ l.invariant _ _ _ _ _ e c.put_entry.ensures

pub shape_of-list : goal.shape_of-list
shape_of-list c = read_length _ _ _ _ _ c.loop-at.invariant

pub returns : goal.returns
returns c = read_all _ _ _ _ _ c.loop-at.invariant c.loop-at-test.false
