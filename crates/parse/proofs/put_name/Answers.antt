use mathlib.Core.Path.{◌≡◌, refl}
use borrow.Author.Rules.{rules}
use Rattle.std.specs.Prelude.{Err}
use native.Mathlib.Omega.{arith}
use Rattle.names.proofs.NameLaws.{name-is}
use Rattle.parse.proofs.Names.{name-copied, name-room}
use Rattle.parse.proofs.put_name.Goals as goal

pub slice_bounds-copy_name-count : goal.slice_bounds-copy_name-count
slice_bounds-copy_name-count c =
    let r = rw c.in_ok-e.was at (name-is _ _ _ _ c.requires.0 c.name_here.ensures) in
    omega (arith, r.some, r.passed, r.within, c.requires)

pub slice_bounds-copy_name-start : goal.slice_bounds-copy_name-start
slice_bounds-copy_name-start c =
    let r = rw c.in_ok-e.was at (name-is _ _ _ _ c.requires.0 c.name_here.ensures) in
    omega (arith, r.some, r.passed, r.within, c.requires)

pub slice_bounds-copy_name-end : goal.slice_bounds-copy_name-end
slice_bounds-copy_name-end c =
    let r = rw c.in_ok-e.was at (name-is _ _ _ _ c.requires.0 c.name_here.ensures) in
    omega (arith, r.some, r.passed, r.within, c.requires)

pub copy_name-requires : goal.copy_name-requires
copy_name-requires c =
    let r = rw c.in_ok-e.was at (name-is _ _ _ _ c.requires.0 c.name_here.ensures) in
    name-room _ _ _ _ _ _ _ r c.requires.1

pub overflow_sub-result : goal.overflow_sub-result
overflow_sub-result c =
    let r = rw c.in_ok-e.was at (name-is _ _ _ _ c.requires.0 c.name_here.ensures) in
    omega (arith, r.some, r.passed, r.within, c.requires)

pub overflow_add-result : goal.overflow_add-result
overflow_add-result c =
    let r = rw c.in_ok-e.was at (name-is _ _ _ _ c.requires.0 c.name_here.ensures) in
    omega (arith, r.some, r.passed, r.within, c.requires)

pub returns-in_err-e : goal.returns-in_err-e
returns-in_err-e c =
    let q : c.from_residual.result ≡ Err c.in_err-e.field-0.0 = search rules in
    rw q (rw c.in_err-e.was at (name-is _ _ _ _ c.requires.0 c.name_here.ensures), refl)

pub returns : goal.returns
returns c =
    let r = rw c.in_ok-e.was at (name-is _ _ _ _ c.requires.0 c.name_here.ensures) in
    name-copied _ _ _ _ _ _ _ _ r c.copy_name.ensures
