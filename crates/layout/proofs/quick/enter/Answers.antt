use native.Mathlib.Omega.{arith}
use mathlib.Core.Path.{refl}
use Rattle.layout.proofs.WalkLaws.{walking-within, walking-count, walking-enter}
use Rattle.layout.proofs.quick.enter.Goals as goal

pub overflow_add-result-2 : goal.overflow_add-result-2
overflow_add-result-2 c =
    let b = walking-within c.requires.0 in
    let n = walking-count c.requires.0 c.requires.1 in
    let f = c.requires.0.few in
    omega arith

pub returns : goal.returns
returns c =
    (walking-enter c.requires.0 c.requires.1 c.requires.2 refl refl refl refl refl c.new.ensures.0 c.new.ensures.1, omega arith)
