-- `static_str::short_len` meets its contract. Assumes nothing.
use mathlib.Core.Path.{ap, sym}
use borrow.Author.Rules.{rules}
use lib.ListN.{length}
use Rattle.static_str.proofs.NumberLaws.{decimal-one, decimal-two, decimal-three, decimal-four}
use Rattle.static_str.proofs.short_len.Goals as goal

pub returns-then-n-lt10 : goal.returns-then-n-lt10
returns-then-n-lt10 c = (sym (decimal-one _ c.if-n-lt10.true), search rules)

pub returns-then-n-lt100 : goal.returns-then-n-lt100
returns-then-n-lt100 c = (sym (ap length (decimal-two _ c.if-n-lt10.false c.if-n-lt100.true)), search rules)

pub returns-then-n-lt1000 : goal.returns-then-n-lt1000
returns-then-n-lt1000 c = (sym (ap length (decimal-three _ c.if-n-lt100.false c.if-n-lt1000.true)), search rules)

pub returns : goal.returns
returns c = (sym (ap length (decimal-four _ c.if-n-lt1000.false c.requires)), search rules)
