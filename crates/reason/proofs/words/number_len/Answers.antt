use Prim.Native.Nat.{ℕ, ◌+◌}
use mathlib.Core.Path.{ap, sym, ◌∙◌}
use native.Mathlib.Omega.{arith}
use lib.ListN.{length}
use Rattle.kinds.specs.Print.{decimal}
use Rattle.static_str.proofs.NumberLaws.{decimal-fits}
use Rattle.reason.proofs.ValueLaws.{value-length, one-value-length, two-value-length}
use Rattle.reason.proofs.words.number_len.Goals as goal

pub returns-then-n-lt10 : goal.returns-then-n-lt10
returns-then-n-lt10 c = (one-value-length c.args.n c.if-n-lt10.true, omega arith)

pub returns-then-n-lt100 : goal.returns-then-n-lt100
returns-then-n-lt100 c = (two-value-length c.args.n c.if-n-lt10.false c.if-n-lt100.true, omega arith)

pub text_len-requires : goal.text_len-requires
text_len-requires c = omega (arith, c.static_int_str_len.ensures, decimal-fits c.args.n (omega arith))

pub returns : goal.returns
returns c = (
  c.text_len.ensures.0
      ∙ ap (λ (d : ℕ). 2 + length (decimal d) + d) c.static_int_str_len.ensures
      ∙ sym (value-length (decimal c.args.n)),
  c.text_len.ensures.1,
)
