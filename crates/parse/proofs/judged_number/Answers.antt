use mathlib.Core.Path.{refl}
use Rattle.parse.proofs.Judge.{number-refused, number-kept}
use Rattle.parse.proofs.judged_number.Goals as goal

pub returns-then-digits : goal.returns-then-digits
returns-then-digits c = number-refused c.args.number _ _ refl c.if-digits.true

pub returns : goal.returns
returns c = number-kept _ _ _ refl c.if-digits.false
