use Rattle.numbers.proofs.NumberLaws.{few-digits, many-digits}
use Rattle.numbers.proofs.digits_taken.Goals as goal

pub returns-then-count-lt2 : goal.returns-then-count-lt2
returns-then-count-lt2 c = few-digits c.args.first _ c.if-count-lt2.true

pub returns : goal.returns
returns c = many-digits c.args.first _ c.if-count-lt2.false
